-- The claims of 2.1, statement by statement of specs/Exactness.antt. In plain words: what is shown is the least chain of all that lead from
-- the stand-in to the object, each of its links is a capability that is there, and an object has a chain exactly if it is in the bound.
-- Assumes nothing.
use mathlib.Core.Path.{◌≡◌, refl, sym, ◌∙◌, ap}
use mathlib.Core.Bool.{Bool, true, false, not}
use mathlib.Core.List.{List}
use Prim.Native.Nat.{ℕ, zero, suc, ◌≤◌, ◌<◌}
use native.Mathlib.Omega.{arith}
use lib.Dec.{eqb}
use lib.ListN.{length, get_or}
use borrow.Author.Tests.{eqb-true, ne_eqb}
use Rattle.mask.specs.Sets.{has}
use Rattle.mask.proofs.Tests.{by_cases, and_true}
use Rattle.table.specs.declared.Capability.{Capability}
use Rattle.table.specs.declared.Table.{Table}
use Rattle.table.specs.Cells.{IsTable}
use Rattle.table.proofs.Lists.{get_d_padded}
use Rattle.table.proofs.Cells.{table_sized}
use Rattle.table.proofs.SoundFacts.{Sound, sound_facts}
use Rattle.bounds.specs.StandIn.{stand_in, bound_of}
use Rattle.confinement.specs.Refusals.{verdict_number, verdict_of}
use Rattle.confinement.proofs.TestFacts.{Facts, accepted_facts}
use Rattle.std.specs.Prelude.{Ok, Result}
use Rattle.walks.specs.declared.Walked.{Walked}
use Rattle.chains.specs.declared.ChainRefusal.{ChainRefusal}
use Rattle.walks.specs.Chains.{Chain, last, more, First, least_chain, walked}
use Rattle.walks.proofs.Shortest.{first_alone, none_shorter, walk_first, walk_length}
use Rattle.walks.proofs.Layered.{Walks}
use Rattle.walks.proofs.Lengths.{least_long, none_padded}
use Rattle.confinement.specs.Links.{linked, object_link}
use Rattle.chains.specs.Answers.{Done, chain_number, bad_object, chain_reply, chain_of, walked_in}
use Rattle.chains.specs.Exactness.{numbers_of, before, ChainTo, Reaches, by, Shows, LinkComputed, LinkOfTest, LinksThere, ChainShown, NoneShorter, NoneFirst, OnlyOne, ChainForBound, ShownForBound, AtMost63, NoneOnRefusal}
use Rattle.confinement.proofs.LinkFacts.{linked_link, link_linked, linked_test}
use Rattle.chains.proofs.Answered.{numbers_shown, fit_object, Found, done_found, found_reply, done_shown, refused_shown}
use Rattle.confinement.proofs.ObjectLinks.{edge_low, bound_low, bound_out}
use Rattle.chains.proofs.BoundChains.{bound_walks, bound_chain, chain_born, chain_bound}

-- a link for each place of a chain
abbrev before_in : ℕ → List ℕ → ℕ → ℕ
before_in x cs zero = x
before_in x cs (suc i) = get_or cs i 0

chain_at : (edge : ℕ → ℕ → Bool) {z x : ℕ} {cs : List ℕ} → Chain edge z x cs → (i : ℕ) → i < length cs → edge (before_in x cs i) (get_or cs i 0) ≡ true
chain_at edge (last e) zero h = e
chain_at edge (last e) (suc i) h = absurd (omega (arith, h))
chain_at edge (more e c) zero h = e
chain_at edge (more e c) (suc zero) h = chain_at edge c zero (omega (arith, h))
chain_at edge (more e c) (suc (suc i)) h = chain_at edge c (suc i) (omega (arith, h))

edge_linked : (t : Table) (members : ℕ) (list : List Capability) (u v : ℕ) → object_link t members list u v ≡ true → linked t members list u v ≡ true
unfolding object_link
edge_linked t members list u v e = (and_true (not (has v members)) (linked t members list u v) e).1

-- of an accepted test ------------------------------------------------------------------------------
module _ (t : Table) (members : ℕ) (list : List Capability) (table : IsTable t) (accepted : verdict_number (verdict_of t members list) ≡ 0) where
  abbrev ok : Facts t members list
  ok = accepted_facts t members list accepted

  abbrev d : Sound t
  d = sound_facts t (table_sized t table) ok.fine

  abbrev X : ℕ
  X = stand_in members

  abbrev edge : ℕ → ℕ → Bool
  edge = object_link t members list

  bound_fits : (z : ℕ) → has z (bound_of t members list) ≡ true → bad_object t members z ≡ false
  bound_fits z e = fit_object t members z (chain_born t members list d ok (bound_chain t members list d ok z e)) (bound_out t members list d ok z e)

  bound_found : (z : ℕ) → has z (bound_of t members list) ≡ true → Found t members list z
  bound_found z e = record { accepted = accepted; fit = bound_fits z e; inside = e }

  module _ (z : ℕ) (e : has z (bound_of t members list) ≡ true) where
    abbrev given : List ℕ
    given = least_chain edge X z

    abbrev walks : Walks edge (edge_low t members list d ok) z (bound_low t members list d ok z e) X
    walks = bound_walks t members list d ok z e

    given_long : length given ≡ suc walks.count
    given_long = ap length walks.walks ∙ walk_length edge (edge_low t members list d ok) z (bound_low t members list d ok z e) (suc walks.count) X

    given_shorter : (cs : List ℕ) → Chain edge z X cs → length given ≤ length cs
    given_shorter cs c = omega (arith, given_long, none_shorter edge (edge_low t members list d ok) z (bound_low t members list d ok z e) walks.exact c)

    given_first : (cs : List ℕ) → Chain edge z X cs → length cs ≡ length given → First given cs
    given_first cs c l = rw walks.walks
        (walk_first edge (edge_low t members list d ok) z (bound_low t members list d ok z e) walks.count X ok.low walks.exact c (l ∙ given_long))

-- of a chain that is shown ---------------------------------------------------------------------------
module _ (t : Table) (members : ℕ) (list : List Capability) (z : ℕ) (s : Shows t members list z) where
  abbrev found : Found t members list z
  found = done_found t members list z s.done

  abbrev least : List ℕ
  least = least_chain (object_link t members list) (stand_in members) z

  answer : chain_of t members list z ≡ Ok (walked least)
  answer = done_shown t members list z s.done

  shown_numbers : numbers_of (chain_of t members list z) ≡ least
  shown_numbers = ap numbers_of answer ∙ numbers_shown Done least (least_long (object_link t members list) (stand_in members) z)

  shown_count : (walked_in (chain_of t members list z)).count ≡ length least
  shown_count = ap (λ (r : Result Walked ChainRefusal). (walked_in r).count) answer

  least_chain_lem : ChainTo t members list z least
  least_chain_lem = let ok = accepted_facts t members list found.accepted in
      bound_chain t members list (sound_facts t (table_sized t s.table) ok.fine) ok z found.inside

  shown_at : (i : ℕ) → i < length least → get_or (walked_in (chain_of t members list z)).numbers i 0 ≡ get_or least i 0
  shown_at i h = ap (λ (r : Result Walked ChainRefusal). get_or (walked_in r).numbers i 0) answer
      ∙ get_d_padded 63 0 least i (omega (arith, least_long (object_link t members list) (stand_in members) z, h))

  before_at : (i : ℕ) → i < length least → before members (chain_of t members list z) i ≡ before_in (stand_in members) least i
  before_at zero h = refl
  before_at (suc i) h = shown_at i (omega (arith, h))

  pub numbers_long : length (numbers_of (chain_of t members list z)) ≡ (walked_in (chain_of t members list z)).count
  numbers_long = ap length shown_numbers ∙ sym shown_count

-- the statements ---------------------------------------------------------------------------------------
pub link_computed : LinkComputed
unfolding LinkComputed
link_computed t members list u v = (linked_link t members list u v, link_linked t members list u v)

pub link_of_test : LinkOfTest
unfolding LinkOfTest
link_of_test t members list a u v =
    let ok = accepted_facts t members list a.accepted in
    linked_test t members list (sound_facts t (table_sized t a.table) ok.fine) ok u v

pub links_there : LinksThere
unfolding LinksThere
links_there t members list z s i h =
    let g : i < length (least t members list z s) = omega (arith, h, shown_count t members list z s) in
    linked_link t members list _ _ (edge_linked t members list _ _
    (rw (before_at t members list z s i g, shown_at t members list z s i g) (chain_at (object_link t members list) (least_chain_lem t members list z s) i g)))

pub chain_shown : ChainShown
unfolding ChainShown
chain_shown t members list z s = rw (shown_numbers t members list z s) (least_chain_lem t members list z s)

pub shortest : NoneShorter
unfolding NoneShorter
shortest t members list z s cs c =
    let f = found t members list z s in
    omega (arith, shown_count t members list z s, given_shorter t members list s.table f.accepted z f.inside cs c)

pub none_first : NoneFirst
unfolding NoneFirst
none_first t members list z s cs c l =
    let f = found t members list z s in
    rw (shown_numbers t members list z s) (given_first t members list s.table f.accepted z f.inside cs c (l ∙ shown_count t members list z s))

pub only_one : OnlyOne
unfolding OnlyOne
only_one t members list z s cs least-is =
    let f = found t members list z s in
    let g = least_chain_lem t members list z s in
    let a = given_shorter t members list s.table f.accepted z f.inside cs least-is.chain in
    let b = least-is.shortest _ g in
    let l : length cs ≡ length (least t members list z s) = omega (arith, a, b) in
    first_alone (least-is.first _ g (sym l)) (given_first t members list s.table f.accepted z f.inside cs least-is.chain l)
    ∙ sym (shown_numbers t members list z s)

pub chain_for_bound : ChainForBound
unfolding ChainForBound
chain_for_bound t members list a z =
    let ok = accepted_facts t members list a.accepted in
    let d = sound_facts t (table_sized t a.table) ok.fine in
    (λ e. by (least_chain (object_link t members list) (stand_in members) z) (bound_chain t members list d ok z e), λ r. ends d ok r)
  where
    ends : Sound t → Facts t members list → Reaches t members list z → has z (bound_of t members list) ≡ true
    ends d ok (by cs c) = chain_bound t members list d ok c

pub shown_for_bound : ShownForBound
unfolding ShownForBound
shown_for_bound t members list a z = (
  λ e. ap chain_number (found_reply t members list z (bound_found t members list a.table a.accepted z e)),
  λ e. (done_found t members list z e).inside,
)

pub at_most_63 : AtMost63
unfolding AtMost63
at_most_63 t members list z = by_cases (eqb (chain_number (chain_reply t members list z)) 0)
    (λ e. omega (arith, ap (λ (r : Result Walked ChainRefusal). (walked_in r).count) (done_shown t members list z (eqb-true _ 0 e)), least_long (object_link t members list) (stand_in members) z))
    (λ e. omega (arith, ap (λ (w : Walked). w.count) (refused_shown t members list z e).1))

pub none_on_refusal : NoneOnRefusal
unfolding NoneOnRefusal
none_on_refusal t members list z k e =
    let r = (refused_shown t members list z (ap (λ (n : ℕ). eqb n 0) e ∙ ne_eqb (suc k) 0 (λ q. absurd (omega arith)))).1 in
    (ap (λ (w : Walked). w.count) r, ap (λ (w : Walked). w.numbers) r ∙ sym none_padded)
