-- The claim of 2.6 about chains. In plain words: a bound object is there after as many rounds as its chain has links, and not before; so
-- the number of rounds is the most links of any chain. Assumes nothing.
use mathlib.Core.Path.{◌≡◌, refl, sym, ◌∙◌, ap, subst, subst⁻¹}
use mathlib.Core.Bool.{Bool, true, false}
use mathlib.Core.List.{List}
use Prim.Native.Nat.{ℕ, zero, suc, ◌≤◌, ◌<◌}
use native.Mathlib.Omega.{arith}
use lib.Dec.{ltb, eqb}
use borrow.Author.Tests.{ltb-true, ltb-false, eqb-true, eq-eqb}
use Rattle.mask.specs.Sets.{has}
use Rattle.mask.proofs.Tests.{by_cases, by_eq, clash}
use Rattle.table.specs.declared.Capability.{Capability}
use Rattle.table.specs.declared.Table.{Table}
use Rattle.table.proofs.Cells.{table_sized}
use Rattle.table.proofs.SoundFacts.{sound_facts}
use Rattle.relation.proofs.Reach.{new_number}
use Rattle.links.proofs.Added.{after_low, after_keeps, after_mono}
use Rattle.walks.proofs.Rounds.{chain_after, after_chain}
use Rattle.bounds.specs.StandIn.{stand_in, bound_of}
use Rattle.confinement.specs.Refusals.{verdict_of}
use Rattle.confinement.specs.Links.{object_link}
use Rattle.confinement.specs.Rounds.{objects_after}
use Rattle.confinement.specs.Tests.{is_accepted, test_of, rounds_in}
use Rattle.confinement.specs.Exactness.{Accepts, RoundsCounted, LastIsBound}
use Rattle.confinement.proofs.TestFacts.{Facts, accepted_facts}
use Rattle.confinement.proofs.ObjectLinks.{edge_low}
use Rattle.confinement.proofs.Verdicts.{test_bound, test_none}
use Rattle.confinement.proofs.Reported.{rounds_counted, last_is_bound, by_verdict}
use Rattle.walks.specs.declared.Walked.{Walked}
use Rattle.chains.specs.Answers.{chain_number, chain_reply, chain_of, walked_in}
use Rattle.chains.specs.Exactness.{Shows, ChainShown, NoneShorter, ShownForBound, most_below, most_links, MostLinks}
use Rattle.chains.proofs.Answered.{done_found, refused_shown}
use Rattle.chains.proofs.Claims.{chain_shown, shortest, shown_for_bound, numbers_long}

-- the most of some numbers ---------------------------------------------------------------------
most_above : (n i : ℕ) (f : ℕ → ℕ) → i < n → f i ≤ most_below n f
unfolding most_below
most_above zero i f h = absurd (omega arith)
most_above (suc n) i f h = by_cases (ltb (most_below n f) (f n))
    (λ q. let g = ltb-true (most_below n f) (f n) q in rw (q, most_below) (by_eq i n
    (λ e. let k : f i ≡ f n = ap f e in omega (arith, k))
    (λ e. omega (arith, g, most_above n i f (omega arith)))))
    (λ q. let g = ltb-false (most_below n f) (f n) q in rw (q, most_below) (by_eq i n
    (λ e. let k : f i ≡ f n = ap f e in omega (arith, k, g))
    (λ e. most_above n i f (omega arith))))

most_least : (n m : ℕ) (f : ℕ → ℕ) → ((i : ℕ) → i < n → f i ≤ m) → most_below n f ≤ m
unfolding most_below
most_least zero m f g = omega arith
most_least (suc n) m f g = by_cases (ltb (most_below n f) (f n))
    (λ q. rw (q, most_below) (g n (omega arith)))
    (λ q. rw (q, most_below) (most_least n m f (λ i h. g i (omega arith))))

-- of an accepted test --------------------------------------------------------------------------
module _ (t : Table) (members : ℕ) (list : List Capability) (a : Accepts t members list) where
  abbrev edge : ℕ → ℕ → Bool
  edge = object_link t members list

  abbrev X : ℕ
  X = stand_in members

  abbrev after : ℕ → ℕ
  after = objects_after t members list

  abbrev rounds : ℕ
  rounds = rounds_in (test_of t members list)

  abbrev links : ℕ → ℕ
  links z = (walked_in (chain_of t members list z)).count

  ok : Facts t members list
  ok = accepted_facts t members list a.accepted

  low : (u v : ℕ) → edge u v ≡ true → (u < 64) × (v < 64)
  low = edge_low t members list (sound_facts t (table_sized t a.table) ok.fine) ok

  last_bound : after rounds ≡ bound_of t members list
  unfolding LastIsBound
  last_bound = last_is_bound t members list a ∙ test_bound t members list (eq-eqb _ 0 a.accepted)

  -- a shown object is there after as many rounds as its chain has links
  shown_there : (z : ℕ) → Shows t members list z → has z (after (links z)) ≡ true
  unfolding objects_after ChainShown
  shown_there z s = subst (λ (i : ℕ). has z (after i) ≡ true) (numbers_long t members list z s) (chain_after edge low X (chain_shown t members list z s))

  -- and not before
  no_sooner : (z k : ℕ) → z < 64 → Shows t members list z → has z (after k) ≡ true → links z ≤ k
  unfolding objects_after NoneShorter
  no_sooner z k h s e = let w = after_chain edge low X k z h e in omega (arith, shortest t members list z s w.numbers w.chain, w.few)

  in_bound : (z : ℕ) → has z (after rounds) ≡ true → Shows t members list z
  unfolding ShownForBound
  in_bound z e = record { table = a.table; done = (shown_for_bound t members list a z).0 (ap (has z) (sym last_bound) ∙ e) }

  each : (z : ℕ) → z < 64 → links z ≤ rounds
  unfolding ShownForBound
  each z h = by_cases (eqb (chain_number (chain_reply t members list z)) 0)
      (λ e. let d = eqb-true _ 0 e in
      no_sooner z rounds h (record { table = a.table; done = d }) (ap (has z) last_bound ∙ (shown_for_bound t members list a z).1 d))
      (λ e. omega (arith, ap (λ (w : Walked). w.count) (refused_shown t members list z e).1))

  -- the last round that adds an object adds one with so many
  some : (k : ℕ) → rounds ≡ suc k → rounds ≤ most_links t members list
  unfolding RoundsCounted most_links objects_after
  some k e = new_number (after k) (after (suc k)) (after_low edge X k) (after_low edge X (suc k)) (after_keeps edge X k)
      ((rounds_counted t members list a k).0 (omega (arith, e)))
      (λ z h out there.
      let s = in_bound z (subst⁻¹ (λ (r : ℕ). has z (after r) ≡ true) e there) in
      by_cases (ltb k (links z))
      (λ q. omega (arith, ltb-true k (links z) q, e, most_above 64 z links h))
      (λ q. clash (after_mono edge X (links z) k z h (ltb-false k (links z) q) (shown_there z s)) out))

  all : rounds ≤ most_links t members list
  all = by_number rounds refl
    where
      by_number : (n : ℕ) → rounds ≡ n → rounds ≤ most_links t members list
      by_number zero e = omega (arith, e)
      by_number (suc k) e = some k e

  accepted_most : rounds ≡ most_links t members list
  unfolding most_links
  accepted_most = omega (arith, all, most_least 64 rounds links each)

-- of a refused one no chain is shown
refused_none : (t : Table) (members : ℕ) (list : List Capability) (z : ℕ) → is_accepted (verdict_of t members list) ≡ false → (walked_in (chain_of t members list z)).count ≤ 0
refused_none t members list z q = by_cases (eqb (chain_number (chain_reply t members list z)) 0)
    (λ e. clash (eq-eqb _ 0 (done_found t members list z (eqb-true _ 0 e)).accepted) q)
    (λ e. omega (arith, ap (λ (w : Walked). w.count) (refused_shown t members list z e).1))

-- the statement --------------------------------------------------------------------------------
pub most_links_lem : MostLinks
unfolding MostLinks most_links
most_links_lem t v members list = by_verdict t v members list
    (λ a. accepted_most t members list a)
    (λ q. omega (arith, (test_none t members list q).0, most_least 64 0 (λ z. (walked_in (chain_of t members list z)).count) (λ z h. refused_none t members list z q)))
