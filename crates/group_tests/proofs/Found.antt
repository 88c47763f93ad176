-- What the code's pass over slots found: its words are the links of the test, and something held out of the set is a member held, on a sound table.
-- Assumes nothing.
use mathlib.Core.Path.{◌≡◌, refl, sym, ◌∙◌, ap, ap₂}
use mathlib.Core.Bool.{Bool, true, false, not}
use mathlib.Core.List.{List}
use Prim.Native.Nat.{ℕ, ◌≤◌, ◌<◌}
use native.Mathlib.Omega.{arith}
use lib.Dec.{eqb}
use borrow.Author.Tests.{eqb-true, eqb-false, eq-eqb, ne_eqb, not-true}
use Rattle.mask.specs.Sets.{has, less_of}
use Rattle.mask.proofs.Tests.{by_cases, by_eq, clash, bool_ext, and_true, and_intro, or_assoc}
use Rattle.mask.proofs.Below.{any_intro, any_elim}
use Rattle.table.specs.declared.Capability.{Capability}
use Rattle.table.specs.declared.Table.{Table}
use Rattle.table.specs.Cells.{slot_at, is_empty}
use Rattle.table.specs.Soundness.{sound}
use Rattle.table.proofs.Cells.{Sized}
use Rattle.table.proofs.SoundFacts.{Sound, sound_facts}
use Rattle.relation.specs.Relation.{wk, takes_part}
use Rattle.relation.specs.Closure.{holds_strong}
use Rattle.relation.proofs.Tables.{takes_part_lem}
use Rattle.access.specs.Answers.{born_outside}
use Rattle.access.proofs.TableWords.{outside_facts, outside_intro}
use Rattle.links.specs.declared.Spread.{Spread}
use Rattle.links.specs.Links.{words_of, link_words, word_edge, slot_held, slot_holding, joined, entry_link}
use Rattle.links.specs.Helpers.{spread_of}
use Rattle.links.proofs.Edges.{words_same}
use Rattle.links.proofs.Unions.{link_held, link_held_lem}
use Rattle.links.proofs.Holdings.{slot_among}
use Rattle.held.specs.Helpers.{joins_either, held_astray}
use Rattle.bounds.specs.declared.EntryList.{EntryList}
use Rattle.bounds.specs.declared.Grown.{Grown}
use Rattle.bounds.specs.StandIn.{entries_of, lowest_from, stand_in}
use Rattle.bounds.specs.Helpers.{bound_grown}
use Rattle.bounds.proofs.Passing.{lowest_from_lem}
use Rattle.bounds.proofs.TestLinks.{code_links, bound_answer}
use Rattle.confinement.specs.Refusals.{member_held}
use Rattle.sweeps.specs.Helpers.{Lowest}
use Rattle.group_tests.specs.Helpers.{spread_along, grown_along}

-- with wk, what joins is a link
joins_links : (slots : List Capability) (among : ℕ) → words_of (joins_either true (slot_holding slots among)) ≡ link_words (slot_holding slots among)
unfolding joins_either link_words link_held holds_strong
joins_links slots among = words_same _ _ (λ x y hx hy. sym (link_held_lem (slot_holding slots among) x y (slot_among slots among)
    ∙ or_assoc (holds_strong (slot_holding slots among) x y) (holds_strong (slot_holding slots among) y x) (slot_held slots among wk y x)))

-- the lowest member is where the stand-in sits
pub stands : (members n : ℕ) → Lowest members n → n ≡ stand_in members
unfolding stand_in
stands members n q =
    let l = lowest_from_lem (λ k. has k members) 64 0 n (omega arith) (omega (arith, q.low)) q.there in
    by_eq n (stand_in members) (λ e. e) (λ e. clash l.passes (q.first (stand_in members) (omega (arith, e, l.least))))

-- where the stand-in has a number there is a member
pub some_member : (members : ℕ) → stand_in members < 64 → 0 < members
unfolding stand_in lowest_from
some_member members h = by_eq members 0
    (λ e. absurd (omega (arith, h, ap stand_in e, nobody)))
    (λ e. omega (arith, e))
  where
    nobody : stand_in 0 ≡ 64
    nobody = refl

-- the bound along the words of the test
pub grown_is : (words all : List ℕ) (members x objects : ℕ) (l : EntryList) (outside : ℕ) (spread : Spread) → x ≡ stand_in members
    → all ≡ joined words (entry_link l.entries l.count outside x) → spread ≡ spread_of (word_edge all) x → objects ≡ less_of spread.set members
    → record { bound = objects; rounds = spread.rounds } ≡ grown_along words members l outside
unfolding grown_along
grown_is words all members x objects l outside spread e f g o =
    let s : spread ≡ spread_along words members l outside = g ∙ rw (f, e) refl in
    ap₂ (λ (a b : ℕ). record { bound = a; rounds = b }) (o ∙ ap (λ (r : Spread). less_of r.set members) s) (ap (λ (r : Spread). r.rounds) s)

pub grown_bound : (t : Table) (members : ℕ) (l : EntryList) (outside : ℕ) (words : List ℕ) (found : Grown) → stand_in members < 64 → outside ≡ born_outside t.records members
    → words ≡ words_of (joins_either true (slot_holding t.slots outside)) → found ≡ grown_along words members l outside → found ≡ bound_grown t members (entries_of l)
unfolding grown_along
grown_bound t members l outside words found low o w f =
    f ∙ bound_answer t members l (stand_in members) _ (joined words (entry_link l.entries l.count outside (stand_in members))) (spread_along words members l outside) low refl
    (code_links t members l outside (stand_in members) _ low o refl
    (ap (λ (v : List ℕ). joined v (entry_link l.entries l.count outside (stand_in members))) (w ∙ joins_links t.slots outside)))
    refl refl

-- row 13 -----------------------------------------------------------------------------------------------
module _ (t : Table) (members : ℕ) (d : Sound t) where
  abbrev outside : ℕ
  outside = born_outside t.records members

  filled : (n j : ℕ) → j < 8 → is_empty (slot_at t n j) ≡ false → 1 ≤ (slot_at t n j).rights
  filled n j h e = by_eq (slot_at t n j).rights 0
      (λ z. clash (and_intro (eqb (slot_at t n j).target 0) _ (eq-eqb _ 0 ((d.slots n j h).blank z)) (eq-eqb _ 0 z)) e)
      (λ z. omega (arith, z))

  named : (n j : ℕ) → j < 8 → 1 ≤ (slot_at t n j).rights → (takes_part t n ≡ true) × (takes_part t (slot_at t n j).target ≡ true)
  named n j h r = (takes_part_lem t d n (omega (arith, (d.slots n j h).held r)), takes_part_lem t d (slot_at t n j).target ((d.slots n j h).named r))

  member_is : held_astray t.slots outside ≡ member_held t members
  unfolding held_astray member_held
  member_is = bool_ext _ _
      (λ e. any_elim 64 _ e (λ n hn a.
      let p = and_true (has n outside) _ a in
      any_elim 8 _ p.1 (λ j hj b.
      let c = slot_at t n j in
      let q = and_true (not (eqb c.rights 0)) _ b in
      let r : 1 ≤ c.rights = omega (arith, eqb-false c.rights 0 (not-true _ q.0)) in
      any_intro 64 _ n hn (and_intro (not (has n members)) _ (ap not (outside_facts t members n p.0).1)
      (any_intro 8 _ j hj (and_intro (not (is_empty c)) _ (not_empty c r)
      (by_cases (has c.target members) (λ z. z)
      (λ z. clash (outside_intro t members c.target (named n j hj r).1 z) (not-true _ q.1)))))))))
      (λ e. any_elim 64 _ e (λ n hn a.
      let p = and_true (not (has n members)) _ a in
      any_elim 8 _ p.1 (λ j hj b.
      let c = slot_at t n j in
      let q = and_true (not (is_empty c)) _ b in
      let r = filled n j hj (not-true _ q.0) in
      any_intro 64 _ n hn (and_intro (has n outside) _ (outside_intro t members n (named n j hj r).0 (not-true _ p.0))
      (any_intro 8 _ j hj (and_intro (not (eqb c.rights 0)) _ (ap not (ne_eqb c.rights 0 (λ z. omega (arith, r, z))))
      (ap not (by_cases (has c.target outside) (λ z. clash q.1 (outside_facts t members c.target z).1) (λ z. z)))))))))
    where
      not_empty : (c : Capability) → 1 ≤ c.rights → not (is_empty c) ≡ true
      not_empty c r = ap not (by_cases (is_empty c) (λ z. absurd (omega (arith, r, eqb-true c.rights 0 (and_true (eqb c.target 0) _ z).1))) (λ z. z))

pub astray_member : (t : Table) (members outside : ℕ) (b a : Bool) → Sized t → b ≡ sound t → b ≡ true → outside ≡ born_outside t.records members
    → a ≡ held_astray t.slots outside → a ≡ member_held t members
astray_member t members among b a z s e o h = h ∙ ap (held_astray t.slots) o ∙ member_is t members (sound_facts t z (sym s ∙ e))
