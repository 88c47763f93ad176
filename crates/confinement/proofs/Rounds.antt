-- The claims of 2.6. In plain words: the rounds that add an object are the first ones, as many as the test reports; what is there after
-- them is the bound; there is none exactly where the bound is empty, and there are at most 63, since the stand-in takes one of 64 numbers;
-- and no byte of a member enters the number. Assumes nothing.
use mathlib.Core.Path.{◌≡◌, refl, sym, ◌∙◌, ap, ap₂, fun_ext}
use mathlib.Core.Logic.{◌≢◌, ◌↔◌}
use mathlib.Core.Bool.{Bool, true, false, not, ◌&&◌, ◌||◌}
use mathlib.Core.List.{List}
use Prim.Native.Nat.{ℕ, zero, suc, ◌≤◌, ◌<◌}
use native.Mathlib.Omega.{arith}
use lib.Dec.{ltb, eqb}
use borrow.Author.Tests.{ltb-true, eqb-true}
use Rattle.mask.specs.Sets.{has}
use Rattle.mask.proofs.Tests.{by_cases, clash, bool_ext, and_true, and_intro, or_cases, or_left}
use Rattle.mask.proofs.Below.{any_ext}
use Rattle.mask.proofs.Bits.{bits_ext}
use Rattle.table.specs.declared.Capability.{Capability}
use Rattle.table.specs.declared.Table.{Table}
use Rattle.table.proofs.SoundFacts.{Sound}
use Rattle.relation.specs.Relation.{Holding}
use Rattle.relation.specs.Closure.{link, reached}
use Rattle.relation.specs.Helpers.{count}
use Rattle.links.specs.Links.{capability_link}
use Rattle.links.specs.Rounds.{there_after, rounds_from}
use Rattle.links.specs.Helpers.{spread_of}
use Rattle.links.proofs.Added as Added
use Rattle.bounds.specs.StandIn.{stand_in, test_holding, bound_of}
use Rattle.bounds.specs.Agreement.{AgreeOutside}
use Rattle.bounds.proofs.Exact.{bound_lt}
use Rattle.confinement.specs.Links.{slots_link, list_link, linked, object_link}
use Rattle.confinement.specs.Rounds.{objects_after, rounds_of}
use Rattle.confinement.specs.Exactness.{RoundsBlind}
use Rattle.confinement.proofs.TestFacts.{Facts}
use Rattle.confinement.proofs.ObjectLinks.{edge_facts, bound_is, edge_beside}

module _ (t : Table) (members : ℕ) (list : List Capability) (d : Sound t) (ok : Facts t members list) where
  abbrev H : Holding
  H = test_holding t members list

  abbrev X : ℕ
  X = stand_in members

  abbrev edge : ℕ → ℕ → Bool
  edge = object_link t members list

  abbrev after : ℕ → ℕ
  after = objects_after t members list

  -- no link to an object leads to the stand-in, and the links of the test's holding are these beside it
  none : (u : ℕ) → edge u X ≡ false
  unfolding object_link
  none u = rw ok.lowest refl

  same : (u v : ℕ) → u < 64 → v < 64 → v ≢ X → link H u v ≡ edge u v
  same u v hu hv n = bool_ext _ _ (edge_beside t members list d ok u v n) (λ e. (edge_facts t members list d ok u v e).linked)

  -- what the code counts
  pub rounds_links : (spread_of (link H) X).rounds ≡ rounds_of t members list
  unfolding rounds_of
  rounds_links = Added.rounds_same edge X ok.low none (link H) same

  pub at_most : rounds_of t members list ≤ 63
  unfolding rounds_of
  at_most = Added.at_most_63 edge X ok.low none

  pub counted : (k : ℕ) → (k < rounds_of t members list) ↔ (after (suc k) ≢ after k)
  unfolding rounds_of objects_after
  counted = Added.counted edge X ok.low none

  -- each object that is there is a non-member
  after_out : (k v : ℕ) → v < 64 → has v (after k) ≡ true → has v members ≡ false
  unfolding objects_after
  after_out zero v h e = clash e (Added.after_none edge X v)
  after_out (suc k) v h e = Added.after_elim edge X k v h e (after_out k v h)
      (λ f. (edge_facts t members list d ok X v f).out)
      (λ u hu f g. (edge_facts t members list d ok u v g).out)

  last_in : (v : ℕ) → v < 64 → has v (after (rounds_of t members list)) ≡ has v (bound_of t members list)
  unfolding rounds_of objects_after
  last_in v h = bool_ext _ _
      (λ e. bound_is t members list d ok v h ∙ and_intro _ _ (reaches ∙ or_left (has v (after (rounds_of t members list))) (eqb v X) e) (ap not (after_out (rounds_of t members list) v h e)))
      (λ e. let p = and_true (has v (reached (link H) X)) _ (sym (bound_is t members list d ok v h) ∙ e) in
      or_cases (has v (after (rounds_of t members list))) (eqb v X) (sym reaches ∙ p.0)
      (λ f. f)
      (λ f. clash p.1 (ap not (ap (λ (n : ℕ). has n members) (eqb-true v X f) ∙ ok.lowest))))
    where
      reaches : has v (reached (link H) X) ≡ (has v (after (rounds_of t members list)) || eqb v X)
      reaches = Added.last_reached edge X ok.low none (link H) same v h

  pub last_bound : after (rounds_of t members list) ≡ bound_of t members list
  unfolding objects_after
  last_bound = bits_ext 64 _ _ (Added.after_low edge X (rounds_of t members list)) (bound_lt t members list) last_in

  pub zero_empty : rounds_of t members list ≡ 0 → bound_of t members list ≡ 0
  unfolding objects_after there_after
  zero_empty e = sym last_bound ∙ ap after e

  none_there : count 64 0 ≡ 0
  unfolding count
  none_there = refl

  pub empty_zero : bound_of t members list ≡ 0 → rounds_of t members list ≡ 0
  unfolding rounds_of objects_after
  empty_zero e = omega (arith, Added.few edge X, ap (count 64) (last_bound ∙ e) ∙ none_there)

-- no byte of a member ----------------------------------------------------------------------------
module _ (members : ℕ) (t u : Table) (same : AgreeOutside members t u) (list : List Capability) where
  slots_same : (n a b : ℕ) → slots_link t members n a b ≡ slots_link u members n a b
  unfolding slots_link
  slots_same n a b = by_cases (ltb n 64)
      (λ h. by_cases (has n members)
      (λ o. rw o refl)
      (λ o. ap (λ (k : Bool). ltb n 64 && (not (has n members) && k)) (any_ext 8 _ _ (λ j hj.
      ap (λ (c : Capability). capability_link n c a b) (same.slots n j (ltb-true n 64 h) hj o)))))
      (λ h. rw h refl)

  link_same : (a b : ℕ) → object_link t members list a b ≡ object_link u members list a b
  unfolding object_link linked
  link_same a b = ap₂ (λ (p q : Bool). not (has b members) && (p || q || list_link members list a b)) (slots_same a a b) (slots_same b a b)

pub rounds_blind : RoundsBlind
unfolding RoundsBlind rounds_of
rounds_blind members t u same list = ap (λ (edge : ℕ → ℕ → Bool). rounds_from edge (stand_in members)) (fun_ext (λ a. fun_ext (λ b. link_same members t u same list a b)))
