-- Links to objects, where the test is accepted: each is a link of the test's holding, to a non-member, and that holding has no other link
-- but those to the stand-in; and the bound is what links reach. Assumes nothing.
use mathlib.Core.Path.{◌≡◌, refl, sym, ◌∙◌}
use mathlib.Core.Logic.{◌≢◌}
use mathlib.Core.Bool.{Bool, true, false, not, ◌&&◌}
use mathlib.Core.List.{List}
use Prim.Native.Nat.{ℕ, ◌<◌}
use lib.Dec.{ltb}
use borrow.Author.Tests.{ltb-true, ltb-false, not-true}
use Rattle.mask.specs.Sets.{has}
use Rattle.mask.proofs.Tests.{by_cases, clash, and_true, and_intro}
use Rattle.mask.proofs.Bits.{has_high}
use Rattle.table.specs.declared.Capability.{Capability}
use Rattle.table.specs.declared.Table.{Table}
use Rattle.table.proofs.SoundFacts.{Sound}
use Rattle.relation.specs.Relation.{Holding}
use Rattle.relation.specs.Closure.{both_take_part, link, reached, influenced_set}
use Rattle.bounds.specs.StandIn.{stand_in, test_node, test_holding, bound_of}
use Rattle.bounds.proofs.Exact.{node_low, bound_bit, bound_lt}
use Rattle.bounds.proofs.Holding.{node_x, node_x_only}
use Rattle.confinement.specs.Links.{object_link}
use Rattle.confinement.proofs.TestFacts.{Facts}
use Rattle.confinement.proofs.LinkFacts.{linked_test}

module _ (t : Table) (members : ℕ) (list : List Capability) (d : Sound t) (ok : Facts t members list) where
  abbrev H : Holding
  H = test_holding t members list

  abbrev X : ℕ
  X = stand_in members

  abbrev edge : ℕ → ℕ → Bool
  edge = object_link t members list

  -- it is a link of the test's holding, to a non-member
  pub record Edge (u v : ℕ) : Type 0 where
    pub out : has v members ≡ false
    pub linked : link H u v ≡ true

  pub edge_facts : (u v : ℕ) → edge u v ≡ true → Edge u v
  unfolding object_link
  edge_facts u v e = let p = and_true (not (has v members)) _ e in record { out = not-true _ p.0; linked = sym (linked_test t members list d ok u v) ∙ p.1 }

  edge_intro : (u v : ℕ) → has v members ≡ false → link H u v ≡ true → edge u v ≡ true
  unfolding object_link
  edge_intro u v o e = and_intro (not (has v members)) _ (rw o refl) (linked_test t members list d ok u v ∙ e)

  pub link_nodes : (u v : ℕ) → link H u v ≡ true → (test_node t members u ≡ true) × (test_node t members v ≡ true)
  unfolding link both_take_part
  link_nodes u v e = and_true (test_node t members u) (test_node t members v) (and_true (test_node t members u && test_node t members v) _ e).0

  pub link_low : (u v : ℕ) → link H u v ≡ true → (u < 64) × (v < 64)
  link_low u v e = let n = link_nodes u v e in (node_low t members list u n.0, node_low t members list v n.1)

  pub edge_low : (u v : ℕ) → edge u v ≡ true → (u < 64) × (v < 64)
  edge_low u v e = link_low u v (edge_facts u v e).linked

  -- the bound is what links reach from the stand-in -----------------------------------------------
  pub bound_low : (z : ℕ) → has z (bound_of t members list) ≡ true → z < 64
  bound_low z e = by_cases (ltb z 64) (ltb-true z 64)
      (λ q. clash e (has_high z (bound_of t members list) 64 (bound_lt t members list) (ltb-false z 64 q)))

  pub bound_is : (z : ℕ) → z < 64 → has z (bound_of t members list) ≡ (has z (reached (link H) X) && not (has z members))
  unfolding influenced_set
  bound_is z h = bound_bit t members list z h ∙ rw (node_x t members ok.low, influenced_set) refl

  -- a link to anybody but the stand-in leads to a non-member
  pub edge_beside : (u v : ℕ) → v ≢ X → link H u v ≡ true → edge u v ≡ true
  edge_beside u v n e = by_cases (has v members) (λ m. absurd (n (node_x_only t members v (link_nodes u v e).1 m))) (λ m. edge_intro u v m e)

  pub bound_out : (z : ℕ) → has z (bound_of t members list) ≡ true → has z members ≡ false
  bound_out z e = not-true _ (and_true (has z (reached (link H) X)) _ (sym (bound_is z (bound_low z e)) ∙ e)).1

  pub bound_apart : (z : ℕ) → has z (bound_of t members list) ≡ true → (X ≡ z → ⊥)
  bound_apart z e q = clash ok.lowest (rw (← q) at (bound_out z e))
