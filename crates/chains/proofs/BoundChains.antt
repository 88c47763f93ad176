-- Chains and the bound, where the test is accepted: a chain leads to each object of the bound and to no other number, and the least of
-- them is the walk through the layers. Links into the stand-in lead nowhere new from it (`path_into`), so that every number of a
-- chain is a non-member. Assumes nothing.
use mathlib.Core.Path.{◌≡◌, refl, sym, ◌∙◌}
use mathlib.Core.Bool.{Bool, true}
use mathlib.Core.List.{List}
use Prim.Native.Nat.{ℕ, ◌<◌}
use Rattle.mask.specs.Sets.{has}
use Rattle.mask.proofs.Tests.{and_true, and_intro}
use Rattle.table.specs.declared.Capability.{Capability}
use Rattle.table.specs.declared.Table.{Table}
use Rattle.table.proofs.SoundFacts.{Sound}
use Rattle.relation.specs.Relation.{Holding, takes_part}
use Rattle.relation.specs.Closure.{link, reached}
use Rattle.relation.proofs.Reach.{path_into, reached_path, path_reached}
use Rattle.bounds.specs.StandIn.{stand_in, test_holding, bound_of}
use Rattle.bounds.proofs.Holding.{node_born}
use Rattle.confinement.proofs.TestFacts.{Facts}
use Rattle.walks.specs.Chains.{Chain, last, more, least_chain}
use Rattle.confinement.specs.Links.{object_link}
use Rattle.walks.proofs.Shortest.{walk_chain, chain_path}
use Rattle.walks.proofs.Layered.{Walks, least_walks}
use Rattle.confinement.proofs.ObjectLinks.{edge_facts, link_nodes, link_low, edge_low, edge_beside, bound_low, bound_is, bound_apart}

module _ (t : Table) (members : ℕ) (list : List Capability) (d : Sound t) (ok : Facts t members list) where
  abbrev H : Holding
  H = test_holding t members list

  abbrev X : ℕ
  X = stand_in members

  abbrev edge : ℕ → ℕ → Bool
  edge = object_link t members list

  abbrev low : (u v : ℕ) → edge u v ≡ true → (u < 64) × (v < 64)
  low = edge_low t members list d ok

  bound_reached : (z : ℕ) → has z (bound_of t members list) ≡ true → has z (reached edge X) ≡ true
  bound_reached z e =
      let h = bound_low t members list d ok z e in
      let p = reached_path (link H) X z h (and_true (has z (reached (link H) X)) _ (sym (bound_is t members list d ok z h) ∙ e)).0 in
      path_reached edge low X z ok.low (path_into (link H) edge X (edge_beside t members list d ok) p)

  pub bound_walks : (z : ℕ) → (e : has z (bound_of t members list) ≡ true) → Walks edge low z (bound_low t members list d ok z e) X
  bound_walks z e = least_walks edge low z (bound_low t members list d ok z e) X ok.low (bound_apart t members list d ok z e) (bound_reached z e)

  -- In plain words: an object of the bound has its least chain
  pub bound_chain : (z : ℕ) → has z (bound_of t members list) ≡ true → Chain edge z X (least_chain edge X z)
  bound_chain z e =
      let w = bound_walks z e in
      rw w.walks (walk_chain edge low z (bound_low t members list d ok z e) w.count X ok.low w.exact)

  -- the last link of a chain
  chain_end : {P : Type 0} {z x : ℕ} {cs : List ℕ} → Chain edge z x cs → ((y : ℕ) → edge y z ≡ true → P) → P
  chain_end {x = x} (last e) f = f x e
  chain_end (more e c) f = chain_end c f

  -- In plain words: what a chain leads to is a born non-member, in the bound
  pub chain_born : {x z : ℕ} {cs : List ℕ} → Chain edge z x cs → takes_part t z ≡ true
  chain_born {x} {z} c = chain_end c (λ y e. let f = edge_facts t members list d ok y z e in node_born t members z (link_nodes t members list d ok y z f.linked).1 f.out)

  pub chain_bound : {z : ℕ} {cs : List ℕ} → Chain edge z X cs → has z (bound_of t members list) ≡ true
  chain_bound {z} c = chain_end c (λ y e.
      let f = edge_facts t members list d ok y z e in
      bound_is t members list d ok z (low y z e).1
      ∙ and_intro _ _ (path_reached (link H) (link_low t members list d ok) X z ok.low (path_into edge (link H) X (λ u v n q. (edge_facts t members list d ok u v q).linked) (chain_path edge low z (low y z e).1 c))) (rw f.out refl))
