-- The bound by groups is the bound: one step of influence by groups is a step of influence by the rules, and links that lead from the stand-in to
-- y give y wk over it. Assumes nothing.
use mathlib.Core.Path.{◌≡◌, sym, ◌∙◌, ap}
use mathlib.Core.Bool.{true, not, ◌&&◌, ◌||◌}
use mathlib.Core.List.{List}
use Prim.Native.Nat.{ℕ, ◌^◌, ◌<◌}
use borrow.Author.Tests.{not-true}
use Rattle.mask.specs.Sets.{has}
use Rattle.mask.proofs.Tests.{bool_ext, and_true, and_intro, or_cases, or_right}
use Rattle.mask.proofs.Bits.{has_bits, bits_lt, bits_ext}
use Rattle.table.specs.declared.Capability.{Capability}
use Rattle.table.specs.declared.Table.{Table}
use Rattle.relation.specs.Relation.{Right, rd, wr, wk, tx, Holding, Can, Influences, by_wr, by_tx, by_rd, by_wk, Influenced, first}
use Rattle.relation.specs.Closure.{link_back}
use Rattle.relation.specs.Exactness.{Low}
use Rattle.relation.proofs.Reach.{turn}
use Rattle.relation.proofs.Exact.{links_can, influenced_links}
use Rattle.groups.specs.Groups.{has_by_groups}
use Rattle.groups.proofs.Exact.{end_part, has_can, can_has, over_low, least}
use Rattle.bounds.specs.StandIn.{stand_in, test_holding, bound_of}
use Rattle.bounds.proofs.Exact.{node_low, bound_lt, bound_only, bound_all}
use Rattle.group_tests.specs.Bounds.{influences_by_groups, bound_by_groups}
use Rattle.group_tests.specs.Exactness.{SameBound, BoundByGroupsExact, TestByGroups}

module _ (h : Holding) (low : Low h) where
  -- a step by groups is a step by the rules
  step_by_rules : (x y : ℕ) → influences_by_groups h x y ≡ true → Influences h x y
  unfolding influences_by_groups
  step_by_rules x y e = or_cases (has_by_groups h wr x y || has_by_groups h tx x y || has_by_groups h rd y x) _ e
      (λ p. or_cases (has_by_groups h wr x y || has_by_groups h tx x y) _ p
      (λ q. or_cases (has_by_groups h wr x y) _ q (λ r. by_wr (can wr x y r)) (λ r. by_tx (can tx x y r)))
      (λ q. by_rd (can rd y x q)))
      (λ p. by_wk (can wk y x p))
    where
      can : (b : Right) (u v : ℕ) → has_by_groups h b u v ≡ true → Can h b u v
      can b u v q = has_can h low b u v (over_low h low b u v q) q

  -- and all steps by the rules are one by groups
  steps_by_groups : (x y : ℕ) → Influenced h x y → influences_by_groups h x y ≡ true
  unfolding influences_by_groups
  steps_by_groups x y i =
      let p = influenced_links h i in
      or_right (has_by_groups h wr x y || has_by_groups h tx x y || has_by_groups h rd y x) _
      (can_has h low wk y x (links_can h (end_part h low p.0 p.1) (turn (link_back h) p.1)))

module _ (t : Table) (members : ℕ) (list : List Capability) where
  abbrev H : Holding
  H = test_holding t members list

  has_bound : (y : ℕ) → y < 64 → has y (bound_by_groups t members list) ≡ (not (has y members) && influences_by_groups H (stand_in members) y)
  unfolding bound_by_groups
  has_bound y l = has_bits 64 y (λ z. not (has z members) && influences_by_groups H (stand_in members) z) l

  groups_lt : bound_by_groups t members list < 2 ^ 64
  unfolding bound_by_groups
  groups_lt = bits_lt 64 _

  same : bound_by_groups t members list ≡ bound_of t members list
  same = bits_ext 64 _ _ groups_lt (bound_lt t members list) (λ y l. bool_ext _ _
      (λ e. let p = and_true (not (has y members)) _ (sym (has_bound y l) ∙ e) in
      bound_all t members list y l (not-true (has y members) p.0) (first (step_by_rules H (node_low t members list) (stand_in members) y p.1)))
      (λ e. let p = bound_only t members list y l e in
      has_bound y l ∙ and_intro (not (has y members)) _ (ap not p.0) (steps_by_groups H (node_low t members list) (stand_in members) y p.1)))

-- the statements ---------------------------------------------------------------------------------------
pub same_bound : SameBound
unfolding SameBound
same_bound = same

pub bound_by_groups_exact : BoundByGroupsExact
unfolding BoundByGroupsExact
bound_by_groups_exact t members list y h = (
  (λ e. bound_only t members list y h (ap (has y) (sym (same t members list)) ∙ e)),
  (λ p. ap (has y) (same t members list) ∙ bound_all t members list y h p.0 p.1),
)

pub test_by_groups : TestByGroups
unfolding TestByGroups
test_by_groups t members list = least (test_holding t members list) (node_low t members list)
