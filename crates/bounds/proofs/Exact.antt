-- Two theorems on the bound. It is exact: a number is in it exactly if it is a non-member and the stand-in influences it in the
-- least relation of the test's holding. "No byte of a member enters it": two tables that agree on every non-member's record
-- and slots have the same bound, under the same members and list. Assumes nothing.
use mathlib.Core.Path.{◌≡◌, refl, sym, ◌∙◌, ap, ap₂, fun_ext}
use mathlib.Core.Bool.{Bool, true, false, not, ◌&&◌}
use mathlib.Core.List.{List}
use Prim.Native.Nat.{ℕ, ◌^◌, ◌<◌}
use lib.Dec.{ltb, eqb}
use borrow.Author.Tests.{ltb-true, not-true}
use Rattle.mask.specs.Sets.{has, less_of}
use Rattle.mask.proofs.Tests.{by_cases, and_true, and_intro}
use Rattle.mask.proofs.Below.{any_ext}
use Rattle.mask.proofs.Bits.{has_less, bits_lt}
use Rattle.table.specs.declared.Capability.{Capability}
use Rattle.table.specs.declared.Table.{Table}
use Rattle.relation.specs.Relation.{Right, rd, wr, wk, tx, Can, Influenced, takes_part, holds_in}
use Rattle.relation.specs.Closure.{influenced_set, row_of, link, both_take_part, holds_strong, reached}
use Rattle.relation.proofs.Exact.{set_influenced, influenced_set_lem, row_can, can_row}
use Rattle.relation.proofs.Tables.{part_same}
use Rattle.bounds.specs.StandIn.{stand_in, test_node, test_held, test_holding, bound_of}
use Rattle.bounds.specs.Agreement.{AgreeOutside}
use Rattle.bounds.specs.Exactness.{BoundExact, BoundBlind}

module _ (t : Table) (members : ℕ) (list : List Capability) where
  node_low_by : (m : Bool) (x : ℕ) → elim m as (λ k. Bool) [ true ↦ ltb x 64 && eqb x (stand_in members) | false ↦ takes_part t x ] ≡ true → x < 64
  unfolding takes_part
  node_low_by true x e = ltb-true x 64 (and_true (ltb x 64) _ e).0
  node_low_by false x e = ltb-true x 64 (and_true (ltb x 64) _ e).0

  pub node_low : (x : ℕ) → test_node t members x ≡ true → x < 64
  unfolding test_node
  node_low x e = node_low_by (has x members) x e

  pub bound_bit : (y : ℕ) → y < 64 → has y (bound_of t members list) ≡ (has y (influenced_set (test_holding t members list) (stand_in members)) && not (has y members))
  unfolding bound_of
  bound_bit y h = has_less y _ members h

  pub bound_lt : bound_of t members list < 2 ^ 64
  unfolding bound_of less_of
  bound_lt = bits_lt 64 _

  -- what is in the bound
  pub bound_only : (y : ℕ) → y < 64 → has y (bound_of t members list) ≡ true → (has y members ≡ false) × Influenced (test_holding t members list) (stand_in members) y
  bound_only y h e =
      let p = and_true (has y (influenced_set (test_holding t members list) (stand_in members))) _ (sym (bound_bit y h) ∙ e) in
      (not-true _ p.1, set_influenced (test_holding t members list) node_low (stand_in members) y h p.0)

  -- and all that is
  pub bound_all : (y : ℕ) → y < 64 → has y members ≡ false → Influenced (test_holding t members list) (stand_in members) y → has y (bound_of t members list) ≡ true
  bound_all y h o i = bound_bit y h ∙ and_intro _ _ (influenced_set_lem (test_holding t members list) node_low (stand_in members) y i) (rw o refl)

  -- the closure is the least relation of the test's holding too
  pub test_exact : (b : Right) (x y : ℕ) → y < 64
      → (has y (row_of (test_holding t members list) b x) ≡ true → Can (test_holding t members list) b x y)
      × (Can (test_holding t members list) b x y → has y (row_of (test_holding t members list) b x) ≡ true)
  test_exact b x y l = (row_can (test_holding t members list) node_low b x y l, can_row (test_holding t members list) node_low b x y)

module _ (members : ℕ) (t u : Table) (same : AgreeOutside members t u) (list : List Capability) where
  node_same : (n : ℕ) → test_node t members n ≡ test_node u members n
  unfolding test_node
  node_same n = by_cases (has n members) (λ e. rw (e, test_node) refl) (λ e. rw (e, test_node) (part_same t u n (λ l. same.records n l e)))

  held_same : (b : Right) (x y : ℕ) → x < 64 → test_held t members list b x y ≡ test_held u members list b x y
  unfolding test_held holds_in
  held_same b x y l = by_cases (has x members) (λ e. rw (e, test_held) refl)
      (λ e. rw (e, test_held) (ap (λ (w : Bool). not (has y members) && w) (any_ext 8 _ _ (λ j h. rw (same.slots x j l h e) refl))))

  -- no link of the one is missing in the other
  link_same : (x y : ℕ) → link (test_holding t members list) x y ≡ link (test_holding u members list) x y
  unfolding link both_take_part holds_strong
  link_same x y = by_cases (test_node u members x && test_node u members y)
      (λ e. let p = and_true (test_node u members x) (test_node u members y) e in
      let lx = node_low u members list x p.0 in
      let ly = node_low u members list y p.1 in
      cc (
        node_same x,
        node_same y,
        held_same rd x y lx,
        held_same wr x y lx,
        held_same tx x y lx,
        held_same rd y x ly,
        held_same wr y x ly,
        held_same tx y x ly,
        held_same wk y x ly,
      ))
      (λ e. rw (node_same x, node_same y, e) refl)

  pub bound_same : bound_of t members list ≡ bound_of u members list
  unfolding bound_of influenced_set
  bound_same = ap₂ (λ (node : Bool) (edge : ℕ → ℕ → Bool). less_of (elim node [ true ↦ reached edge (stand_in members) | false ↦ 0 ]) members)
      (node_same (stand_in members)) (fun_ext (λ x. fun_ext (λ y. link_same x y)))

-- the statements ---------------------------------------------------------------------------------------
pub bound_exact : BoundExact
unfolding BoundExact
bound_exact t members list y h = (bound_only t members list y h, λ p. bound_all t members list y h p.0 p.1)

pub bound_blind : BoundBlind
unfolding BoundBlind
bound_blind members t u same list = bound_same members t u same list
