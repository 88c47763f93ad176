-- The theorem of 2.9: what x has by groups is what the rules give it. The argument: a group is what bonds reach, which is the row of rd, wr
-- and tx; wk goes along links taken back, and links lead from y to x exactly if they lead back from x to y. Assumes nothing.
use mathlib.Core.Path.{◌≡◌, refl, sym, ◌∙◌, ap}
use mathlib.Core.Bool.{true, not}
use mathlib.Core.List.{List}
use Prim.Native.Nat.{ℕ, ◌/◌, ◌%◌, ◌^◌, ◌<◌}
use Rattle.mask.specs.Sets.{has}
use Rattle.mask.proofs.Tests.{by_cases, clash, bool_ext, and_true, and_intro, or_cases, or_left, or_right}
use Rattle.mask.proofs.Bits.{has_bits, bits_lt, bits_ext}
use Rattle.table.specs.Soundness.{sound}
use Rattle.table.proofs.Lists.{length_tabulate, get_d_tabulate, as_tabulate}
use Rattle.relation.specs.Relation.{Right, rd, wr, wk, tx, Holding, Can, self, reads, writes, right_at, table_holding}
use Rattle.relation.specs.Closure.{reached, link, link_back, row_of}
use Rattle.relation.specs.Exactness.{Low}
use Rattle.relation.proofs.Reach.{Path, stay, step, turn, reached_lt, reached_path, path_reached}
use Rattle.relation.proofs.Exact.{part_facts, link_part, edge_low, links_can, means, row_can, can_row, row_lt, table_low}
use Rattle.access.proofs.Marks.{has_low}
use Rattle.std.specs.Prelude.{Ok}
use Rattle.access.specs.Answers.{access_of}
use Rattle.groups.specs.Groups.{group_of, leads_to, outside_leads_to, has_by_groups, row_by_groups}
use Rattle.groups.specs.Answers.{access_by_groups}
use Rattle.groups.specs.Exactness.{LeastByGroups, SameRows, SameAccess, OneGroup, OutsideWkAlone}

-- a group is the row of rd
group_row : (h : Holding) (x : ℕ) → group_of h x ≡ row_of h rd x
unfolding group_of row_of
group_row h x = refl

module _ (h : Holding) (low : Low h) where
  link_low : (u v : ℕ) → link h u v ≡ true → (u < 64) × (v < 64)
  link_low u v e = let p = edge_low h low wk v u e in (p.1, p.0)

  -- links lead to who takes part
  pub end_part : {y x : ℕ} → h.node y ≡ true → Path (link h) y x → h.node x ≡ true
  end_part p stay = p
  end_part p (step {y = u} {z = v} q e) = (part_facts h u v (link_part h u v e)).1

  group_can : (x y : ℕ) → y < 64 → has y (group_of h x) ≡ true → Can h rd x y
  group_can x y l e = row_can h low rd x y l (ap (has y) (sym (group_row h x)) ∙ e)

  can_group : (x y : ℕ) → Can h rd x y → has y (group_of h x) ≡ true
  can_group x y c = ap (has y) (group_row h x) ∙ can_row h low rd x y c

  -- one who has everything over y
  any_can : (b : Right) (x y : ℕ) → Can h rd x y → Can h b x y
  any_can b x y c = reads c (self (means h c).over)

  leads_can : (x y : ℕ) → leads_to h x y ≡ true → Can h wk x y
  unfolding leads_to
  leads_can x y e =
      let p = and_true (h.node y) _ e in
      let q = reached_path (link h) y x (has_low (reached (link h) y) x (reached_lt (link h) y) p.1) p.1 in
      links_can h (end_part p.0 q) (turn (link_back h) q)

  can_leads : (x y : ℕ) → Can h wk x y → leads_to h x y ≡ true
  unfolding leads_to
  can_leads x y c =
      let m = means h c in
      and_intro (h.node y) _ m.over (path_reached (link h) link_low y x (low y m.over) (turn (link h) m.links))

  wk_can : (x y : ℕ) → y < 64 → has_by_groups h wk x y ≡ true → Can h wk x y
  unfolding has_by_groups outside_leads_to
  wk_can x y l e = or_cases (has y (group_of h x)) _ e
      (λ p. any_can wk x y (group_can x y l p))
      (λ p. leads_can x y (and_true (not (has y (group_of h x))) _ p).1)

  can_wk : (x y : ℕ) → Can h wk x y → has_by_groups h wk x y ≡ true
  unfolding has_by_groups outside_leads_to
  can_wk x y c = by_cases (has y (group_of h x))
      (λ p. or_left (has y (group_of h x)) _ p)
      (λ p. or_right (has y (group_of h x)) _ (and_intro (not (has y (group_of h x))) _ (ap not p) (can_leads x y c)))

  pub has_can : (b : Right) (x y : ℕ) → y < 64 → has_by_groups h b x y ≡ true → Can h b x y
  unfolding has_by_groups
  has_can rd x y l e = group_can x y l e
  has_can wr x y l e = any_can wr x y (group_can x y l e)
  has_can wk x y l e = wk_can x y l e
  has_can tx x y l e = any_can tx x y (group_can x y l e)

  -- rd, wr and tx go together
  strong_group : (b : Right) (x y : ℕ) → row_of h b x ≡ row_of h rd x → Can h b x y → has y (group_of h x) ≡ true
  strong_group b x y e c = ap (has y) (group_row h x ∙ sym e) ∙ can_row h low b x y c

  wr_row : (x : ℕ) → row_of h wr x ≡ row_of h rd x
  unfolding row_of
  wr_row x = refl

  tx_row : (x : ℕ) → row_of h tx x ≡ row_of h rd x
  unfolding row_of
  tx_row x = refl

  pub can_has : (b : Right) (x y : ℕ) → Can h b x y → has_by_groups h b x y ≡ true
  unfolding has_by_groups
  can_has rd x y c = can_group x y c
  can_has wr x y c = strong_group wr x y (wr_row x) c
  can_has wk x y c = can_wk x y c
  can_has tx x y c = strong_group tx x y (tx_row x) c

  -- whoever x has a right over is a number of the table
  group_low : (x y : ℕ) → has y (group_of h x) ≡ true → y < 64
  group_low x y e = has_low (group_of h x) y (rw group_row (row_lt h rd x)) e

  pub over_low : (b : Right) (x y : ℕ) → has_by_groups h b x y ≡ true → y < 64
  unfolding has_by_groups outside_leads_to leads_to
  over_low rd x y e = group_low x y e
  over_low wr x y e = group_low x y e
  over_low wk x y e = or_cases (has y (group_of h x)) _ e (group_low x y) (λ p. low y (and_true (h.node y) _ (and_true (not (has y (group_of h x))) _ p).1).0)
  over_low tx x y e = group_low x y e

  has_row : (b : Right) (x y : ℕ) → y < 64 → has y (row_by_groups h b x) ≡ has_by_groups h b x y
  unfolding row_by_groups
  has_row b x y l = has_bits 64 y (has_by_groups h b x) l

  groups_lt : (b : Right) (x : ℕ) → row_by_groups h b x < 2 ^ 64
  unfolding row_by_groups
  groups_lt b x = bits_lt 64 _

  pub least : (b : Right) (x y : ℕ) → y < 64 → (has y (row_by_groups h b x) ≡ true → Can h b x y) × (Can h b x y → has y (row_by_groups h b x) ≡ true)
  least b x y l = ((λ e. has_can b x y l (sym (has_row b x y l) ∙ e)), (λ c. has_row b x y l ∙ can_has b x y c))

  pub rows : (b : Right) (x : ℕ) → row_by_groups h b x ≡ row_of h b x
  rows b x = bits_ext 64 _ _ (groups_lt b x) (row_lt h b x) (λ y l. bool_ext _ _
      (λ e. can_row h low b x y ((least b x y l).0 e))
      (λ e. (least b x y l).1 (row_can h low b x y l e)))

  -- a bond of a group is a bond of all of it
  one : (x y : ℕ) → x < 64 → y < 64 → has y (group_of h x) ≡ true → group_of h y ≡ group_of h x
  one x y hx hy e = bits_ext 64 _ _ (lt y) (lt x) (λ v hv. bool_ext _ _
      (λ f. can_group x v (reads c (group_can y v hv f)))
      (λ f. can_group y v (writes (any_can wr x y c) (group_can x v hv f))))
    where
      c : Can h rd x y
      c = group_can x y hy e

      lt : (z : ℕ) → group_of h z < 2 ^ 64
      lt z = rw group_row (row_lt h rd z)

-- the statements ------------------------------------------------------------------------------------
pub least_by_groups : LeastByGroups
unfolding LeastByGroups
least_by_groups = least

pub same_rows : SameRows
unfolding SameRows
same_rows = rows

pub same_access : SameAccess
unfolding SameAccess access_by_groups access_of
same_access t = by_cases (sound t)
    (λ e. rw (e, access_by_groups, access_of) (ap (λ (r : List ℕ). Ok r) (as_tabulate 256 _ 0 _ (length_tabulate 256 _)
    (λ k h. get_d_tabulate 256 _ k 0 h ∙ rows (table_holding t) (table_low t) (right_at (k / 64)) (k % 64)))))
    (λ e. rw (e, access_by_groups, access_of) refl)

pub one_group : OneGroup
unfolding OneGroup
one_group = one

pub outside_wk_alone : OutsideWkAlone
unfolding OutsideWkAlone
outside_wk_alone h low x y l e = record {
  no_rd = λ c. clash (can_group h low x y c) e;
  no_wr = λ c. clash (strong_group h low wr x y (wr_row h low x) c) e;
  no_tx = λ c. clash (strong_group h low tx x y (tx_row h low x) c) e;
}
