-- Document 02, 2.9: potential access by groups, over a holding. The table is one holding ("here every capability held in the table gives a
-- link, members' included"), the confinement test's stand-in and non-members are another.
use Rattle.std.specs.Prelude.{Bool, true, false, not, ◌&&◌, ◌||◌, ℕ}
use Rattle.mask.specs.Sets.{has, bits}
use Rattle.relation.specs.Relation.{Right, rd, wr, wk, tx, Holding}
use Rattle.relation.specs.Closure.{reached, bond, link}

-- "objects joined by held rd, wr or tx, in either direction and through others, form one group": the group of x; who takes no part has none
unfoldable pub group_of : Holding → ℕ → ℕ
group_of h x = elim (h.node x) [ true ↦ reached (bond h) x | false ↦ 0 ]

-- "links as in 2.1 lead to x", from y
unfoldable pub leads_to : Holding → ℕ → ℕ → Bool
leads_to h x y = h.node y && has x (reached (link h) y)

-- "any born object outside its group from which links as in 2.1 lead to x"
unfoldable pub outside_leads_to : Holding → ℕ → ℕ → Bool
outside_leads_to h x y = not (has y (group_of h x)) && leads_to h x y

-- "x has all four rights over its group, and wk alone over any born object outside its group from which links as in 2.1 lead to x"
unfoldable pub has_by_groups : Holding → Right → ℕ → ℕ → Bool
has_by_groups h rd x y = has y (group_of h x)
has_by_groups h wr x y = has y (group_of h x)
has_by_groups h wk x y = has y (group_of h x) || outside_leads_to h x y
has_by_groups h tx x y = has y (group_of h x)

-- the numbers over which x has the right
unfoldable pub row_by_groups : Holding → Right → ℕ → ℕ
row_by_groups h b x = bits 64 (has_by_groups h b x)
