-- What 2.9 claims of potential access by groups, as statements; proofs/Exact.antt proves them, proofs/Held.antt the last.
use Rattle.std.specs.Prelude.{◌≡◌, ◌↔◌, true, false, ℕ, ◌<◌}
use Rattle.mask.specs.Sets.{has}
use Rattle.table.specs.declared.Table.{Table}
use Rattle.table.specs.Cells.{slot_at, IsTable}
use Rattle.table.specs.Soundness.{sound}
use Rattle.relation.specs.Relation.{Right, rd, wr, tx, Holding, Can, table_holding}
use Rattle.relation.specs.Closure.{link, row_of}
use Rattle.relation.specs.Exactness.{Low}
use Rattle.access.specs.Answers.{access_of}
use Rattle.links.specs.Links.{capability_link}
use Rattle.groups.specs.Groups.{group_of, row_by_groups}
use Rattle.groups.specs.Answers.{access_by_groups}

-- by groups x has exactly the rights that the rules give it: it is the least relation, for every holding of numbers below 64, so for that of
-- every table and for that of every test
unfoldable pub LeastByGroups : Type 0
LeastByGroups = (h : Holding) → Low h → (b : Right) (x y : ℕ) → y < 64 → (has y (row_by_groups h b x) ≡ true) ↔ Can h b x y

unfoldable pub SameRows : Type 0
SameRows = (h : Holding) → Low h → (b : Right) (x : ℕ) → row_by_groups h b x ≡ row_of h b x

-- "It must give the same potential access as the rules on every sound table": on every table, as any other is refused by 1 either way
unfoldable pub SameAccess : Type 0
SameAccess = (t : Table) → access_by_groups t ≡ access_of t

-- "form one group": whoever is in the group of x has that group
unfoldable pub OneGroup : Type 0
OneGroup = (h : Holding) → Low h → (x y : ℕ) → x < 64 → y < 64 → has y (group_of h x) ≡ true → group_of h y ≡ group_of h x

-- "wk alone": over whoever is not in its group x has no other right
pub record WkAlone (h : Holding) (x y : ℕ) : Type 0 where
  pub no_rd : Can h rd x y → ⊥
  pub no_wr : Can h wr x y → ⊥
  pub no_tx : Can h tx x y → ⊥

unfoldable pub OutsideWkAlone : Type 0
OutsideWkAlone = (h : Holding) → Low h → (x y : ℕ) → y < 64 → has y (group_of h x) ≡ false → WkAlone h x y

-- "here every capability held in the table gives a link, members' included": slot j of n, whoever n is
pub data HeldLink (t : Table) (u v : ℕ) : Type 0 where
  held : (n j : ℕ) → n < 64 → j < 8 → capability_link n (slot_at t n j) u v ≡ true → HeldLink t u v

unfoldable pub EveryCapabilityLinks : Type 0
EveryCapabilityLinks = (t : Table) → IsTable t → sound t ≡ true → (u v : ℕ) → HeldLink t u v ↔ (link (table_holding t) u v ≡ true)
