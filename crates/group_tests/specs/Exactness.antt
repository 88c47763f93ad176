-- What 2.9 claims of the bound by groups, as statements; proofs/Exact.antt proves them.
use Rattle.std.specs.Prelude.{◌≡◌, ◌↔◌, true, false, List, ℕ, ◌<◌}
use Rattle.mask.specs.Sets.{has}
use Rattle.table.specs.declared.Capability.{Capability}
use Rattle.table.specs.declared.Table.{Table}
use Rattle.relation.specs.Relation.{Right, Can, Influenced}
use Rattle.groups.specs.Groups.{row_by_groups}
use Rattle.bounds.specs.StandIn.{stand_in, test_holding, bound_of}
use Rattle.group_tests.specs.Bounds.{bound_by_groups}

-- "and the same bound": for every table, sound or not, every set of members and every list
unfoldable pub SameBound : Type 0
SameBound = (t : Table) (members : ℕ) (list : List Capability) → bound_by_groups t members list ≡ bound_of t members list

-- so it is the set of non-members that the stand-in influences in the least relation
unfoldable pub BoundByGroupsExact : Type 0
BoundByGroupsExact = (t : Table) (members : ℕ) (list : List Capability) (y : ℕ) → y < 64
    → (has y (bound_by_groups t members list) ≡ true) ↔ ((has y members ≡ false) × Influenced (test_holding t members list) (stand_in members) y)

-- and what the stand-in and the non-members have by groups is what the rules give them
unfoldable pub TestByGroups : Type 0
TestByGroups = (t : Table) (members : ℕ) (list : List Capability) (b : Right) (x y : ℕ) → y < 64
    → (has y (row_by_groups (test_holding t members list) b x) ≡ true) ↔ Can (test_holding t members list) b x y
