-- Document 02, 2.9: the bound by groups. "For the bound, the holders are the non-members and the stand-in": the test's holding.
use Rattle.std.specs.Prelude.{Bool, not, ◌&&◌, ◌||◌, List, ℕ}
use Rattle.mask.specs.Sets.{has, bits}
use Rattle.table.specs.declared.Capability.{Capability}
use Rattle.table.specs.declared.Table.{Table}
use Rattle.relation.specs.Relation.{rd, wr, wk, tx, Holding}
use Rattle.groups.specs.Groups.{has_by_groups}
use Rattle.bounds.specs.StandIn.{stand_in, test_holding}

-- document 01: "x influences y when x has wr or tx over y, or y has rd or wk over x", by groups
unfoldable pub influences_by_groups : Holding → ℕ → ℕ → Bool
influences_by_groups h x y = has_by_groups h wr x y || has_by_groups h tx x y || has_by_groups h rd y x || has_by_groups h wk y x

-- "The bound is the set of non-members influenced by the stand-in". By groups one step of influence leads as far as any number of them:
-- links that lead on from where links led are links that lead there
unfoldable pub bound_by_groups : Table → ℕ → List Capability → ℕ
bound_by_groups t members list = bits 64 (λ y. not (has y members) && influences_by_groups (test_holding t members list) (stand_in members) y)
