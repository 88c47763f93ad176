-- Document 01, "The confinement test": "The bound uses the non-members and one stand-in in place of all members; the stand-in
-- holds exactly the list." The stand-in sits at the lowest member's own number, so that 64 numbers stay enough.
use Rattle.std.specs.Prelude.{Bool, true, false, not, ◌&&◌, List, ℕ, zero, suc, ltb, eqb, length, get_or}
use Rattle.mask.specs.Sets.{has, any_below, less_of}
use Rattle.table.specs.declared.Capability.{Capability}
use Rattle.table.specs.declared.Table.{Table}
use Rattle.table.specs.Lists.{tabulate}
use Rattle.table.specs.Cells.{empty_slot}
use Rattle.relation.specs.Relation.{Right, bit_at, Holding, takes_part, holds_in}
use Rattle.relation.specs.Closure.{influenced_set}
use Rattle.bounds.specs.declared.EntryList.{EntryList}

-- as many entries as the count says: a count above 8 is a list too long
unfoldable pub entries_of : EntryList → List Capability
entries_of l = tabulate l.count (λ k. get_or l.entries k empty_slot)

abbrev pub entry_at : List Capability → ℕ → Capability
entry_at list k = get_or list k empty_slot

-- "The rights listed for a target are the union over its entries"
unfoldable pub listed : List Capability → Right → ℕ → Bool
listed list b y = any_below (length list) (λ k. eqb (entry_at list k).target y && has (bit_at b) (entry_at list k).rights)

-- the lowest number from i on that passes the test, n numbers being looked at
unfoldable pub lowest_from : ℕ → ℕ → (ℕ → Bool) → ℕ
lowest_from zero i p = i
lowest_from (suc n) i p = elim (p i) [ true ↦ i | false ↦ lowest_from n (suc i) p ]

unfoldable pub stand_in : ℕ → ℕ
stand_in members = lowest_from 64 0 (λ n. has n members)

-- the test's holding: the stand-in and the born non-members; what a member holds, and what is held over a member, is left out
unfoldable pub test_node : Table → ℕ → ℕ → Bool
test_node t members n = elim (has n members) [ true ↦ ltb n 64 && eqb n (stand_in members) | false ↦ takes_part t n ]

unfoldable pub test_held : Table → ℕ → List Capability → Right → ℕ → ℕ → Bool
test_held t members list b x y =
    not (has y members)
    && (elim (has x members) [ true ↦ eqb x (stand_in members) && listed list b y | false ↦ holds_in t b x y ])

abbrev pub test_holding : Table → ℕ → List Capability → Holding
test_holding t members list = record { node = test_node t members; held = test_held t members list }

-- "The bound is the set of non-members influenced by the stand-in"
unfoldable pub bound_of : Table → ℕ → List Capability → ℕ
bound_of t members list = less_of (influenced_set (test_holding t members list) (stand_in members)) members
