-- Document 01: "A table is sound when all of this holds", a definition for each clause, and the clause on makers of document 02, 2.7:
-- "A sound table has in it 64 or a born number, and for an unborn record 64 alone." Soundness computes, and every table value has its answer.
use Rattle.std.specs.Prelude.{Bool, not, ◌&&◌, ◌||◌, ℕ, leb, eqb}
use Rattle.mask.specs.Sets.{has, all_below}
use Rattle.table.specs.declared.Capability.{Capability}
use Rattle.table.specs.declared.Record.{Record}
use Rattle.table.specs.declared.Table.{Table}
use Rattle.table.specs.Cells.{no_maker, record_at, slot_at, maker_at, stock_at, is_alive, is_unborn, born_at, is_empty}

-- "Statuses and kinds have the values above"
abbrev pub values_sound : Record → Bool
values_sound r = leb r.status 2 && leb r.kind 1

-- "An unborn record has kind 0"
abbrev pub unborn_sound : Record → Bool
unborn_sound r = not (is_unborn r) || eqb r.kind 0

-- "Unborn and dead records have word 0, an empty stock and empty slots"
abbrev pub idle_sound : Record → Bool
idle_sound r = is_alive r || eqb r.word 0 && eqb r.stock 0

abbrev pub idle_slot_sound : Record → Capability → Bool
idle_slot_sound r c = is_alive r || is_empty c

-- the clauses that speak of the record alone
abbrev pub record_sound : Record → Bool
record_sound r = values_sound r && unborn_sound r && idle_sound r

-- "64 or a born number, and for an unborn record 64 alone", by whether the maker is born
abbrev pub maker_sound : Record → Bool → Bool
maker_sound r born = eqb r.maker no_maker || not (is_unborn r) && born

-- "A filled slot names a born target and has rights 1 to 15", by whether its target is born
abbrev pub filled_sound : Bool → Capability → Bool
filled_sound born c = is_empty c || born && leb 1 c.rights && leb c.rights 15

-- the clauses that speak of slot j of n
abbrev pub slot_sound : Table → ℕ → ℕ → Bool
slot_sound t n j = idle_slot_sound (record_at t n) (slot_at t n j) && filled_sound (born_at t (slot_at t n j).target) (slot_at t n j)

-- "Every number in a stock is unborn and is in no other stock", for the number k and the stock of n
unfoldable pub stock_sound : Table → ℕ → ℕ → Bool
stock_sound t n k =
    not (has k (stock_at t n)) || is_unborn (record_at t k) && all_below 64 (λ m. eqb m n || not (has k (stock_at t m)))

unfoldable pub sound_at : Table → ℕ → Bool
sound_at t n =
    record_sound (record_at t n) && maker_sound (record_at t n) (born_at t (maker_at t n)) && all_below 8 (slot_sound t n) && all_below 64 (stock_sound t n)

-- the table is sound
unfoldable pub sound : Table → Bool
sound t = all_below 64 (sound_at t)
