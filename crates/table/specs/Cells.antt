-- Document 01, "Objects, slots, rights": what stands where in a table, and the two ways in which a request changes it.
-- Objects are numbered 0 to 63, slots 0 to 7. An object number past the end reads as unborn, with empty slots; no definition
-- reads or puts a slot above 7 but after the check that refuses it.
use Rattle.std.specs.Prelude.{◌≡◌, Bool, ◌&&◌, ◌||◌, List, ℕ, ◌+◌, ◌*◌, ◌^◌, ◌<◌, eqb, length, get_or, set, replicate}
use Rattle.mask.specs.Sets.{has}
use Rattle.table.specs.declared.Capability.{Capability}
use Rattle.table.specs.declared.Record.{Record}
use Rattle.table.specs.declared.Table.{Table}

-- "Target 0 with rights 0 is an empty slot"
abbrev pub empty_slot : Capability
empty_slot = record { target = 0; rights = 0 }

-- document 02, 2.7: a record's maker is "the number of the object that made it, or 64 for an object not made in a run"
abbrev pub no_maker : ℕ
no_maker = 64

-- "unborn records have 64"
abbrev pub unborn_record : Record
unborn_record = record { status = 0; kind = 0; maker = no_maker; word = 0; stock = 0 }

-- the wholly unborn table
unfoldable pub unborn_table : Table
unborn_table = record { records = replicate 64 unborn_record; slots = replicate 512 empty_slot }

-- object n's record, and its slot j; what is read past the end is all zero, and so unborn
abbrev pub no_record : Record
no_record = record { status = 0; kind = 0; maker = 0; word = 0; stock = 0 }

abbrev pub record_at : Table → ℕ → Record
record_at t n = get_or t.records n no_record

abbrev pub slot_at : Table → ℕ → ℕ → Capability
slot_at t n j = get_or t.slots (n * 8 + j) empty_slot

-- the capability at a place of a list of them: of a table's slots, of a test's entries
abbrev pub slot_of : List Capability → ℕ → Capability
slot_of list k = get_or list k empty_slot

abbrev pub status_at : Table → ℕ → ℕ
status_at t n = (record_at t n).status

abbrev pub maker_at : Table → ℕ → ℕ
maker_at t n = (record_at t n).maker

abbrev pub stock_at : Table → ℕ → ℕ
stock_at t n = (record_at t n).stock

-- status: 0 unborn, 1 alive, 2 dead. "Born" means alive or dead
abbrev pub is_alive : Record → Bool
is_alive r = eqb r.status 1

abbrev pub is_dead : Record → Bool
is_dead r = eqb r.status 2

abbrev pub is_unborn : Record → Bool
is_unborn r = eqb r.status 0

abbrev pub is_born : Record → Bool
is_born r = is_alive r || is_dead r

abbrev pub born_at : Table → ℕ → Bool
born_at t n = is_born (record_at t n)

-- kind: 0 passive, 1 active
abbrev pub is_active : Record → Bool
is_active r = eqb r.kind 1

-- rights add up 1 rd (read), 2 wr (write), 4 wk (weak), 8 tx (send)
abbrev pub has_rd : ℕ → Bool
has_rd rights = has 0 rights

abbrev pub has_wr : ℕ → Bool
has_wr rights = has 1 rights

abbrev pub has_wk : ℕ → Bool
has_wk rights = has 2 rights

abbrev pub has_tx : ℕ → Bool
has_tx rights = has 3 rights

abbrev pub is_empty : Capability → Bool
is_empty c = eqb c.target 0 && eqb c.rights 0

-- object n's record, or its slot j, replaced
abbrev pub put_record : Table → ℕ → Record → Table
put_record t n r = record { records = set t.records n r; slots = t.slots }

abbrev pub put_slot : Table → ℕ → ℕ → Capability → Table
put_slot t n j c = record { records = t.records; slots = set t.slots (n * 8 + j) c }

-- a value of the table type: 64 records, 512 slots, every field within its bits. The record type alone does not say it.
-- Whoever owns the value has it: `value_is_table` of proofs/Value.antt
pub record IsTable (t : Table) : Type 0 where
  pub records : length t.records ≡ 64
  pub slots : length t.slots ≡ 512
  pub statuses : (n : ℕ) → (record_at t n).status < 2 ^ 8
  pub kinds : (n : ℕ) → (record_at t n).kind < 2 ^ 8
  pub makers : (n : ℕ) → (record_at t n).maker < 2 ^ 8
  pub words : (n : ℕ) → (record_at t n).word < 2 ^ 32
  pub stocks : (n : ℕ) → (record_at t n).stock < 2 ^ 64
  pub targets : (k : ℕ) → (get_or t.slots k empty_slot).target < 2 ^ 8
  pub rights : (k : ℕ) → (get_or t.slots k empty_slot).rights < 2 ^ 8
