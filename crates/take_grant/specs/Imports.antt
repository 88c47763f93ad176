-- Document 02, 2.2: the table that entities become, and what the import returns. On every refusal the wholly unborn table goes on in its place.
use Rattle.std.specs.Prelude.{true, false, List, ℕ, ◌/◌, ◌%◌, ltb, eqb, length, Result, Ok, Err}
use Rattle.std.specs.Result.{result_unwrap_or}
use Rattle.table.specs.declared.Capability.{Capability}
use Rattle.table.specs.declared.Record.{Record}
use Rattle.table.specs.declared.Table.{Table}
use Rattle.table.specs.Lists.{tabulate}
use Rattle.table.specs.Cells.{no_maker, empty_slot, unborn_record, unborn_table}
use Rattle.take_grant.specs.declared.ImportRefusal.{ImportRefusal}
use Rattle.take_grant.specs.declared.ImportRefusal.TheVariants as R
use Rattle.take_grant.specs.Entities.{Cap, Entity, mapped, cap_at}
use Rattle.take_grant.specs.Walk.{Found, found, stopped, walk_of}

-- "20 if the length field is not the slice's length or the entities do not end there; 21 if the version byte is not 1; 22 if a count, a target at or
-- above the entity count, or rights above 31 stand inside"
abbrev pub import_number : ImportRefusal → ℕ
import_number R.LengthWrong = 20
import_number R.VersionWrong = 21
import_number R.ValueWrong = 22

-- "Entities ... become alive, active, word 0, no stock"; nobody made them in a run (2.7)
abbrev pub entity_record : Record
entity_record = record { status = 1; kind = 1; maker = no_maker; word = 0; stock = 0 }

-- "numbered from 0 as they come"; the numbers after them stay unborn
abbrev pub record_for : List Entity → ℕ → Record
record_for es n = elim (ltb n (length es)) [ true ↦ entity_record | false ↦ unborn_record ]

-- "a capability left with no right gives an empty slot in its place"
abbrev pub slot_for : Cap → Capability
slot_for c = elim (eqb (mapped c.rights) 0) [ true ↦ empty_slot | false ↦ record { target = c.entity; rights = mapped c.rights } ]

-- slot k of object n is what capability k of entity n becomes
unfoldable pub table_of : List Entity → Table
table_of es = record { records = tabulate 64 (record_for es); slots = tabulate 512 (λ i. slot_for (cap_at es (i / 8) (i % 8))) }

-- what is given back for what the walk found
abbrev pub imported : Found (List Entity) → Result Table ImportRefusal
imported (found es rest) = Ok (table_of es)
imported (stopped why) = Err why

-- the import: bytes in, a table out
unfoldable pub import_of : List ℕ → Result Table ImportRefusal
import_of bytes = imported (walk_of bytes)

-- the table that there is after an import, which is the wholly unborn one on a refusal
abbrev pub table_after : Result Table ImportRefusal → Table
table_after r = result_unwrap_or r unborn_table

-- and its number: 0, or that of why nothing was brought in
abbrev pub number_after : Result Table ImportRefusal → ℕ
number_after (Ok t) = 0
number_after (Err why) = import_number why
