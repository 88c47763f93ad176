-- Document 01, "The stored image": "An image begins with the bytes 07 83 01 ...: length 1,923, all bytes counted, then version
-- 1. Then 64 records follow in number order: status, kind, word (4 bytes), stock (8), eight slots of target and rights." Document 02, 2.7:
-- "Images get version 2, length 1,987, the maker as last byte of a record of 31 bytes."
-- What a version decides has a clause for each version; the rest is said once, for both of them.
use Rattle.std.specs.Prelude.{Bool, false, not, List, [], ◌∷◌, ◌++◌, ℕ, zero, suc, ◌+◌, ◌*◌, ◌/◌, ◌%◌, eqb, get_or, take, drop}
use Rattle.table.specs.declared.Capability.{Capability}
use Rattle.table.specs.declared.Record.{Record}
use Rattle.table.specs.declared.Table.{Table}
use Rattle.table.specs.Lists.{tabulate}
use Rattle.table.specs.Cells.{no_maker, record_at, slot_at, empty_slot}
use Rattle.image.specs.declared.Stored.{Stored}
use Rattle.image.specs.declared.Version.{Version}
use Rattle.image.specs.declared.Version.TheVariants.{One, Two}
use Rattle.octets.specs.BigEndian.{byte_at, bytes_of, number_of}

-- "the bytes 07 83 01": length, then version
abbrev pub head : Version → List ℕ
head One = 0x07 ∷ 0x83 ∷ 0x01 ∷ []
head Two = 0x07 ∷ 0xC3 ∷ 0x02 ∷ []

abbrev pub version_byte : Version → ℕ
version_byte One = 1
version_byte Two = 2

-- "Each 30-byte record"; "a record of 31 bytes"
abbrev pub record_length : Version → ℕ
record_length One = 30
record_length Two = 31

-- "all bytes counted": the head and 64 records, which is 1,923 in version 1 and 1,987 in version 2
abbrev pub image_length : Version → ℕ
image_length v = 3 + 64 * record_length v

-- where object n's record begins: "3 + 30 times n" in version 1
abbrev pub place_of : Version → ℕ → ℕ
place_of v n = 3 + record_length v * n

-- object n with its eight slots, as a record of the image holds them
unfoldable pub stored_at : Table → ℕ → Stored
stored_at t n = record { object = record_at t n; slots = tabulate 8 (slot_at t n) }

-- "status, kind, word (4 bytes), stock (8)"
unfoldable pub object_bytes : Record → List ℕ
object_bytes o = (o.status ∷ o.kind ∷ []) ++ (bytes_of 4 o.word ++ bytes_of 8 o.stock)

-- the bytes of the first k slots
unfoldable pub slots_bytes : List Capability → ℕ → List ℕ
slots_bytes slots zero = []
slots_bytes slots (suc k) = slots_bytes slots k ++ ((get_or slots k empty_slot).target ∷ (get_or slots k empty_slot).rights ∷ [])

-- the thirty bytes that a record has in either version
unfoldable pub shared_bytes : Stored → List ℕ
shared_bytes s = object_bytes s.object ++ slots_bytes s.slots 8

-- "the maker as last byte", for which version 1 has no place
abbrev pub maker_bytes : Version → ℕ → List ℕ
maker_bytes One maker = []
maker_bytes Two maker = maker ∷ []

-- the bytes of a record
unfoldable pub stored_bytes : Version → Stored → List ℕ
stored_bytes v s = shared_bytes s ++ maker_bytes v s.object.maker

-- the bytes of the first n records, "in number order"
unfoldable pub records_bytes : Version → Table → ℕ → List ℕ
records_bytes v t zero = []
records_bytes v t (suc n) = records_bytes v t n ++ stored_bytes v (stored_at t n)

-- the bytes of a table
unfoldable pub image_of : Version → Table → List ℕ
image_of v t = head v ++ records_bytes v t 64

-- a maker that a version has no place for: "some maker is not 64", in version 1
abbrev pub maker_lost : Version → ℕ → Bool
maker_lost One maker = not (eqb maker no_maker)
maker_lost Two maker = false

-- "Each 30-byte record is read from its own part of the image"
unfoldable pub part_of : Version → List ℕ → ℕ → List ℕ
part_of v bytes n = take (record_length v) (drop (place_of v n) bytes)

-- "A version 1 image moves up with 64 throughout"
abbrev pub maker_from : Version → List ℕ → ℕ
maker_from One part = no_maker
maker_from Two part = byte_at part 30

-- a record of a part's bytes, with a maker
unfoldable pub record_with : List ℕ → ℕ → Record
record_with part maker = record {
  status = byte_at part 0;
  kind = byte_at part 1;
  maker = maker;
  word = number_of (take 4 (drop 2 part));
  stock = number_of (take 8 (drop 6 part));
}

abbrev pub record_from : Version → List ℕ → Record
record_from v part = record_with part (maker_from v part)

-- a slot has the same place in either version
unfoldable pub slot_from : List ℕ → ℕ → Capability
slot_from part j = record { target = byte_at part (14 + 2 * j); rights = byte_at part (15 + 2 * j) }

-- what a part's first thirty bytes say, with a maker
unfoldable pub stored_with : List ℕ → ℕ → Stored
stored_with part maker = record { object = record_with part maker; slots = tabulate 8 (slot_from part) }

abbrev pub stored_from : Version → List ℕ → Stored
stored_from v part = stored_with part (maker_from v part)

-- the table of an image's bytes
unfoldable pub table_from : Version → List ℕ → Table
table_from v bytes = record {
  records = tabulate 64 (λ n. record_from v (part_of v bytes n));
  slots = tabulate 512 (λ k. slot_from (part_of v bytes (k / 8)) (k % 8));
}
