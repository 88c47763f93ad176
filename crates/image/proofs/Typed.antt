-- A table that is read from bytes is a table value, whatever the bytes say: each field is a number of as many bytes as its bits
-- hold. So the table that reading returns is one, refused or not. Assumes nothing.
use mathlib.Core.Path.{◌≡◌, refl}
use mathlib.Core.List.{List}
use Prim.Native.Nat.{ℕ, ◌+◌, ◌*◌, ◌/◌, ◌%◌, ◌^◌, ◌<◌}
use native.Mathlib.Omega.{arith}
use lib.ListN.{get_or, drop}
use Rattle.std.specs.Prelude.{Ok, Err}
use Rattle.table.specs.declared.Table.{Table}
use Rattle.table.specs.Cells.{IsTable, empty_slot, no_record}
use Rattle.table.proofs.Lists.{length_tabulate}
use Rattle.table.proofs.Places.{at_tabulate}
use Rattle.table.proofs.Value.{RecordValue, SlotValue, record-value, slot_value, none_value, empty_value, values_are_table, unborn_is_table}
use Rattle.image.specs.declared.Version.{Version}
use Rattle.image.specs.declared.Version.TheVariants.{One, Two}
use Rattle.image.specs.Layout.{part_of, maker_from, record_with, record_from, slot_from, table_from}
use Rattle.image.specs.Images.{read_of, table_loaded}
use Rattle.octets.specs.BigEndian.{Bytes}
use Rattle.octets.proofs.Parts.{bytes_drop, number_take}
use Rattle.image.proofs.Places.{bytes_part}
use Rattle.image.proofs.Replies.{ReadBy, read_by, accepted_by}

maker_typed : (v : Version) (part : List ℕ) → Bytes part → maker_from v part < 2 ^ 8
maker_typed One part b = omega arith
maker_typed Two part b = b 30

record-typed : (v : Version) (part : List ℕ) → Bytes part → RecordValue (record_from v part)
unfolding record_with
record-typed v part b =
    record-value (record_from v part) (b 0) (b 1) (maker_typed v part b)
    (number_take 4 (drop 2 part) (bytes_drop 2 part b)) (number_take 8 (drop 6 part) (bytes_drop 6 part b))

slot_typed : (part : List ℕ) (j : ℕ) → Bytes part → SlotValue (slot_from part j)
unfolding slot_from
slot_typed part j b = slot_value (slot_from part j) (b (14 + 2 * j)) (b (15 + 2 * j))

pub image_is_table : (v : Version) (bytes : List ℕ) → ((k : ℕ) → get_or bytes k 0 < 2 ^ 8) → IsTable (table_from v bytes)
unfolding table_from
image_is_table v bytes b = values_are_table (table_from v bytes) (length_tabulate 64 _) (length_tabulate 512 _)
    (λ n. at_tabulate RecordValue no_record 64 _ n (record-typed v (part_of v bytes n) (bytes_part v bytes n b)) none_value)
    (λ k. at_tabulate SlotValue empty_slot 512 _ k (slot_typed (part_of v bytes (k / 8)) (k % 8) (bytes_part v bytes (k / 8) b)) empty_value)

pub read_is_table : (bytes : List ℕ) → ((k : ℕ) → get_or bytes k 0 < 2 ^ 8) → IsTable (table_loaded (read_of bytes))
read_is_table bytes b = elim (read_of bytes) as (λ r. read_of bytes ≡ r → IsTable (table_loaded r)) [
  | Err why ↦ λ e. unborn_is_table
  | Ok t ↦ λ e. of_version t (accepted_by bytes t e)
] refl
  where
    of_version : (t : Table) → ReadBy bytes t → IsTable t
    of_version t (read_by v a q) = rw q (image_is_table v bytes b)
