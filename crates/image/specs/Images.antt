-- What reading returns: the table, or why there is none. In its place the calls give the unborn table, as document 01 says (`table_loaded`).
-- Document 02, 2.7: "A slice under three bytes gets 14. A version byte that is neither 1 nor 2 then gets 15, at any length. After that 14 wants
-- the version's own length, in the slice and in the length field." Then 1.
use Rattle.std.specs.Prelude.{Bool, true, false, not, ◌||◌, List, ℕ, ltb, eqb, length, take, Option, Some, None, Result, Ok, Err}
use Rattle.std.specs.Result.{result_unwrap_or}
use Rattle.table.specs.declared.Table.{Table}
use Rattle.table.specs.Cells.{unborn_table}
use Rattle.table.specs.Soundness.{sound}
use Rattle.image.specs.declared.ReadRefusal.{ReadRefusal}
use Rattle.image.specs.declared.ReadRefusal.TheVariants as R
use Rattle.image.specs.declared.Version.{Version}
use Rattle.image.specs.declared.Version.TheVariants.{One, Two}
use Rattle.octets.specs.BigEndian.{byte_at, number_of}
use Rattle.image.specs.Layout.{version_byte, image_length, table_from}

abbrev pub read_number : ReadRefusal → ℕ
read_number R.TableUnsound = 1
read_number R.LengthWrong = 14
read_number R.VersionWrong = 15

-- the version that a version byte says: "neither 1 nor 2" says none
abbrev pub version_as : ℕ → Option Version
version_as byte = elim (eqb byte (version_byte One)) [ true ↦ Some One | false ↦ elim (eqb byte (version_byte Two)) [ true ↦ Some Two | false ↦ None ] ]

-- not "the version's own length, in the slice and in the length field"
abbrev pub wrong_length : Version → List ℕ → Bool
wrong_length v bytes = not (eqb (length bytes) (image_length v)) || not (eqb (number_of (take 2 bytes)) (image_length v))

-- the version of an image, or what its head is refused for: 14, 15, 14
unfoldable pub head_refusal : List ℕ → Result Version ReadRefusal
head_refusal bytes =
    elim (ltb (length bytes) 3) [
      | true ↦ Err R.LengthWrong
      | false ↦ elim (version_as (byte_at bytes 2)) [
        | None ↦ Err R.VersionWrong
        | Some v ↦ elim (wrong_length v bytes) [ true ↦ Err R.LengthWrong | false ↦ Ok v ]
      ]
    ]

-- then 1
unfoldable pub read_of : List ℕ → Result Table ReadRefusal
read_of bytes =
    elim (head_refusal bytes) [
      | Err why ↦ Err why
      | Ok v ↦ elim (sound (table_from v bytes)) [ false ↦ Err R.TableUnsound | true ↦ Ok (table_from v bytes) ]
    ]

-- the table that there is after a reading, which is "the unborn table" on a refusal
abbrev pub table_loaded : Result Table ReadRefusal → Table
table_loaded r = result_unwrap_or r unborn_table

-- and its number: 0, or that of why nothing was read
abbrev pub number_loaded : Result Table ReadRefusal → ℕ
number_loaded (Ok t) = 0
number_loaded (Err why) = read_number why
