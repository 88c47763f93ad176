-- What writing returns and leaves. "Writing checks 1, then 16"; it "fills the first 1,923 bytes and touches no byte after them". Document 02,
-- 2.7: "Writing now asks for 1,987 bytes at 16, or 1,923 for the older form"; "23, after 1 and before 16, if a table goes back to version 1
-- while some maker is not 64".
use Rattle.std.specs.Prelude.{Bool, true, false, List, ◌++◌, ℕ, ltb, length, drop, Result, Ok, Err}
use Rattle.mask.specs.Sets.{any_below}
use Rattle.table.specs.declared.Table.{Table}
use Rattle.table.specs.Cells.{maker_at}
use Rattle.table.specs.Soundness.{sound}
use Rattle.image_out.specs.declared.WriteRefusal.{WriteRefusal}
use Rattle.image_out.specs.declared.WriteRefusal.TheVariants as W
use Rattle.image.specs.declared.Version.{Version}
use Rattle.image.specs.Layout.{image_length, image_of, maker_lost}

abbrev pub write_number : WriteRefusal → ℕ
write_number W.TableUnsound = 1
write_number W.BufferShort = 16
write_number W.MakerRecorded = 23

-- some maker has no place in the version
unfoldable pub some_lost : Version → Table → Bool
some_lost v t = any_below 64 (λ n. maker_lost v (maker_at t n))

-- 1, then 23 in the older form, then 16: a buffer below the version's length
unfoldable pub write_refusal : Version → Table → List ℕ → Result (Unit {0}) WriteRefusal
write_refusal v t buffer =
    elim (sound t) [
      | false ↦ Err W.TableUnsound
      | true ↦ elim (some_lost v t) [
        | true ↦ Err W.MakerRecorded
        | false ↦ elim (ltb (length buffer) (image_length v)) [ true ↦ Err W.BufferShort | false ↦ Ok tt ]
      ]
    ]

-- a buffer with a table's image in front, and "no byte after" it touched
abbrev pub filled_by : Version → Table → List ℕ → List ℕ
filled_by v t buffer = image_of v t ++ drop (image_length v) buffer

-- what the buffer holds afterwards
unfoldable pub written_of : Version → Table → List ℕ → List ℕ
written_of v t buffer = elim (write_refusal v t buffer) [ Ok done ↦ filled_by v t buffer | Err why ↦ buffer ]
