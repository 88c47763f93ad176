-- What is claimed of images that are read and written, as statements; proofs/RoundTrip.antt proves them. Demand 2: "images read back and write
-- out to equal tables and bytes"; document 02, 2.7: "A version 1 image moves up with 64 throughout, and moving it back gives equal bytes."
use Rattle.std.specs.Prelude.{◌≡◌, ◌↔◌, true, false, List, ◌++◌, ℕ, ◌≤◌, ◌<◌, length, take, drop, Ok}
use Rattle.table.specs.declared.Table.{Table}
use Rattle.table.specs.Cells.{IsTable, no_maker, maker_at}
use Rattle.table.specs.Soundness.{sound}
use Rattle.octets.specs.BigEndian.{Bytes, byte_at}
use Rattle.image.specs.declared.Version.{Version}
use Rattle.image.specs.declared.Version.TheVariants.{One, Two}
use Rattle.image.specs.Layout.{version_byte, image_length, image_of}
use Rattle.image.specs.Images.{read_of, table_loaded, number_loaded}
use Rattle.image_out.specs.Written.{some_lost, written_of}

-- bytes that are read as an image of the version, and the table that they give
pub record IsRead (v : Version) (bytes : List ℕ) (t : Table) : Type 0 where
  pub bits : Bytes bytes
  pub versed : byte_at bytes 2 ≡ version_byte v
  pub done : read_of bytes ≡ Ok t

-- which a caller sees by the number 0, with that table
unfoldable pub ReadByNumber : Type 0
ReadByNumber = (v : Version) (bytes : List ℕ) → Bytes bytes → byte_at bytes 2 ≡ version_byte v
    → (number_loaded (read_of bytes) ≡ 0) ↔ IsRead v bytes (table_loaded (read_of bytes))

-- "64 throughout"
abbrev pub Unmade : Table → Type 0
Unmade t = (n : ℕ) → n < 64 → maker_at t n ≡ no_maker

-- tables ----------------------------------------------------------------------------------
-- a sound table written as version 2 reads back equal, from any buffer that is long enough
unfoldable pub TwoReadsBack : Type 0
TwoReadsBack = (t : Table) → IsTable t → sound t ≡ true → (buffer : List ℕ) → image_length Two ≤ length buffer
    → read_of (take (image_length Two) (written_of Two t buffer)) ≡ Ok t

-- and as version 1 where all makers are 64
unfoldable pub OneReadsBack : Type 0
OneReadsBack = (t : Table) → IsTable t → sound t ≡ true → Unmade t → (buffer : List ℕ) → image_length One ≤ length buffer
    → read_of (take (image_length One) (written_of One t buffer)) ≡ Ok t

-- bytes -----------------------------------------------------------------------------------
-- an image that is read writes back to equal bytes, with the rest of the buffer as it was
unfoldable pub WritesBack : Version → Type 0
WritesBack v = (bytes : List ℕ) (t : Table) → IsRead v bytes t → (buffer : List ℕ) → image_length v ≤ length buffer
    → written_of v t buffer ≡ bytes ++ drop (image_length v) buffer

-- "A version 1 image moves up with 64 throughout": it reads as such a table, which is written as version 2 and reads as the same table
unfoldable pub MovesUp : Type 0
MovesUp = (bytes : List ℕ) (t : Table) → IsRead One bytes t → (buffer : List ℕ) → length buffer ≡ image_length Two
    → Unmade t × (read_of (written_of Two t buffer) ≡ Ok t)

-- "and moving it back gives equal bytes"
unfoldable pub MovesBack : Type 0
MovesBack = (bytes : List ℕ) (t : Table) → IsRead One bytes t → (buffer older : List ℕ) → length buffer ≡ image_length Two → length older ≡ image_length One
    → (up : Table) × ((read_of (written_of Two t buffer) ≡ Ok up) × (written_of One up older ≡ bytes))

-- either way ------------------------------------------------------------------------------
-- bytes that are the image of a table, in one of the versions
pub data StoredAs (t : Table) (bytes : List ℕ) : Type 0 where
  stored_as : (v : Version) → sound t ≡ true → some_lost v t ≡ false → bytes ≡ image_of v t → StoredAs t bytes

-- what is read is exactly that
unfoldable pub ReadsExactly : Type 0
ReadsExactly = (bytes : List ℕ) (t : Table) → Bytes bytes → IsTable t → (read_of bytes ≡ Ok t) ↔ StoredAs t bytes

-- so an accepted image of a version decides its bytes by its table
unfoldable pub DecidesBytes : Type 0
DecidesBytes = (v : Version) (bytes other : List ℕ) (t : Table) → IsRead v bytes t → IsRead v other t → bytes ≡ other
