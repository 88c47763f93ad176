-- Document 01: "The program `confine` reads from standard input an image, 8 bytes of members, a count byte, and 2 bytes (target,
-- rights) an entry: 1,932 plus 2 times the count bytes, nothing more".
use Rattle.std.specs.Prelude.{Bool, not, List, ℕ, ◌+◌, ◌*◌, eqb, length, take, drop}
use Rattle.table.specs.declared.Capability.{Capability}
use Rattle.octets.specs.BigEndian.{byte_at, number_of}
use Rattle.image.specs.declared.Version.TheVariants.{One}
use Rattle.image.specs.Layout.{version_byte, image_length}
use Rattle.entries.specs.Entries.{entries_in}

-- members, count
abbrev pub fixed_length : ℕ
fixed_length = image_length One + 9

abbrev pub count_of : List ℕ → ℕ
count_of input = byte_at input (image_length One + 8)

-- 17: "input of wrong length"; an input with no count byte counts none, and is too short for that
unfoldable pub wrong_length : List ℕ → Bool
wrong_length input = not (eqb (length input) (fixed_length + 2 * count_of input))

-- document 02, 2.7: "`confine` goes on taking version 1"
abbrev pub other_version : List ℕ → Bool
other_version input = not (eqb (byte_at input 2) (version_byte One))

abbrev pub image_part : List ℕ → List ℕ
image_part input = take (image_length One) input

unfoldable pub members_of : List ℕ → ℕ
members_of input = number_of (take 8 (drop (image_length One) input))

-- "2 bytes (target, rights) an entry", after the count
unfoldable pub list_of : List ℕ → List Capability
list_of input = entries_in (drop fixed_length input)
