-- The words that the rules start from, as the code makes them: marks in 256 words, one after another. What the words then have is
-- proofs/StartWords.antt.
use Rattle.std.specs.Prelude.{Bool, true, false, ◌&&◌, List, ℕ, zero, suc, ◌+◌, ◌*◌, ◌/◌, ◌^◌, get_or, set, replicate}
use Rattle.std.specs.Int.Bits.{bit_or}
use Rattle.mask.specs.Sets.{has}
use Rattle.table.specs.declared.Capability.{Capability}
use Rattle.table.specs.Cells.{slot_of}

-- the first k rights of g, of x over y
unfoldable pub mark_to : List ℕ → ℕ → ℕ → ℕ → ℕ → List ℕ
mark_to r x y g zero = r
mark_to r x y g (suc b) =
    elim (has b g) [
      | true ↦ set (mark_to r x y g b) (b * 64 + x) (bit_or (get_or (mark_to r x y g b) (b * 64 + x) 0) (2 ^ y))
      | false ↦ mark_to r x y g b
    ]

abbrev pub mark_if : Bool → List ℕ → ℕ → ℕ → ℕ → List ℕ
mark_if true r x y g = mark_to r x y g 4
mark_if false r x y g = r

-- the own rights of the first i of `nodes`
unfoldable pub own_marks : ℕ → ℕ → List ℕ
own_marks nodes zero = replicate 256 0
own_marks nodes (suc i) = mark_if (has i nodes) (own_marks nodes i) i i 15

-- the first j slots between numbers of `among`
unfoldable pub slot_marks : List Capability → ℕ → List ℕ → ℕ → List ℕ
slot_marks s among r zero = r
slot_marks s among r (suc j) =
    mark_if (has (j / 8) among && has (slot_of s j).target among) (slot_marks s among r j) (j / 8) (slot_of s j).target (slot_of s j).rights
