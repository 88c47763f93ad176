-- The parts of what is printed that the code's helpers promise. They add nothing to what is printed.
use Rattle.std.specs.Prelude.{true, false, List, [], ◌++◌, ℕ, ◌+◌, length, take, drop}
use Rattle.mask.specs.Sets.{has}
use Rattle.lines.specs.Lines.{number_line}

-- the buffer with the bytes put at a place
abbrev pub placed : List ℕ → ℕ → List ℕ → List ℕ
placed out at bytes = (take at out ++ bytes) ++ drop (at + length bytes) out

-- the buffer with the bytes put first
abbrev pub begun : List ℕ → List ℕ → List ℕ
begun out bytes = bytes ++ drop (length bytes) out

-- the line of a number of the set, and nothing for any other
unfoldable pub line_if : ℕ → ℕ → List ℕ
line_if set n = elim (has n set) [ true ↦ number_line n | false ↦ [] ]
