-- Bytes as lists of numbers. "Big-endian": a number as bytes, the most significant first.
use Rattle.std.specs.Prelude.{List, [], ◌∷◌, ℕ, zero, suc, ◌+◌, ◌*◌, ◌/◌, ◌%◌, ◌^◌, ◌<◌, get_or}

-- every element is a byte; what lies past the end reads as 0
abbrev pub Bytes : List ℕ → Type 0
Bytes bs = (i : ℕ) → get_or bs i 0 < 256

-- the byte at a place, and 0 past the end
abbrev pub byte_at : List ℕ → ℕ → ℕ
byte_at bytes k = get_or bytes k 0

-- the number's lowest `size` bytes
unfoldable pub bytes_of : ℕ → ℕ → List ℕ
bytes_of zero n = []
bytes_of (suc size) n = n / 256 ^ size % 256 ∷ bytes_of size n

-- the number that the bytes are, after those that were read before
unfoldable pub number_from : ℕ → List ℕ → ℕ
number_from before [] = before
number_from before (b ∷ bs) = number_from (before * 256 + b) bs

abbrev pub number_of : List ℕ → ℕ
number_of bs = number_from 0 bs
