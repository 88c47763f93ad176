-- Document 01: "It prints `accepted` and then each bound object's number, decimal, ascending, one a line; or `refused N`."
use Rattle.std.specs.Prelude.{true, false, List, [], ◌∷◌, ◌++◌, ℕ, zero, suc, ◌+◌, ◌/◌, ◌%◌, ltb, Result, Ok, Err}
use Rattle.mask.specs.Sets.{has}
use Rattle.lines.specs.declared.Refused.{Refused}

abbrev pub newline : ℕ
newline = 10

-- "accepted", "refused ", in ASCII
abbrev pub accepted_word : List ℕ
accepted_word = 97 ∷ 99 ∷ 99 ∷ 101 ∷ 112 ∷ 116 ∷ 101 ∷ 100 ∷ []

abbrev pub refused_word : List ℕ
refused_word = 114 ∷ 101 ∷ 102 ∷ 117 ∷ 115 ∷ 101 ∷ 100 ∷ 32 ∷ []

-- a number below 100 in decimal
unfoldable pub decimal : ℕ → List ℕ
decimal n = elim (ltb n 10) [ true ↦ (48 + n) ∷ [] | false ↦ (48 + n / 10) ∷ (48 + n % 10) ∷ [] ]

-- a number's line
abbrev pub number_line : ℕ → List ℕ
number_line n = decimal n ++ (newline ∷ [])

-- a line for each number of the set below n, "ascending, one a line"
unfoldable pub number_lines : ℕ → ℕ → List ℕ
number_lines set zero = []
number_lines set (suc n) = number_lines set n ++ (elim (has n set) [ true ↦ number_line n | false ↦ [] ])

unfoldable pub refused_line : ℕ → List ℕ
refused_line n = refused_word ++ number_line n

unfoldable pub accepted_lines : ℕ → List ℕ
accepted_lines bound = (accepted_word ++ (newline ∷ [])) ++ number_lines bound 64

-- what is printed of a decision: the bound of an acceptance, or the refusal
abbrev pub lines_of : Result ℕ Refused → List ℕ
lines_of (Ok bound) = accepted_lines bound
lines_of (Err why) = refused_line why.number
