-- Rounds from a number x over an edge relation on the numbers 0 to 63, for document 02, 2.6: what is there after so many of them, and how
-- many of them add something. Rounds.antt of `confinement` says whose rounds a test reports.
use Rattle.std.specs.Prelude.{Bool, true, false, ℕ, zero, suc, eqb}
use Rattle.mask.specs.Sets.{bits}
use Rattle.relation.specs.Closure.{grow}

-- what is there after k rounds: nothing before the first; round one adds what is one edge from x; each later round adds what is one edge
-- from what is there
unfoldable pub there_after : (ℕ → ℕ → Bool) → ℕ → ℕ → ℕ
there_after edge x zero = 0
there_after edge x (suc zero) = bits 64 (edge x)
there_after edge x (suc (suc k)) = grow edge (there_after edge x (suc k))

-- how many rounds add something, from the one on that finds s there and leaves r, n of them being looked at: that one, if s and r differ,
-- and those after it. After a round that adds nothing no other adds anything
unfoldable pub adding_from : ℕ → (ℕ → ℕ → Bool) → ℕ → ℕ → ℕ
adding_from zero edge s r = 0
adding_from (suc n) edge s r = elim (eqb r s) [ true ↦ 0 | false ↦ suc (adding_from n edge r (grow edge r)) ]

-- of all the rounds from x: as each that counts adds one of 64 numbers, no more than 64 have to be looked at
unfoldable pub rounds_from : (ℕ → ℕ → Bool) → ℕ → ℕ
rounds_from edge x = adding_from 64 edge (there_after edge x 0) (there_after edge x 1)
