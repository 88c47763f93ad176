-- The sixteen values one by one: a claim of each number below n is a claim of them all; and the row of a value is the one at its
-- remainder. Assumes nothing.
use mathlib.Core.Path.{◌≡◌, sym, ap, subst}
use mathlib.Core.Bool.{false}
use Prim.Native.Nat.{ℕ, zero, suc, ◌%◌, ◌<◌}
use native.Mathlib.Omega.{arith}
use lib.ListN.{get_or}
use Rattle.mask.proofs.Tests.{by_eq}
use Rattle.rights.specs.declared.Worth.{Worth}
use Rattle.rights.specs.Rows.{rows, worth_of}

-- the claim of 0, of 1, and so on below n
unfoldable pub Each : (ℕ → Type 0) → ℕ → Type 0
Each P zero = Unit
Each P (suc n) = Each P n × P n

pub each_at : (P : ℕ → Type 0) (n k : ℕ) → Each P n → k < n → P k
unfolding Each
each_at P zero k e h = absurd (omega arith)
each_at P (suc n) k e h = by_eq k n (λ q. subst P (sym q) e.1) (λ q. each_at P n k e.0 (omega arith))

abbrev pub row_at : ℕ → Worth
row_at k = get_or rows k (0, false, false, false)

pub row_at_lem : (rights : ℕ) {k : ℕ} → rights % 16 ≡ k → row_at k ≡ worth_of rights
unfolding worth_of
row_at_lem rights e = sym (ap row_at e)
