-- The lowest number of a set of n bits is the count of zeros below its lowest digit that is set; of the empty set the count is n.
-- Assumes nothing.
use mathlib.Core.Path.{◌≡◌, refl, ap, ◌∙◌}
use mathlib.Core.Bool.{true, false}
use Prim.Native.Nat.{ℕ, zero, suc, ◌/◌, ◌%◌, ◌^◌, ◌<◌}
use native.Mathlib.Omega.{arith}
use lib.Count.{count_trailing_zeros, under}
use borrow.Author.Tests.{eq-eqb, ne_eqb}
use Rattle.mask.specs.Sets.{has}
use Rattle.mask.proofs.Bits.{has_suc}

tz_digit : (k n r : ℕ) → n % 2 ≡ r → r < 2 → (r ≡ 0 → (count_trailing_zeros k (n / 2) < k) × (has (count_trailing_zeros k (n / 2)) (n / 2) ≡ true))
    → (under r (count_trailing_zeros k (n / 2)) < suc k) × (has (under r (count_trailing_zeros k (n / 2))) n ≡ true)
tz_digit k n zero e l f = let p = f refl in (omega (arith, p.0), has_suc (count_trailing_zeros k (n / 2)) n ∙ p.1)
tz_digit k n (suc zero) e l f = (omega arith, eq-eqb (n / 2 ^ 0 % 2) 1 (omega (arith, e)))
tz_digit k n (suc (suc r)) e l f = absurd (omega arith)

-- it is a number of the set
pub tz_there : (k n : ℕ) → 0 < n → n < 2 ^ k → (count_trailing_zeros k n < k) × (has (count_trailing_zeros k n) n ≡ true)
unfolding count_trailing_zeros
tz_there zero n p l = absurd (omega arith)
tz_there (suc k) n p l = tz_digit k n (n % 2) refl (omega arith) (λ e. tz_there k (n / 2) (omega arith) (omega arith))

tz_below : (k n r i : ℕ) → n % 2 ≡ r → ((j : ℕ) → j < count_trailing_zeros k (n / 2) → has j (n / 2) ≡ false) → i < under r (count_trailing_zeros k (n / 2)) → has i n ≡ false
tz_below k n zero zero e f h = ne_eqb (n / 2 ^ 0 % 2) 1 (λ q. omega (arith, e, q))
tz_below k n zero (suc i) e f h = has_suc i n ∙ f i (omega (arith, h))
tz_below k n (suc r) i e f h = absurd (omega (arith, h))

-- and there is none below it
pub tz_first : (k n i : ℕ) → i < count_trailing_zeros k n → has i n ≡ false
unfolding count_trailing_zeros
tz_first zero n i h = absurd (omega (arith, h))
tz_first (suc k) n i h = tz_below k n (n % 2) i refl (tz_first k (n / 2)) h

-- of the empty set
pub tz_none : (k : ℕ) → count_trailing_zeros k 0 ≡ k
unfolding count_trailing_zeros
tz_none zero = refl
tz_none (suc k) = ap suc (tz_none k)
