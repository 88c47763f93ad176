-- Sets of numbers, "held as 64 bits, bit n for number n, bit 0 least significant": stocks, members and bounds,
-- and, by their four lowest bits, rights. Each set is said by its members alone; the operators on words come in the proofs.
use Rattle.std.specs.Prelude.{Bool, true, false, not, ◌&&◌, ◌||◌, ℕ, zero, suc, ◌+◌, ◌*◌, ◌/◌, ◌%◌, ◌^◌, eqb}

-- n is in the set
abbrev pub has : ℕ → ℕ → Bool
has n set = eqb ((set / 2 ^ n) % 2) 1

-- a test's digit
abbrev pub bit_of : Bool → ℕ
bit_of true = 1
bit_of false = 0

-- the set of the numbers below n that pass the test
unfoldable pub bits : ℕ → (ℕ → Bool) → ℕ
bits zero p = 0
bits (suc n) p = bit_of (p 0) + 2 * bits n (λ k. p (suc k))

-- every number below n passes the test
unfoldable pub all_below : ℕ → (ℕ → Bool) → Bool
all_below zero p = true
all_below (suc n) p = elim (p n) [ true ↦ all_below n p | false ↦ false ]

-- some number below n passes the test
unfoldable pub any_below : ℕ → (ℕ → Bool) → Bool
any_below zero p = false
any_below (suc n) p = elim (p n) [ true ↦ true | false ↦ any_below n p ]

-- the set with n in it
unfoldable pub including : ℕ → ℕ → ℕ
including n set = bits 64 (λ k. has k set || eqb k n)

-- the set without n
unfoldable pub excluding : ℕ → ℕ → ℕ
excluding n set = bits 64 (λ k. has k set && not (eqb k n))

-- what is in one of the two
unfoldable pub union_of : ℕ → ℕ → ℕ
union_of a b = bits 64 (λ k. has k a || has k b)

-- what is in both
unfoldable pub common_of : ℕ → ℕ → ℕ
common_of a b = bits 64 (λ k. has k a && has k b)

-- what is in the first and not in the second
unfoldable pub less_of : ℕ → ℕ → ℕ
less_of a b = bits 64 (λ k. has k a && not (has k b))

-- each number of the first is in the second
unfoldable pub subset_of : ℕ → ℕ → Bool
subset_of a b = all_below 64 (λ k. not (has k a) || has k b)

-- no number is in both
unfoldable pub disjoint_of : ℕ → ℕ → Bool
disjoint_of a b = all_below 64 (λ k. not (has k a && has k b))
