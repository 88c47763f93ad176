-- A set found one number after another, by a loop over 0 to 63: what it has before the first, after one more that passes the test
-- or does not, and after the last. Assumes nothing.
use mathlib.Core.Path.{◌≡◌, refl, sym, ◌∙◌, ap}
use mathlib.Core.Logic.{◌≢◌}
use mathlib.Core.Bool.{Bool, true, false, ◌&&◌, ◌||◌}
use Prim.Native.Nat.{ℕ, ◌+◌, ◌≤◌}
use native.Mathlib.Omega.{arith}
use lib.Dec.{ltb, eqb}
use borrow.Author.Tests.{ltb-true, lt-ltb, le-ltb, eq-eqb, ne_eqb}
use Rattle.mask.specs.Sets.{bits, including}
use Rattle.mask.proofs.Tests.{by_eq, bool_ext, and_intro, and_false, or_false, or_right}
use Rattle.mask.proofs.Bits.{has_bits, as_bits, bits_same, has_zero}

-- the numbers below n that pass the test
unfoldable pub up_to : ℕ → (ℕ → Bool) → ℕ
up_to n p = bits 64 (λ k. ltb k n && p k)

pub up_none : (p : ℕ → Bool) → 0 ≡ up_to 0 p
unfolding up_to
up_none p = as_bits 64 0 _ (omega arith) (λ k hk. has_zero k ∙ ap (λ (b : Bool). b && p k) (sym (le-ltb k 0 (omega arith))))

later : (k n : ℕ) → k ≢ n → ltb k (n + 1) ≡ ltb k n
later k n q = bool_ext (ltb k (n + 1)) (ltb k n)
    (λ e. let h = ltb-true k (n + 1) e in lt-ltb k n (omega arith))
    (λ e. let h = ltb-true k n e in lt-ltb k (n + 1) (omega arith))

pub up_on : (p : ℕ → Bool) (n : ℕ) → p n ≡ true → including n (up_to n p) ≡ up_to (n + 1) p
unfolding up_to including
up_on p n e = bits_same 64 _ _ (λ k hk. ap (λ (b : Bool). b || eqb k n) (has_bits 64 k (λ i. ltb i n && p i) hk)
    ∙ by_eq k n
    (λ q. ap (λ (b : Bool). (ltb k n && p k) || b) (eq-eqb k n q) ∙ or_right (ltb k n && p k) true refl
    ∙ sym (and_intro (ltb k (n + 1)) (p k) (lt-ltb k (n + 1) (omega arith)) (ap p q ∙ e)))
    (λ q. ap (λ (b : Bool). (ltb k n && p k) || b) (ne_eqb k n q) ∙ or_false (ltb k n && p k) ∙ ap (λ (b : Bool). b && p k) (sym (later k n q))))

pub up_off : (p : ℕ → Bool) (n : ℕ) → p n ≡ false → up_to n p ≡ up_to (n + 1) p
unfolding up_to
up_off p n e = bits_same 64 _ _ (λ k hk. by_eq k n
    (λ q. ap (λ (b : Bool). ltb k n && b) (ap p q ∙ e) ∙ and_false (ltb k n) ∙ sym (ap (λ (b : Bool). ltb k (n + 1) && b) (ap p q ∙ e) ∙ and_false (ltb k (n + 1))))
    (λ q. ap (λ (b : Bool). b && p k) (sym (later k n q))))

pub up_all : (p : ℕ → Bool) (n : ℕ) → 64 ≤ n → up_to n p ≡ bits 64 p
unfolding up_to
up_all p n h = bits_same 64 _ _ (λ k hk. ap (λ (b : Bool). b && p k) (lt-ltb k n (omega arith)))
