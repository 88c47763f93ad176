-- A set by its members: what `bits` has, and that two sets with the same members are one number.
-- Laws over the bit number and the width. Assumes nothing.
use mathlib.Core.Path.{◌≡◌, refl, sym, ◌∙◌, ap}
use mathlib.Core.Bool.{Bool, true, false, not, ◌&&◌, ◌||◌}
use Prim.Native.Nat.{ℕ, zero, suc, ◌+◌, ◌*◌, ◌/◌, ◌%◌, ◌^◌, ◌≤◌, ◌<◌}
use native.Mathlib.Nat.{div-div-eq-div-mul, pow-succ', mod-lt, div-eq_of_lt, lt_of_lt_of_le}
use native.Mathlib.Omega.{arith}
use lib.Dec.{eqb}
use lib.Pow.{pow_mono}
use borrow.Author.Tests.{eqb-true, eqb-false, eq-eqb, not-true}
use Rattle.mask.specs.Sets.{has, bits, bit_of, all_below, any_below, including, excluding, union_of, common_of, less_of, subset_of, disjoint_of}
use Rattle.mask.proofs.Tests.{by_cases, bool_ext, imply_use, apart_use}
use Rattle.mask.proofs.Below.{all_at, all_intro, all_fails, any_elim, any_none}

-- one digit further up
pub has_suc : (k m : ℕ) → has (suc k) m ≡ has k (m / 2)
has_suc k m = rw (pow-succ' 2 k, ← (div-div-eq-div-mul m 2 (2 ^ k))) refl

low_bit : (b : Bool) (x : ℕ) → has 0 (bit_of b + 2 * x) ≡ b
low_bit true x = let e : (1 + 2 * x) / 1 % 2 ≡ 1 = omega arith in rw e refl
low_bit false x = let e : (0 + 2 * x) / 1 % 2 ≡ 0 = omega arith in rw e refl

high_bits : (b : Bool) (x : ℕ) → (bit_of b + 2 * x) / 2 ≡ x
high_bits true x = omega arith
high_bits false x = omega arith

pub has_bits : (n k : ℕ) (p : ℕ → Bool) → k < n → has k (bits n p) ≡ p k
unfolding bits
has_bits zero k p h = absurd (omega arith)
has_bits (suc n) zero p h = low_bit (p 0) _
has_bits (suc n) (suc k) p h = has_suc k _ ∙ ap (has k) (high_bits (p 0) _) ∙ has_bits n k (λ i. p (suc i)) (omega arith)

bit_le : (b : Bool) → bit_of b ≤ 1
bit_le true = omega arith
bit_le false = omega arith

pub bits_lt : (n : ℕ) (p : ℕ → Bool) → bits n p < 2 ^ n
unfolding bits
bits_lt zero p = omega arith
bits_lt (suc n) p = omega (arith, bits_lt n (λ k. p (suc k)), bit_le (p 0), pow-succ' 2 n)

two_pos : 0 < 2
two_pos = omega arith

odd_same : (x y : ℕ) → x < 2 → y < 2 → eqb x 1 ≡ eqb y 1 → x ≡ y
odd_same x y hx hy e = by_cases (eqb y 1)
    (λ f. eqb-true x 1 (e ∙ f) ∙ sym (eqb-true y 1 f))
    (λ f. let g = eqb-false x 1 (e ∙ f) in let h = eqb-false y 1 f in omega arith)

-- two numbers with the same bits are one number
pub bits_ext : (n x y : ℕ) → x < 2 ^ n → y < 2 ^ n → ((k : ℕ) → k < n → has k x ≡ has k y) → x ≡ y
bits_ext zero x y hx hy f = omega arith
bits_ext (suc n) x y hx hy f =
    let p = pow-succ' 2 n in
    let up = bits_ext n (x / 2) (y / 2) (omega arith) (omega arith) (λ k h. sym (has_suc k x) ∙ f (suc k) (omega arith) ∙ has_suc k y) in
    let lo = odd_same (x / 1 % 2) (y / 1 % 2) (mod-lt _ two_pos) (mod-lt _ two_pos) (f 0 (omega arith)) in
    omega arith

pub as_bits : (n x : ℕ) (p : ℕ → Bool) → x < 2 ^ n → ((k : ℕ) → k < n → has k x ≡ p k) → x ≡ bits n p
as_bits n x p h f = bits_ext n x (bits n p) h (bits_lt n p) (λ k hk. f k hk ∙ sym (has_bits n k p hk))

pub bits_same : (n : ℕ) (p q : ℕ → Bool) → ((k : ℕ) → k < n → p k ≡ q k) → bits n p ≡ bits n q
bits_same n p q f = as_bits n (bits n p) q (bits_lt n p) (λ k h. has_bits n k p h ∙ f k h)

pub has_zero : (k : ℕ) → has k 0 ≡ false
has_zero zero = refl
has_zero (suc k) = has_suc k 0 ∙ has_zero k

-- no number at or above the width
pub has_high : (n m w : ℕ) → m < 2 ^ w → w ≤ n → has n m ≡ false
has_high n m w hm hn = ap (λ (x : ℕ). eqb (x % 2) 1) (div-eq_of_lt (lt_of_lt_of_le hm (pow_mono hn)))

-- the empty set has no number
pub is_empty_lem : (x : ℕ) → x < 2 ^ 64 → eqb x 0 ≡ all_below 64 (λ k. not (has k x))
is_empty_lem x h = bool_ext (eqb x 0) (all_below 64 (λ k. not (has k x)))
    (λ e. all_intro 64 _ (λ k hk. ap (λ (m : ℕ). not (has k m)) (eqb-true x 0 e) ∙ ap not (has_zero k)))
    (λ e. eq-eqb x 0 (bits_ext 64 x 0 h (omega arith) (λ k hk. not-true (has k x) (all_at 64 _ e k hk) ∙ sym (has_zero k))))

-- what each set of the contracts has
pub has_including : (k n m : ℕ) → k < 64 → has k (including n m) ≡ (has k m || eqb k n)
unfolding including
has_including k n m h = has_bits 64 k _ h

pub has_excluding : (k n m : ℕ) → k < 64 → has k (excluding n m) ≡ (has k m && not (eqb k n))
unfolding excluding
has_excluding k n m h = has_bits 64 k _ h

pub has_union : (k a b : ℕ) → k < 64 → has k (union_of a b) ≡ (has k a || has k b)
unfolding union_of
has_union k a b h = has_bits 64 k _ h

pub has_common : (k a b : ℕ) → k < 64 → has k (common_of a b) ≡ (has k a && has k b)
unfolding common_of
has_common k a b h = has_bits 64 k _ h

pub has_less : (k a b : ℕ) → k < 64 → has k (less_of a b) ≡ (has k a && not (has k b))
unfolding less_of
has_less k a b h = has_bits 64 k _ h

pub subset_at : (a b k : ℕ) → subset_of a b ≡ true → k < 64 → has k a ≡ true → has k b ≡ true
unfolding subset_of
subset_at a b k e h = imply_use (has k a) (has k b) (all_at 64 _ e k h)

pub disjoint_at : (a b k : ℕ) → disjoint_of a b ≡ true → k < 64 → has k a ≡ true → has k b ≡ false
unfolding disjoint_of
disjoint_at a b k e h = apart_use (has k a) (has k b) (all_at 64 _ e k h)

pub shared : (a b : ℕ) → not (disjoint_of a b) ≡ any_below 64 (λ k. has k a && has k b)
unfolding disjoint_of
shared a b = by_cases (any_below 64 (λ k. has k a && has k b))
    (λ e. any_elim 64 (λ k. has k a && has k b) e (λ k h q. ap not (all_fails 64 _ k h (ap not q))) ∙ sym e)
    (λ e. ap not (all_intro 64 _ (λ k h. ap not (any_none 64 (λ i. has i a && has i b) e k h))) ∙ sym e)
