-- The operators on 64-bit words are the sets of the contracts: `&`, `|`, `!`, shifts, linked here to the test of one bit
-- and nowhere else. Assumes nothing.
use mathlib.Core.Path.{◌≡◌, refl, sym, ◌∙◌, ap}
use mathlib.Core.Bool.{Bool, true, not, ◌&&◌, ◌||◌}
use Prim.Native.Nat.{ℕ, zero, suc, ◌-◌, ◌*◌, ◌/◌, ◌%◌, ◌^◌, ◌<◌}
use native.Mathlib.Nat.{mod-lt, mod-eq_of_lt}
use native.Mathlib.Omega.{arith}
use lib.Dec.{ltb, eqb}
use lib.Bits.{bit_and, bit_or, bit_xor, and_shr, or_shr, xor_shr, and_mod, or_mod, xor_mod, and_lt, or_lt, and_mask, xor_add_and}
use borrow.Author.Tests.{ltb-true, ltb-false, eqb-true}
use Rattle.mask.specs.Sets.{has, all_below, including, excluding, union_of, common_of, less_of, subset_of, disjoint_of}
use Rattle.mask.proofs.Tests.{by_cases, same, same_eq, not_less}
use Rattle.mask.proofs.Below.{all_at, all_ext}
use Rattle.mask.proofs.Bits.{as_bits, is_empty_lem, has_high}

-- one digit -----------------------------------------------------------------
digit : (P : ℕ → Type 0) → P 0 → P 1 → (x : ℕ) → x < 2 → P x
digit P p q zero h = p
digit P p q (suc zero) h = q
digit P p q (suc (suc x)) h = absurd (omega arith)

two_pos : 0 < 2
two_pos = omega arith

and_digit : (x y : ℕ) → x < 2 → y < 2 → eqb (bit_and x y) 1 ≡ (eqb x 1 && eqb y 1)
and_digit x y hx hy = digit (λ u. eqb (bit_and u y) 1 ≡ (eqb u 1 && eqb y 1)) refl (digit (λ v. eqb (bit_and 1 v) 1 ≡ eqb v 1) refl refl y hy) x hx

or_digit : (x y : ℕ) → x < 2 → y < 2 → eqb (bit_or x y) 1 ≡ (eqb x 1 || eqb y 1)
or_digit x y hx hy = digit (λ u. eqb (bit_or u y) 1 ≡ (eqb u 1 || eqb y 1)) refl (digit (λ v. eqb (bit_or 1 v) 1 ≡ true) refl refl y hy) x hx

flip_digit : (x y : ℕ) → x < 2 → y < 2 → eqb y 1 ≡ true → eqb (bit_xor x y) 1 ≡ not (eqb x 1)
flip_digit x y hx hy e = rw (eqb-true y 1 e) (digit (λ u. eqb (bit_xor u 1) 1 ≡ not (eqb u 1)) refl refl x hx)

-- the operators -------------------------------------------------------------
pub has_and : (k a b : ℕ) → has k (bit_and a b) ≡ (has k a && has k b)
has_and k a b =
    ap (λ (x : ℕ). eqb (x % 2) 1) (and_shr a b k) ∙ ap (λ (x : ℕ). eqb x 1) (and_mod (a / 2 ^ k) (b / 2 ^ k) 1)
    ∙ and_digit (a / 2 ^ k % 2) (b / 2 ^ k % 2) (mod-lt _ two_pos) (mod-lt _ two_pos)

pub has_or : (k a b : ℕ) → has k (bit_or a b) ≡ (has k a || has k b)
has_or k a b =
    ap (λ (x : ℕ). eqb (x % 2) 1) (or_shr a b k) ∙ ap (λ (x : ℕ). eqb x 1) (or_mod (a / 2 ^ k) (b / 2 ^ k) 1)
    ∙ or_digit (a / 2 ^ k % 2) (b / 2 ^ k % 2) (mod-lt _ two_pos) (mod-lt _ two_pos)

-- all 64 numbers
has_ones : (k : ℕ) → k < 64 → has k (2 ^ 64 - 1) ≡ true
unfolding all_below
has_ones = all_at 64 (λ k. has k (2 ^ 64 - 1)) refl

not_xor : (b : ℕ) → b < 2 ^ 64 → 2 ^ 64 - 1 - b ≡ bit_xor b (2 ^ 64 - 1)
not_xor b h =
    let e = xor_add_and b (2 ^ 64 - 1) in
    let f = and_mask b 64 ∙ mod-eq_of_lt h in
    omega arith

has_not : (k b : ℕ) → k < 64 → b < 2 ^ 64 → has k (2 ^ 64 - 1 - b) ≡ not (has k b)
has_not k b hk hb =
    ap (has k) (not_xor b hb)
    ∙ ap (λ (x : ℕ). eqb (x % 2) 1) (xor_shr b (2 ^ 64 - 1) k) ∙ ap (λ (x : ℕ). eqb x 1) (xor_mod (b / 2 ^ k) ((2 ^ 64 - 1) / 2 ^ k) 1)
    ∙ flip_digit (b / 2 ^ k % 2) ((2 ^ 64 - 1) / 2 ^ k % 2) (mod-lt _ two_pos) (mod-lt _ two_pos) (has_ones k hk)

-- one number: the 4,096 cases are computed
pub one_bit : (n : ℕ) → n < 64 → (1 * 2 ^ n) % 2 ^ 64 ≡ 2 ^ n
unfolding all_below
one_bit n h = eqb-true _ _ (all_at 64 (λ i. eqb ((1 * 2 ^ i) % 2 ^ 64) (2 ^ i)) refl n h)

pub one_lt : (n : ℕ) → n < 64 → 2 ^ n < 2 ^ 64
one_lt n h = rw (one_bit n h) at (mod-lt (1 * 2 ^ n) {m = 2 ^ 64} (omega arith))

pub has_one : (k n : ℕ) → k < 64 → n < 64 → has k (2 ^ n) ≡ eqb k n
unfolding all_below
has_one k n hk hn =
    same_eq _ _ (all_at 64 (λ i. same (has i (2 ^ n)) (eqb i n)) (all_at 64 (λ m. all_below 64 (λ i. same (has i (2 ^ m)) (eqb i m))) refl n hn) k hk)

-- what the functions give ---------------------------------------------------
pub or_union : (a b : ℕ) → a < 2 ^ 64 → b < 2 ^ 64 → bit_or a b ≡ union_of a b
unfolding union_of
or_union a b ha hb = as_bits 64 (bit_or a b) _ (or_lt 64 a b ha hb) (λ k hk. has_or k a b)

pub and_common : (a b : ℕ) → a < 2 ^ 64 → b < 2 ^ 64 → bit_and a b ≡ common_of a b
unfolding common_of
and_common a b ha hb = as_bits 64 (bit_and a b) _ (and_lt 64 a b ha hb) (λ k hk. has_and k a b)

has_and_not : (k a b : ℕ) → k < 64 → b < 2 ^ 64 → has k (bit_and a (2 ^ 64 - 1 - b)) ≡ (has k a && not (has k b))
has_and_not k a b hk hb = has_and k a (2 ^ 64 - 1 - b) ∙ ap (λ (t : Bool). has k a && t) (has_not k b hk hb)

and_not_lt : (a b : ℕ) → a < 2 ^ 64 → bit_and a (2 ^ 64 - 1 - b) < 2 ^ 64
and_not_lt a b ha = and_lt 64 a (2 ^ 64 - 1 - b) ha (omega arith)

pub and_not_less : (a b : ℕ) → a < 2 ^ 64 → b < 2 ^ 64 → bit_and a (2 ^ 64 - 1 - b) ≡ less_of a b
unfolding less_of
and_not_less a b ha hb = as_bits 64 _ _ (and_not_lt a b ha) (λ k hk. has_and_not k a b hk hb)

pub or_one : (m n : ℕ) → m < 2 ^ 64 → n < 64 → bit_or m ((1 * 2 ^ n) % 2 ^ 64) ≡ including n m
unfolding including
or_one m n hm hn = ap (bit_or m) (one_bit n hn)
    ∙ as_bits 64 _ _ (or_lt 64 m (2 ^ n) hm (one_lt n hn)) (λ k hk. has_or k m (2 ^ n) ∙ ap (λ (t : Bool). has k m || t) (has_one k n hk hn))

pub and_not_one : (m n : ℕ) → m < 2 ^ 64 → n < 64 → bit_and m (2 ^ 64 - 1 - (1 * 2 ^ n) % 2 ^ 64) ≡ excluding n m
unfolding excluding
and_not_one m n hm hn = ap (λ (x : ℕ). bit_and m (2 ^ 64 - 1 - x)) (one_bit n hn)
    ∙ as_bits 64 _ _ (and_not_lt m (2 ^ n) hm) (λ k hk. has_and_not k m (2 ^ n) hk (one_lt n hn) ∙ ap (λ (t : Bool). has k m && not t) (has_one k n hk hn))

pub none_over : (a b : ℕ) → a < 2 ^ 64 → b < 2 ^ 64 → eqb (bit_and a (2 ^ 64 - 1 - b)) 0 ≡ subset_of a b
unfolding subset_of
none_over a b ha hb = is_empty_lem _ (and_not_lt a b ha) ∙ all_ext 64 _ _ (λ k hk. ap not (has_and_not k a b hk hb) ∙ not_less (has k a) (has k b))

pub none_shared : (a b : ℕ) → a < 2 ^ 64 → b < 2 ^ 64 → eqb (bit_and a b) 0 ≡ disjoint_of a b
unfolding disjoint_of
none_shared a b ha hb = is_empty_lem _ (and_lt 64 a b ha hb) ∙ all_ext 64 _ _ (λ k hk. ap not (has_and k a b))

low_digit : (m n : ℕ) → eqb (bit_and (m / 2 ^ n) 1) 1 ≡ has n m
low_digit m n = ap (λ (x : ℕ). eqb x 1) (and_mask (m / 2 ^ n) 1)

pub has_is : (m n : ℕ) → m < 2 ^ 64 → (ltb n 64 && eqb (bit_and (m / 2 ^ bit_and n 63) 1) 1) ≡ has n m
has_is m n hm = by_cases (ltb n 64)
    (λ e. ap (λ (b : Bool). b && eqb (bit_and (m / 2 ^ bit_and n 63) 1) 1) e
    ∙ ap (λ (k : ℕ). eqb (bit_and (m / 2 ^ k) 1) 1) (and_mask n 6 ∙ mod-eq_of_lt (ltb-true n 64 e)) ∙ low_digit m n)
    (λ e. ap (λ (b : Bool). b && eqb (bit_and (m / 2 ^ bit_and n 63) 1) 1) e ∙ sym (has_high n m 64 hm (ltb-false n 64 e)))
