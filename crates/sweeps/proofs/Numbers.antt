-- Loops that go through a set number by number: the lowest number is there, what is left gets less, and what was passed is done.
-- Assumes nothing.
use mathlib.Core.Path.{◌≡◌, refl, sym, ◌∙◌, subst, subst⁻¹}
use mathlib.Core.Logic.{◌≢◌}
use mathlib.Core.Bool.{Bool, true, false, not, ◌&&◌}
use mathlib.Core.List.{List}
use Prim.Native.Nat.{ℕ, zero, suc, ◌-◌, ◌/◌, ◌%◌, ◌^◌, ◌<◌}
use native.Mathlib.Omega.{arith}
use lib.Count.{count_trailing_zeros}
use lib.ListN.{length, get_or, set, length-set}
use lib.Seq.{get_or-set_same, get_or-set_other}
use lib.Dec.{eqb}
use borrow.Author.Tests.{eqb-true, eqb-false, eq-eqb, ne_eqb}
use Rattle.mask.specs.Sets.{has, any_below, including, excluding, union_of, common_of}
use Rattle.mask.proofs.Tests.{by_eq, clash, bool_ext, and_true, and_intro, or_cases, or_left, or_right}
use Rattle.mask.proofs.Below.{any_intro, any_elim}
use Rattle.mask.proofs.Lowest.{tz_there, tz_first}
use Rattle.mask.proofs.Bits.{has_suc, has_zero, has_excluding, has_union, bits_lt, bits_same, as_bits}
use Rattle.relation.specs.Helpers.{count}
use Rattle.relation.proofs.Reach.{count_lt}
use Rattle.sweeps.specs.Helpers.{Lowest, near_of, PutEach, NotedEach}

-- the lowest number -----------------------------------------------------------------
pub lowest_is : (n : ℕ) → 0 < n → n < 2 ^ 64 → Lowest n (count_trailing_zeros 64 n)
lowest_is n p l = let q = tz_there 64 n p l in record { low = q.0; there = q.1; first = tz_first 64 n }

-- one less ---------------------------------------------------------------------------
-- it has another digit at the lowest number, and the same digits above; below, the set has none
one_less : (n set k : ℕ) → has n set ≡ true → ((j : ℕ) → j < n → has j set ≡ false) → (has k set && has k (set - 1)) ≡ (has k set && not (eqb k n))
one_less zero set zero e f = let odd = eqb-true (set / 2 ^ 0 % 2) 1 e in
    rw (e, ne_eqb ((set - 1) / 2 ^ 0 % 2) 1 (λ q. omega (arith, odd, q))) refl
one_less zero set (suc i) e f = let odd = eqb-true (set / 2 ^ 0 % 2) 1 e in let half : (set - 1) / 2 ≡ set / 2 = omega (arith, odd) in
    rw (ne_eqb (suc i) 0 (λ q. omega (arith, q)), has_suc i (set - 1), has_suc i set, half) (twice (has i (set / 2)))
  where
    twice : (b : Bool) → (b && b) ≡ (b && not false)
    twice true = refl
    twice false = refl
one_less (suc n) set zero e f = rw (f 0 (omega arith)) refl
one_less (suc n) set (suc i) e f = let odd = eqb-false (set / 2 ^ 0 % 2) 1 (f 0 (omega arith)) in
    let half : (set - 1) / 2 ≡ set / 2 - 1 = omega (arith, odd) in
    rw (has_suc i (set - 1), has_suc i set, half, same)
    (one_less n (set / 2) i (sym (has_suc n set) ∙ e) (λ j h. sym (has_suc j set) ∙ f (suc j) (omega (arith, h))))
  where
    same : eqb (suc i) (suc n) ≡ eqb i n
    same = by_eq i n (λ q. eq-eqb (suc i) (suc n) (omega (arith, q)) ∙ sym (eq-eqb i n q))
        (λ q. ne_eqb (suc i) (suc n) (λ z. q (omega (arith, z))) ∙ sym (ne_eqb i n q))

pub less_lowest : (set r : ℕ) → r ≡ common_of set (set - 1) → (n : ℕ) → Lowest set n → r ≡ excluding n set
unfolding common_of excluding
less_lowest set r e n q = e ∙ bits_same 64 _ _ (λ k h. one_less n set k q.there q.first)

-- what is left -----------------------------------------------------------------------
taken_out : (left n : ℕ) → n < 64 → has n (excluding n left) ≡ false
taken_out left n h = has_excluding n n left h ∙ rw (eq-eqb n n refl) (no_more (has n left))
  where
    no_more : (b : Bool) → (b && not true) ≡ false
    no_more true = refl
    no_more false = refl

-- without a number that was there, fewer are left
fewer : (left n : ℕ) → Lowest left n → count 64 (excluding n left) < count 64 left
fewer left n q = count_lt 64 (excluding n left) left n (λ k h e. (and_true (has k left) _ (sym (has_excluding k n left h) ∙ e)).0)
    q.low (taken_out left n q.low) q.there

pub fewer_left : (left n l : ℕ) → Lowest left n → l ≡ excluding n left → count 64 l < count 64 left
fewer_left left n l q e = rw e (fewer left n q)

pub still_left : (left n k : ℕ) → k < 64 → has k (excluding n left) ≡ true → has k left ≡ true
still_left left n k h e = (and_true (has k left) _ (sym (has_excluding k n left h) ∙ e)).0

-- a number that is passed is the one just taken or was passed before
pub was_passed : {P : Type 0} (left n k : ℕ) → k < 64 → has k (excluding n left) ≡ false → (k ≡ n → P) → (k ≢ n → has k left ≡ false → P) → P
was_passed left n k h e f g = by_eq k n f (λ q. g q (kept (has k left) (rw (ne_eqb k n q) at (sym (has_excluding k n left h) ∙ e))))
  where
    kept : (b : Bool) → (b && not false) ≡ false → b ≡ false
    kept true e = e
    kept false e = e

union_lt : (a b : ℕ) → union_of a b < 2 ^ 64
unfolding union_of
union_lt a b = bits_lt 64 _

-- what is near ------------------------------------------------------------------------
module _ (edge : ℕ → ℕ → Bool) (s : ℕ) where
  pub record Nearing (left found : ℕ) : Type 0 where
    pub fits : found < 2 ^ 64
    pub within : (x : ℕ) → x < 64 → has x left ≡ true → has x s ≡ true
    pub from : (y : ℕ) → y < 64 → has y found ≡ true → any_below 64 (λ x. has x s && edge x y) ≡ true
    pub full : (x y : ℕ) → x < 64 → y < 64 → has x s ≡ true → has x left ≡ false → edge x y ≡ true → has y found ≡ true

  pub near_none : Nearing s 0
  near_none = record { fits = omega arith; within = λ x h e. e; from = λ y h e. clash e (has_zero y); full = λ x y hx hy e f g. clash e f }

  near_more : (left found n word : ℕ) → Lowest left n → ((y : ℕ) → has y word ≡ edge n y) → Nearing left found
      → Nearing (excluding n left) (union_of found word)
  near_more left found n word q w p = record {
    fits = union_lt found word;
    within = λ x h e. p.within x h (still_left left n x h e);
    from = λ y h e. or_cases (has y found) (has y word) (sym (has_union y found word h) ∙ e)
        (p.from y h)
        (λ f. any_intro 64 (λ x. has x s && edge x y) n q.low (and_intro _ _ (p.within n q.low q.there) (sym (w y) ∙ f)));
    full = λ x y hx hy e f g. has_union y found word hy ∙ was_passed left n x hx f
        (λ z. or_right (has y found) _ (w y ∙ subst (λ (i : ℕ). edge i y ≡ true) z g))
        (λ z o. or_left (has y found) _ (p.full x y hx hy e o g));
  }

  pub near_next : (left found n word l f : ℕ) → Lowest left n → ((y : ℕ) → has y word ≡ edge n y) → Nearing left found
      → l ≡ excluding n left → f ≡ union_of found word → Nearing l f
  near_next left found n word l f q w p e g = rw (e, g) (near_more left found n word q w p)

  pub near_all : (left found : ℕ) → left ≡ 0 → Nearing left found → found ≡ near_of edge s
  unfolding near_of
  near_all left found z p = as_bits 64 found _ p.fits (λ y h. bool_ext _ _ (p.from y h)
      (λ e. any_elim 64 _ e (λ x hx a. let b = and_true (has x s) (edge x y) a in
      p.full x y hx h b.0 (subst⁻¹ (λ (m : ℕ). has x m ≡ false) z (has_zero x)) b.1)))

-- a word put at each number -----------------------------------------------------------
module _ (at : ℕ) (word : ℕ → ℕ) (before : List ℕ) where
  pub record Putting (left : ℕ) (words : List ℕ) : Type 0 where
    pub long : length words ≡ length before
    pub within : (x : ℕ) → x < 64 → has x left ≡ true → has x at ≡ true
    pub new : (x : ℕ) → x < 64 → has x at ≡ true → has x left ≡ false → get_or words x 0 ≡ word x
    pub old : (x : ℕ) → x < 64 → has x at ≡ false → get_or words x 0 ≡ get_or before x 0
    pub still : (x : ℕ) → x < 64 → has x left ≡ true → get_or words x 0 ≡ get_or before x 0

  pub putting_none : Putting at before
  putting_none = record { long = refl; within = λ x h e. e; new = λ x h e f. clash e f; old = λ x h e. refl; still = λ x h e. refl }

  putting_more : (left n v : ℕ) (words : List ℕ) → length before ≡ 64 → Lowest left n → Putting left words → v ≡ word n
      → Putting (excluding n left) (set words n v)
  putting_more left n v words l q p w = record {
    long = length-set words n v ∙ p.long;
    within = λ x h e. p.within x h (still_left left n x h e);
    new = λ x h e f. was_passed left n x h f
        (λ z. subst⁻¹ (λ (i : ℕ). get_or (set words n v) i 0 ≡ word i) z (get_or-set_same words n v 0 (omega (arith, q.low, l, p.long)) ∙ w))
        (λ z o. get_or-set_other words n x v 0 z ∙ p.new x h e o);
    old = λ x h e. by_eq x n
        (λ z. clash (p.within n q.low q.there) (subst (λ (i : ℕ). has i at ≡ false) z e))
        (λ z. get_or-set_other words n x v 0 z ∙ p.old x h e);
    still = λ x h e. by_eq x n
        (λ z. clash e (subst⁻¹ (λ (i : ℕ). has i (excluding n left) ≡ false) z (taken_out left n q.low)))
        (λ z. get_or-set_other words n x v 0 z ∙ p.still x h (still_left left n x h e));
  }

  pub putting_next : (left n l v : ℕ) (words : List ℕ) → length before ≡ 64 → Lowest left n → Putting left words → l ≡ excluding n left → v ≡ word n
      → Putting l (set words n v)
  putting_next left n l v words z q p e w = rw e (putting_more left n v words z q p w)

  -- what is put may be made of what was there
  pub not_yet : (left n : ℕ) (words : List ℕ) → Lowest left n → Putting left words → get_or words n 0 ≡ get_or before n 0
  not_yet left n words q p = p.still n q.low q.there

  putting_new : (left : ℕ) (words : List ℕ) → left ≡ 0 → Putting left words → (x : ℕ) → x < 64 → has x at ≡ true → get_or words x 0 ≡ word x
  putting_new left words z p x h e = p.new x h e (subst⁻¹ (λ (m : ℕ). has x m ≡ false) z (has_zero x))

-- the same word at each
pub put_all : (at word left : ℕ) (before words : List ℕ) → left ≡ 0 → Putting at (λ x. word) before left words → PutEach at word before words
put_all at word left before words z p = record { long = p.long; new = putting_new at (λ x. word) before left words z p; old = p.old }

-- the word that was there, with a number more
abbrev pub noted : ℕ → List ℕ → ℕ → ℕ
noted n before x = including n (get_or before x 0)

pub note_all : (at n left : ℕ) (before words : List ℕ) → left ≡ 0 → Putting at (noted n before) before left words → NotedEach at n before words
note_all at n left before words z p = record { long = p.long; new = putting_new at (noted n before) before left words z p; old = p.old }
