-- The rows of an answer, four words at a time: after the holders below x, each row of theirs is laid out. Assumes nothing.
use mathlib.Core.Path.{◌≡◌, refl, sym, ◌∙◌, ap, subst⁻¹}
use mathlib.Core.Logic.{◌≢◌}
use mathlib.Core.List.{List}
use Prim.Native.Nat.{ℕ, zero, suc, ◌+◌, ◌/◌, ◌%◌, ◌≤◌, ◌<◌}
use native.Mathlib.Omega.{arith}
use lib.ListN.{length, get_or, set, replicate, length-set, length-replicate}
use lib.Seq.{get_or-set_same, get_or-set_other}
use borrow.Author.Tests.{eq-eqb, ne_eqb}
use Rattle.mask.proofs.Tests.{by_eq}
use Rattle.table.proofs.Lists.{as_tabulate}
use Rattle.groups.specs.Helpers.{row_at, laid_out}

-- the rows of x are four
of_four : (q k x : ℕ) → k / 64 ≡ q → k % 64 ≡ x → k < 256 → k ≢ 192 + x → k ≢ 128 + x → k ≢ 64 + x → k ≢ x → ⊥
of_four zero k x e f h a b c d = d (omega (arith, e, f))
of_four (suc zero) k x e f h a b c d = c (omega (arith, e, f))
of_four (suc (suc zero)) k x e f h a b c d = b (omega (arith, e, f))
of_four (suc (suc (suc zero))) k x e f h a b c d = a (omega (arith, e, f))
of_four (suc (suc (suc (suc q)))) k x e f h a b c d = absurd (omega (arith, e, h))

module _ (groups led : List ℕ) where
  row_group : (k x : ℕ) → k % 64 ≡ x → k / 64 ≢ 2 → row_at groups led k ≡ get_or groups x 0
  unfolding row_at
  row_group k x e n = rw (ne_eqb (k / 64) 2 n, row_at) (ap (λ (i : ℕ). get_or groups i 0) e)

  row_led : (k x : ℕ) → k % 64 ≡ x → k / 64 ≡ 2 → row_at groups led k ≡ get_or led x 0
  unfolding row_at
  row_led k x e n = rw (eq-eqb (k / 64) 2 n, row_at) (ap (λ (i : ℕ). get_or led i 0) e)

  pub record Laid (x : ℕ) (r : List ℕ) : Type 0 where
    pub long : length r ≡ 256
    pub row : (k : ℕ) → k < 256 → k % 64 < x → get_or r k 0 ≡ row_at groups led k

  pub laid_none : Laid 0 (replicate 256 0)
  laid_none = record { long = length-replicate {A = ℕ} 256 0; row = λ k h l. absurd (omega arith) }

  -- a row more, at i
  put : (r : List ℕ) (i w k : ℕ) → length r ≡ 256 → i < 256 → (k ≡ i → w ≡ row_at groups led k) → (k ≢ i → get_or r k 0 ≡ row_at groups led k)
      → get_or (set r i w) k 0 ≡ row_at groups led k
  put r i w k l h f g = by_eq k i
      (λ e. subst⁻¹ (λ (n : ℕ). get_or (set r i w) n 0 ≡ w) e (get_or-set_same r i w 0 (omega (arith, l))) ∙ f e)
      (λ e. get_or-set_other r i k w 0 e ∙ g e)

  module _ (x : ℕ) (r : List ℕ) (h : x < 64) (p : Laid x r) where
    abbrev g : ℕ
    g = get_or groups x 0

    abbrev one : List ℕ
    one = set r x g

    abbrev two : List ℕ
    two = set one (64 + x) g

    abbrev three : List ℕ
    three = set two (128 + x) (get_or led x 0)

    long_one : length one ≡ 256
    long_one = length-set r x g ∙ p.long

    long_two : length two ≡ 256
    long_two = length-set one (64 + x) g ∙ long_one

    long_three : length three ≡ 256
    long_three = length-set two (128 + x) (get_or led x 0) ∙ long_two

    -- a row of a holder below x
    below : (k : ℕ) → k < 256 → k % 64 < x + 1 → k ≢ 192 + x → k ≢ 128 + x → k ≢ 64 + x → k ≢ x → k % 64 < x
    below k hk l a b c d = by_eq (k % 64) x (λ e. absurd (of_four (k / 64) k x refl e hk a b c d)) (λ e. omega (arith, l, e))

    pub laid_more : Laid (x + 1) (set three (192 + x) g)
    laid_more = record {
      long = length-set three (192 + x) g ∙ long_three;
      row = λ k hk l.
          put three (192 + x) g k long_three (omega arith) (λ e. sym (row_group k x (omega (arith, e)) (λ q. omega (arith, e, q))))
          (λ a. put two (128 + x) (get_or led x 0) k long_two (omega arith) (λ e. sym (row_led k x (omega (arith, e)) (omega (arith, e))))
          (λ b. put one (64 + x) g k long_one (omega arith) (λ e. sym (row_group k x (omega (arith, e)) (λ q. omega (arith, e, q))))
          (λ c. put r x g k p.long (omega arith) (λ e. sym (row_group k x (omega (arith, e)) (λ q. omega (arith, e, q))))
          (λ d. p.row k hk (below k hk l a b c d)))));
    }

  pub laid_all : (x : ℕ) (r : List ℕ) → 64 ≤ x → Laid x r → r ≡ laid_out groups led
  unfolding laid_out
  laid_all x r h p = as_tabulate 256 _ 0 r p.long (λ k hk. p.row k hk (omega arith))
