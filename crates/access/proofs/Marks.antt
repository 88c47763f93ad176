-- Marks in the words, one and then one after another: each keeps what was there, adds its rights, and adds nothing else.
-- Assumes nothing.
use mathlib.Core.Path.{◌≡◌, refl, sym, ◌∙◌, ap, ap₂, subst, subst⁻¹}
use mathlib.Core.Bool.{Bool, true, false}
use mathlib.Core.List.{List}
use Prim.Native.Nat.{ℕ, zero, suc, ◌+◌, ◌*◌, ◌^◌, ◌≤◌, ◌<◌}
use native.Mathlib.Omega.{arith}
use native.Mathlib.Numerals.{add-one}
use lib.Dec.{ltb}
use lib.Bits.{bit_or}
use lib.ListN.{length, get_or, set}
use lib.Seq.{get_or-set_same}
use borrow.Author.Tests.{ltb-true, ltb-false, eqb-true, eq-eqb}
use Rattle.mask.specs.Sets.{has}
use Rattle.mask.proofs.Tests.{by_cases, by_eq, clash, or_right}
use Rattle.mask.proofs.Bits.{has_high}
use Rattle.mask.proofs.Words.{has_or, has_one, one_lt}
use Rattle.relation.specs.Relation.{Right, rd, wr, wk, tx, bit_at, Holding, Can}
use Rattle.relation.specs.Helpers.{word_at, Kept, Derived}
use Rattle.access.specs.Helpers.{mark_to, mark_if}
use Rattle.relation.proofs.Saturation.{bit_high, kept_refl, kept_trans, join_kept, join_derived}

-- a number of a set of 64 bits is below 64
pub has_low : (m n : ℕ) → m < 2 ^ 64 → has n m ≡ true → n < 64
has_low m n l e = by_cases (ltb n 64) (λ q. ltb-true n 64 q) (λ q. clash e (has_high n m 64 l (ltb-false n 64 q)))

-- one mark ------------------------------------------------------------------------
pub mark_none : (r : List ℕ) (x y g : ℕ) → r ≡ mark_to r x y g 0
unfolding mark_to
mark_none r x y g = refl

pub mark_on : (r s t : List ℕ) (x y g b : ℕ) → s ≡ mark_to r x y g b → has b g ≡ true → t ≡ set s (b * 64 + x) (bit_or (get_or s (b * 64 + x) 0) (2 ^ y)) → t ≡ mark_to r x y g (b + 1)
unfolding mark_to
mark_on r s t x y g b p e q = rw add-one (rw (e, mark_to) (q ∙ ap (λ (w : List ℕ). set w (b * 64 + x) (bit_or (get_or w (b * 64 + x) 0) (2 ^ y))) p))

pub mark_off : (r s t : List ℕ) (x y g b : ℕ) → s ≡ mark_to r x y g b → has b g ≡ false → t ≡ s → t ≡ mark_to r x y g (b + 1)
unfolding mark_to
mark_off r s t x y g b p e q = rw add-one (rw (e, mark_to) (q ∙ p))

module _ (r : List ℕ) (x y g : ℕ) (hx : x < 64) (hy : y < 64) where
  mark_kept : (k : ℕ) → Kept r (mark_to r x y g k)
  unfolding mark_to
  mark_kept zero = kept_refl r
  mark_kept (suc k) = by_cases (has k g)
      (λ e. rw (e, mark_to) (kept_trans (mark_kept k) (join_kept (mark_to r x y g k) _ _ (λ h. one_lt y hy))))
      (λ e. rw (e, mark_to) (mark_kept k))

  mark_sets : (k b : ℕ) → length r ≡ 256 → k ≤ 4 → b < k → has b g ≡ true → has y (get_or (mark_to r x y g k) (b * 64 + x) 0) ≡ true
  unfolding mark_to
  mark_sets zero b l hk hb e = absurd (omega arith)
  mark_sets (suc k) b l hk hb e = by_eq b k
      (λ q. let f : has k g ≡ true = rw q at e in subst⁻¹ (λ (j : ℕ). has y (get_or (mark_to r x y g (suc k)) (j * 64 + x) 0) ≡ true) q (rw (f, mark_to)
      (subst⁻¹ (λ (m : ℕ). has y m ≡ true) (get_or-set_same (mark_to r x y g k) (k * 64 + x) _ 0 (omega (arith, (mark_kept k).long)))
      (has_or y _ _ ∙ or_right (has y (get_or (mark_to r x y g k) (k * 64 + x) 0)) _ (has_one y y hy hy ∙ eq-eqb y y refl)))))
      (λ q. let i = mark_sets k b l (omega arith) (omega arith) e in by_cases (has k g)
      (λ f. rw (f, mark_to) ((join_kept (mark_to r x y g k) _ _ (λ h. one_lt y hy)).bits (b * 64 + x) y i))
      (λ f. rw (f, mark_to) i))

  -- each right by its number
  right_of : (k : ℕ) → k < 4 → (b : Right) × (bit_at b ≡ k)
  right_of zero h = (rd, refl)
  right_of (suc zero) h = (wr, refl)
  right_of (suc (suc zero)) h = (wk, refl)
  right_of (suc (suc (suc zero))) h = (tx, refl)
  right_of (suc (suc (suc (suc k)))) h = absurd (omega arith)

  mark_derived : (h : Holding) (k : ℕ) → k ≤ 4 → ((b : Right) → has (bit_at b) g ≡ true → Can h b x y) → Derived h r → Derived h (mark_to r x y g k)
  unfolding mark_to
  mark_derived h zero hk f ok = ok
  mark_derived h (suc k) hk f ok = let i = mark_derived h k (omega arith) f ok in by_cases (has k g)
      (λ e.
      let b = right_of k (omega arith) in
      rw (e, mark_to) (subst (λ (m : ℕ). Derived h (set (mark_to r x y g k) (m * 64 + x) (bit_or (get_or (mark_to r x y g k) (m * 64 + x) 0) (2 ^ y)))) b.1
      (join_derived h b.0 x (2 ^ y) (mark_to r x y g k) hx i (λ z hz w.
      subst⁻¹ (λ (n : ℕ). Can h b.0 x n) (eqb-true z y (sym (has_one z y hz hy) ∙ w)) (f b.0 (subst⁻¹ (λ (n : ℕ). has n g ≡ true) b.1 e))))))
      (λ e. rw (e, mark_to) i)

-- a run of marks -------------------------------------------------------------------
-- where it is wanted, the holder is marked with the rights over the target
pub record Mark : Type 0 where
  pub on : Bool
  pub holder : ℕ
  pub target : ℕ
  pub rights : ℕ

-- q is r with the first n marks: what was there stays, what is marked is there, and there is nothing that the two do not give
pub record Marked (m : ℕ → Mark) (r q : List ℕ) (n : ℕ) : Type 0 where
  pub kept : Kept r q
  pub derived : (h : Holding)
      → ((b : Right) (k : ℕ) → k < n → (m k).on ≡ true → has (bit_at b) (m k).rights ≡ true → Can h b (m k).holder (m k).target)
      → Derived h r → Derived h q
  pub held : (b : Right) (k : ℕ) → k < n → (m k).on ≡ true → has (bit_at b) (m k).rights ≡ true
      → has (m k).target (word_at q b (m k).holder) ≡ true

pub marked_none : (m : ℕ → Mark) (r : List ℕ) → Marked m r r 0
marked_none m r = record { kept = kept_refl r; derived = λ h f ok. ok; held = λ b k h. absurd (omega arith) }

module _ (m : ℕ → Mark) (r q : List ℕ) (n : ℕ) (long : length r ≡ 256) (p : Marked m r q n) where
  marked_by : (on : Bool) → on ≡ (m n).on → (on ≡ true → ((m n).holder < 64) × ((m n).target < 64))
      → Marked m r (mark_if on q (m n).holder (m n).target (m n).rights) (suc n)
  marked_by true e low =
      let x = (m n).holder in
      let y = (m n).target in
      let g = (m n).rights in
      let hx = (low refl).0 in
      let hy = (low refl).1 in
      let k = mark_kept q x y g hx hy 4 in record {
        kept = kept_trans p.kept k;
        derived = λ h f ok. mark_derived q x y g hx hy h 4 (omega arith) (λ b w. f b n (omega arith) (sym e) w) (p.derived h (λ b i l. f b i (omega arith)) ok);
        held = λ b i l u f. by_eq i n
            (λ z. subst⁻¹ (λ (j : ℕ). has (m j).target (word_at (mark_to q x y g 4) b (m j).holder) ≡ true) z
            (mark_sets q x y g hx hy 4 (bit_at b) (p.kept.long ∙ long) (omega arith) (omega (arith, bit_high b)) (subst (λ (j : ℕ). has (bit_at b) (m j).rights ≡ true) z f)))
            (λ z. k.bits _ _ (p.held b i (omega arith) u f));
      }
  marked_by false e low = record {
    kept = p.kept;
    derived = λ h f ok. p.derived h (λ b i l. f b i (omega arith)) ok;
    held = λ b i l u f. by_eq i n (λ z. clash (subst (λ (j : ℕ). (m j).on ≡ true) z u) (sym e)) (λ z. p.held b i (omega arith) u f);
  }

  pub marked_more : ((m n).on ≡ true → ((m n).holder < 64) × ((m n).target < 64))
      → Marked m r (mark_if (m n).on q (m n).holder (m n).target (m n).rights) (suc n)
  marked_more low = marked_by (m n).on refl low

-- the same mark on equal words, for an equal test
pub mark_same : (on d : Bool) (r q w : List ℕ) (x y g : ℕ) → on ≡ d → r ≡ q → w ≡ mark_if on r x y g → w ≡ mark_if d q x y g
mark_same on d r q w x y g e p z = z ∙ ap₂ (λ (b : Bool) (l : List ℕ). mark_if b l x y g) e p
