-- A word joined into that of x, and x noted in the word of each number of a set: which edges the words then have. Assumes nothing.
use mathlib.Core.Path.{◌≡◌, refl, sym, ◌∙◌, ap, subst, subst⁻¹}
use mathlib.Core.Logic.{◌≢◌}
use mathlib.Core.Bool.{Bool, true, false, ◌&&◌, ◌||◌}
use mathlib.Core.List.{List}
use Prim.Native.Nat.{ℕ, ◌^◌, ◌≤◌, ◌<◌}
use native.Mathlib.Omega.{arith}
use lib.Dec.{ltb, eqb}
use lib.ListN.{length, get_or, set, length-set, get_or-eq_default}
use lib.Seq.{get_or-set_same, get_or-set_other}
use borrow.Author.Tests.{ltb-true, ltb-false, eq-eqb, ne_eqb}
use Rattle.mask.specs.Sets.{has, including, union_of}
use Rattle.mask.proofs.Tests.{by_cases, by_eq, clash, or_false}
use Rattle.mask.proofs.Bits.{has_zero, has_high, has_including, has_union, bits_lt}
use Rattle.links.specs.Links.{word_edge}
use Rattle.sweeps.specs.Helpers.{NotedEach}

-- past the last word there is none
pub past : (words : List ℕ) (u v : ℕ) → length words ≡ 64 → 64 ≤ u → word_edge words u v ≡ false
past words u v l h = ap (has v) (get_or-eq_default words 0 (omega (arith, l, h))) ∙ has_zero v

module _ (x strong named : ℕ) (words after : List ℕ) (hx : x < 64) (long : length words ≡ 64) (k : NotedEach named x (set words x (union_of (get_or words x 0) strong)) after) where
  abbrev put : List ℕ
  put = set words x (union_of (get_or words x 0) strong)

  put_own : get_or put x 0 ≡ union_of (get_or words x 0) strong
  put_own = get_or-set_same words x _ 0 (omega (arith, hx, long))

  put_other : (u : ℕ) → u ≢ x → get_or put u 0 ≡ get_or words u 0
  put_other u q = get_or-set_other words x u _ 0 q

  put_edge : (u v : ℕ) → v < 64 → word_edge put u v ≡ (word_edge words u v || (eqb u x && has v strong))
  put_edge u v hv = by_eq u x
      (λ z. ap (λ (i : ℕ). word_edge put i v) z ∙ ap (has v) put_own ∙ has_union v (get_or words x 0) strong hv
      ∙ sym (rw (eq-eqb u x z) (ap (λ (i : ℕ). word_edge words i v || has v strong) z)))
      (λ z. ap (has v) (put_other u z) ∙ sym (rw (ne_eqb u x z) (or_false (word_edge words u v))))

  -- the edges of before, those from x to the word, and those from the set to x
  pub noted_edge : (u v : ℕ) → u < 64 → v < 64 → word_edge after u v ≡ ((word_edge words u v || (eqb u x && has v strong)) || (has u named && eqb v x))
  noted_edge u v hu hv = by_cases (has u named)
      (λ g. ap (has v) (k.new u hu g) ∙ has_including v x (get_or put u 0) hv ∙ ap (λ (b : Bool). b || eqb v x) (put_edge u v hv) ∙ sym (rw g refl))
      (λ g. ap (has v) (k.old u hu g) ∙ put_edge u v hv ∙ sym (rw g (or_false (word_edge words u v || (eqb u x && has v strong)))))

  pub noted_long : length after ≡ 64
  noted_long = k.long ∙ length-set words x _ ∙ long

  -- and they are between numbers
  pub noted_low : ((u v : ℕ) → word_edge words u v ≡ true → (u < 64) × (v < 64)) → (u v : ℕ) → word_edge after u v ≡ true → (u < 64) × (v < 64)
  unfolding including union_of
  noted_low low u v e =
      let hu : u < 64 = by_cases (ltb u 64) (ltb-true u 64) (λ l. clash e (past after u v noted_long (ltb-false u 64 l))) in (
        hu,
        by_cases (ltb v 64) (ltb-true v 64) (λ l. let h = ltb-false v 64 l in by_cases (has u named)
            (λ s. clash (ap (has v) (sym (k.new u hu s)) ∙ e) (has_high v (including x (get_or put u 0)) 64 (bits_lt 64 _) h))
            (λ s. by_eq u x
            (λ q. clash (subst (λ (i : ℕ). has v (get_or put i 0) ≡ true) q (ap (has v) (sym (k.old u hu s)) ∙ e)) (ap (has v) put_own ∙ has_high v (union_of (get_or words x 0) strong) 64 (bits_lt 64 _) h))
            (λ q. absurd (omega (arith, h, (low u v (ap (has v) (sym (put_other u q)) ∙ ap (has v) (sym (k.old u hu s)) ∙ e)).1))))),
      )

  pub noted_fits : ((u : ℕ) → u < 64 → get_or words u 0 < 2 ^ 64) → (u : ℕ) → u < 64 → get_or after u 0 < 2 ^ 64
  unfolding including union_of
  noted_fits fits u hu = by_cases (has u named)
      (λ g. subst⁻¹ (λ (i : ℕ). i < 2 ^ 64) (k.new u hu g) (bits_lt 64 _))
      (λ g. subst⁻¹ (λ (i : ℕ). i < 2 ^ 64) (k.old u hu g) (by_eq u x
      (λ z. subst⁻¹ (λ (i : ℕ). i < 2 ^ 64) (ap (λ (i : ℕ). get_or put i 0) z ∙ put_own) (bits_lt 64 _))
      (λ z. subst⁻¹ (λ (i : ℕ). i < 2 ^ 64) (put_other u z) (fits u hu))))
