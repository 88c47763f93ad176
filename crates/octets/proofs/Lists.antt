-- A list by its places: `tabulate`, a list that a loop fills from the front, and a list that grows by lending its next part.
-- Assumes nothing.
use mathlib.Core.Path.{◌≡◌, refl, sym, ◌∙◌, ap, ap₂}
use mathlib.Core.List.{List, [], ◌∷◌, ◌++◌, append_assoc}
use Prim.Native.Nat.{ℕ, zero, suc, ◌+◌, ◌*◌, ◌<◌}
use native.Mathlib.Numerals.{add-one}
use native.Mathlib.Omega.{arith}
use lib.ListN.{length, get_or, set, take, drop, length-set}
use lib.Seq.{take-suc, take-suc-set, take_all, take_at, drop_at, drop-drop}
use Rattle.table.specs.Lists.{tabulate}
use Rattle.table.proofs.Lists.{tabulate_snoc, as_tabulate}

module _ {A : Type 0} where
  -- a list is the table of its elements
  pub tabulate_is : (n : ℕ) (f : ℕ → A) (d : A) (xs : List A) → length xs ≡ n → ((k : ℕ) → k < n → f k ≡ get_or xs k d) → tabulate n f ≡ xs
  tabulate_is n f d xs e h = sym (as_tabulate n f d xs e (λ k g. sym (h k g)))

  -- a place within the list reads the same, whatever is said of those past its end
  pub get_d_within : (xs : List A) (k : ℕ) (d e : A) → k < length xs → get_or xs k d ≡ get_or xs k e
  get_d_within [] k d e h = absurd (omega arith)
  get_d_within (x ∷ xs) zero d e h = refl
  get_d_within (x ∷ xs) (suc k) d e h = get_d_within xs k d e (omega arith)

  -- a loop that stores the value of each place: nothing yet, one more, all
  pub filled_none : (f : ℕ → A) → [] ≡ tabulate 0 f
  unfolding tabulate
  filled_none f = refl

  pub filled_more : (n : ℕ) (f : ℕ → A) (xs : List A) (a : A) → n < length xs → take n xs ≡ tabulate n f → a ≡ f n → take (n + 1) (set xs n a) ≡ tabulate (n + 1) f
  filled_more n f xs a h e g = rw add-one (take-suc-set xs n a h ∙ ap₂ (λ (p : List A) (x : A). p ++ (x ∷ [])) e g ∙ sym (tabulate_snoc n f))

  pub filled_all : (n k : ℕ) (f : ℕ → A) (xs : List A) → length xs ≡ k → n ≡ k → take n xs ≡ tabulate n f → xs ≡ tabulate k f
  filled_all n k f xs l e t = sym (take_all n xs (omega arith)) ∙ t ∙ ap (λ (m : ℕ). tabulate m f) e

  -- pairs, one after the other: the next two elements, and a loop that stores them
  pub take_pair : (xs : List A) (j : ℕ) (d : A) → 2 * j + 1 < length xs → take (2 * suc j) xs ≡ take (2 * j) xs ++ (get_or xs (2 * j) d ∷ get_or xs (2 * j + 1) d ∷ [])
  take_pair xs j d h =
      let e : 2 * suc j ≡ suc (suc (2 * j)) = omega arith in
      rw e (take-suc xs (suc (2 * j)) d (omega arith) ∙ (rw (take-suc xs (2 * j) d (omega arith), append_assoc, add-one) refl))

  pub pair_more : (xs : List A) (j : ℕ) (a b : A) → 2 * j + 1 < length xs → take (2 * (j + 1)) (set (set xs (2 * j) a) (2 * j + 1) b) ≡ take (2 * j) xs ++ (a ∷ b ∷ [])
  pair_more xs j a b h =
      let l = length-set xs (2 * j) a in
      let e : 2 * (j + 1) ≡ suc (suc (2 * j)) = omega arith in
      rw (e, add-one) (take-suc-set (set xs (2 * j) a) (suc (2 * j)) b (omega arith) ∙ (rw (take-suc-set xs (2 * j) a (omega arith), append_assoc) refl))

  -- a list whose first part is p, and which is as xs after that, lends its next k elements, and ys come back
  pub lent_next : (p xs l ys : List A) (a k : ℕ) → length p ≡ a → l ≡ p ++ drop a xs → take a l ++ (ys ++ drop k (drop a l)) ≡ (p ++ ys) ++ drop (a + k) xs
  lent_next p xs l ys a k e h = rw (h, take_at p (drop a xs) a e, drop_at p (drop a xs) a e, drop-drop k a xs) (sym (append_assoc p ys (drop (a + k) xs)))
