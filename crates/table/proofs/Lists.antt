-- A tabulated list: its length, its elements, one more at its end, and that a list is the one of its elements. What a list has after
-- a put. A list that is padded to a length: one more element in the first place that was padding. Assumes nothing.
use mathlib.Core.Path.{◌≡◌, refl, sym, ◌∙◌, ap}
use mathlib.Core.List.{List, [], ◌∷◌, ◌++◌}
use Prim.Native.Nat.{ℕ, zero, suc, ◌+◌, ◌≤◌, ◌<◌}
use native.Mathlib.Numerals.{add-one}
use native.Mathlib.Omega.{arith}
use lib.ListN.{length, get_or, set}
use lib.Seq.{ext_get_or}
use Rattle.table.specs.Lists.{tabulate, padded}

pub length_tabulate : {A : Type 0} (n : ℕ) (f : ℕ → A) → length (tabulate n f) ≡ n
unfolding tabulate
length_tabulate zero f = refl
length_tabulate (suc n) f = ap suc (length_tabulate n (λ k. f (suc k)))

pub get_d_tabulate : {A : Type 0} (n : ℕ) (f : ℕ → A) (k : ℕ) (d : A) → k < n → get_or (tabulate n f) k d ≡ f k
unfolding tabulate
get_d_tabulate zero f k d h = absurd (omega arith)
get_d_tabulate (suc n) f zero d h = refl
get_d_tabulate (suc n) f (suc k) d h = get_d_tabulate n (λ i. f (suc i)) k d (omega arith)

pub tabulate_snoc : {A : Type 0} (n : ℕ) (f : ℕ → A) → tabulate (suc n) f ≡ tabulate n f ++ (f n ∷ [])
unfolding tabulate
tabulate_snoc zero f = refl
tabulate_snoc (suc n) f = ap (λ l. f 0 ∷ l) (tabulate_snoc n (λ k. f (suc k)))

-- a list of n elements that are those of f
pub as_tabulate : {A : Type 0} (n : ℕ) (f : ℕ → A) (d : A) (l : List A) → length l ≡ n → ((k : ℕ) → k < n → get_or l k d ≡ f k) → l ≡ tabulate n f
as_tabulate n f d l e h = ext_get_or d l (tabulate n f) (e ∙ sym (length_tabulate n f))
    (λ i g. let b : i < n = omega arith in h i b ∙ sym (get_d_tabulate n f i d b))

-- a fact of what a list has after a put, however long it is --------------------------------
module _ {A : Type 0} (P : A → Type 0) where
  -- at any place: of what was put, if that is the place, and of what was there
  pub put_any : (l : List A) (i j : ℕ) (a d : A) → (j ≡ i → P a) → P (get_or l j d) → P (get_or (set l i a) j d)
  put_any [] i j a d new old = old
  put_any (x ∷ xs) zero zero a d new old = new refl
  put_any (x ∷ xs) zero (suc j) a d new old = old
  put_any (x ∷ xs) (suc i) zero a d new old = old
  put_any (x ∷ xs) (suc i) (suc j) a d new old = put_any xs i j a d (λ e. new (ap suc e)) old

  -- at its own place: of what was put, and of the default past the end
  pub put_there : (l : List A) (i : ℕ) (a d : A) → P a → P d → P (get_or (set l i a) i d)
  put_there [] i a d new end = end
  put_there (x ∷ xs) zero a d new end = new
  put_there (x ∷ xs) (suc i) a d new end = put_there xs i a d new end

-- padded lists ---------------------------------------------------------------------------
module _ {A : Type 0} where
  pub length_padded : (n : ℕ) (d : A) (xs : List A) → length (padded n d xs) ≡ n
  unfolding padded
  length_padded n d xs = length_tabulate n (λ k. get_or xs k d)

  pub get_d_padded : (n : ℕ) (d : A) (xs : List A) (k : ℕ) → k < n → get_or (padded n d xs) k d ≡ get_or xs k d
  unfolding padded
  get_d_padded n d xs k h = get_d_tabulate n (λ i. get_or xs i d) k d h

  -- what a loop that stores the next element does
  pub padded_push : (n : ℕ) (d : A) (xs : List A) (a : A) → length xs < n → set (padded n d xs) (length xs) a ≡ padded n d (xs ++ (a ∷ []))
  unfolding padded tabulate
  padded_push zero d xs a h = absurd (omega arith)
  padded_push (suc n) d [] a h = refl
  padded_push (suc n) d (x ∷ xs) a h = ap (λ l. x ∷ l) (padded_push n d xs a (omega arith))

  pub padded_more : (n : ℕ) (d : A) (f : ℕ → A) (k : ℕ) (l : List A) → k < n → l ≡ padded n d (tabulate k f) → set l k (f k) ≡ padded n d (tabulate (k + 1) f)
  padded_more n d f k l h e =
      let z = length_tabulate k f in
      ap (λ (x : List A). set x k (f k)) e ∙ ap (λ (i : ℕ). set (padded n d (tabulate k f)) i (f k)) (sym z)
      ∙ padded_push n d (tabulate k f) (f k) (omega arith) ∙ ap (padded n d) (sym (tabulate_snoc k f)) ∙ (rw add-one refl)

  -- the elements of a padded list that has room for all of them
  pub padded_all : (n : ℕ) (d : A) (xs : List A) → length xs ≤ n → tabulate (length xs) (λ k. get_or (padded n d xs) k d) ≡ xs
  padded_all n d xs h = sym (as_tabulate (length xs) _ d xs refl (λ k g. sym (get_d_padded n d xs k (omega arith))))
