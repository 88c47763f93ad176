-- How long a request is: the size by its code, and what bytes that fit are known to be. Assumes nothing.
use mathlib.Core.Path.{◌≡◌, refl, ◌∙◌, ap}
use mathlib.Core.Logic.{◌≢◌}
use mathlib.Core.Bool.{true, ◌&&◌, ◌||◌}
use mathlib.Core.List.{List}
use Prim.Native.Nat.{ℕ, ◌≤◌, ◌<◌}
use native.Mathlib.Omega.{arith}
use lib.Dec.{ltb, eqb}
use lib.ListN.{length}
use borrow.Author.Tests.{leb-true, eqb-true, eq-eqb, ne_eqb}
use Rattle.std.proofs.lemmas.Bool.{ltb-true}
use Rattle.mask.proofs.Tests.{and_true, or_left, or_right}
use Rattle.wire.specs.Wires.{code_in, count_in, size_of, list_fits, fits_of}

-- a code with no row of sizes
pub size_none : (code count : ℕ) → code ≢ 1 → code ≢ 2 → code ≢ 3 → code ≢ 4 → code ≢ 5 → code ≢ 6 → code ≢ 7 → code ≢ 8 → code ≢ 9 → 0 ≡ size_of code count
unfolding size_of
size_none code count n1 n2 n3 n4 n5 n6 n7 n8 n9 =
    rw (ne_eqb code 1 n1, ne_eqb code 2 n2, ne_eqb code 3 n3, ne_eqb code 4 n4, ne_eqb code 5 n5, ne_eqb code 6 n6, ne_eqb code 7 n7, ne_eqb code 8 n8, ne_eqb code 9 n9, size_of) refl

-- bytes that fit
module _ (bs : List ℕ) (h : fits_of bs ≡ true) where
  -- the two tests that hold
  fits_parts : (list_fits bs ≡ true) × (eqb (length bs) (size_of (code_in bs) (count_in bs)) ≡ true)
  unfolding fits_of
  fits_parts =
      let long = eqb (length bs) (size_of (code_in bs) (count_in bs)) in
      and_true (list_fits bs) long (and_true (ltb 0 (length bs)) (list_fits bs && long) h).1

  pub fits_size : (k : ℕ) → code_in bs ≡ k → length bs ≡ size_of k (count_in bs)
  fits_size k e = eqb-true (length bs) _ fits_parts.1 ∙ ap (λ (x : ℕ). size_of x (count_in bs)) e

  fits_count : (eqb (code_in bs) 6 || eqb (code_in bs) 7) ≡ true → count_in bs ≤ 4
  unfolding list_fits
  fits_count e = leb-true (count_in bs) 4 (rw (e, list_fits) at fits_parts.0)

  pub send_count : code_in bs ≡ 6 → count_in bs ≤ 4
  send_count e = fits_count (or_left _ _ (eq-eqb (code_in bs) 6 e))

  pub allocate_count : code_in bs ≡ 7 → count_in bs ≤ 4
  allocate_count e = fits_count (or_right (eqb (code_in bs) 6) (eqb (code_in bs) 7) (eq-eqb (code_in bs) 7 e))

  -- such bytes have one of the nine codes
  pub fits_code : code_in bs ≢ 1 → code_in bs ≢ 2 → code_in bs ≢ 3 → code_in bs ≢ 4 → code_in bs ≢ 5 → code_in bs ≢ 6 → code_in bs ≢ 7 → code_in bs ≢ 8 → code_in bs ≢ 9 → ⊥
  unfolding fits_of
  fits_code n1 n2 n3 n4 n5 n6 n7 n8 n9 =
      let z : 0 ≡ size_of (code_in bs) (count_in bs) = size_none (code_in bs) (count_in bs) n1 n2 n3 n4 n5 n6 n7 n8 n9 in
      let l : length bs ≡ size_of (code_in bs) (count_in bs) = eqb-true (length bs) _ fits_parts.1 in
      let long = eqb (length bs) (size_of (code_in bs) (count_in bs)) in
      let p : 0 < length bs = ltb-true 0 (length bs) (and_true (ltb 0 (length bs)) (list_fits bs && long) h).0 in
      omega arith
