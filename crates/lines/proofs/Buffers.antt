-- Lines put into a buffer one after the other: what a store of a line and of the next line leaves. A line is two or
-- three stores in a run, and what is put behind what was put joins it. Assumes nothing.
use mathlib.Core.Path.{◌≡◌, refl, sym, ◌∙◌, ap, ap₂}
use mathlib.Core.Bool.{true, false}
use mathlib.Core.List.{List, [], ◌∷◌, ◌++◌, append_assoc}
use Prim.Native.Nat.{ℕ, zero, suc, ◌+◌, ◌*◌, ◌/◌, ◌%◌, ◌≤◌, ◌<◌}
use native.Mathlib.Numerals.{add-one, add-two}
use native.Mathlib.Omega.{arith}
use lib.Dec.{ltb}
use lib.ListN.{length, set, take, drop, length-append}
use lib.Seq.{length-take-le, take_at, drop_at, drop-drop, sets-eq, paste-zero}
use borrow.Author.Tests.{lt-ltb, le-ltb, ltb-true, ltb-false}
use Rattle.mask.specs.Sets.{has}
use Rattle.mask.proofs.Tests.{by_cases}
use Rattle.lines.specs.Lines.{newline, decimal, number_line, number_lines}
use Rattle.lines.specs.Helpers.{placed, begun, line_if}

-- a number's line -------------------------------------------------------------------------
pub line_one : (n : ℕ) → n < 10 → number_line n ≡ (48 + n) ∷ newline ∷ []
unfolding decimal
line_one n h = rw (lt-ltb _ _ h, decimal) refl

pub line_two : (n : ℕ) → 10 ≤ n → number_line n ≡ (48 + n / 10) ∷ (48 + n % 10) ∷ newline ∷ []
unfolding decimal
line_two n h = rw (le-ltb _ _ h, decimal) refl

pub length_line : (n : ℕ) → length (number_line n) ≤ 3
length_line n = by_cases (ltb n 10) (λ e. rw (line_one n (ltb-true n 10 e)) (omega arith)) (λ e. rw (line_two n (ltb-false n 10 e)) (omega arith))

-- a run of stores of the line's bytes
pub line_put_one : (out : List ℕ) (at n : ℕ) → at + 3 ≤ length out → n < 10
    → (at + 2 ≡ at + length (number_line n)) × (set (set out at (48 + n)) (at + 1) newline ≡ placed out at (number_line n))
line_put_one out at n h g = rw (line_one n g, add-one) (refl, sets-eq ((48 + n) ∷ newline ∷ []) out at (omega arith))

pub line_put_two : (out : List ℕ) (at n : ℕ) → at + 3 ≤ length out → 10 ≤ n
    → (at + 3 ≡ at + length (number_line n)) × (set (set (set out at (48 + n / 10)) (at + 1) (48 + n % 10)) (at + 2) newline ≡ placed out at (number_line n))
line_put_two out at n h g = rw (line_two n g, add-one, add-two) (refl, sets-eq ((48 + n / 10) ∷ (48 + n % 10) ∷ newline ∷ []) out at (omega arith))

-- one after the other ------------------------------------------------------------------------
-- a list whose first part is p, and which is as xs after that, gets ys at its next place
next_put : (p xs l ys : List ℕ) (a : ℕ) → length p ≡ a → l ≡ p ++ drop a xs → placed l a ys ≡ (p ++ ys) ++ drop (a + length ys) xs
next_put p xs l ys a e h =
    ap₂ (λ (x y : List ℕ). (x ++ ys) ++ y) (ap (take a) h ∙ take_at p (drop a xs) a e)
    (sym (drop-drop (length ys) a l) ∙ ap (drop (length ys)) (ap (drop a) h ∙ drop_at p (drop a xs) a e) ∙ drop-drop (length ys) a xs)

pub begun_next : (out word l ys : List ℕ) (a : ℕ) → a ≡ length word → l ≡ begun out word
    → (a + length ys ≡ length (word ++ ys)) × (placed l a ys ≡ begun out (word ++ ys))
begun_next out word l ys a e h =
    let s : a + length ys ≡ length (word ++ ys) = ap (λ (k : ℕ). k + length ys) e ∙ sym (length-append word ys) in
    (s, next_put word out l ys a (sym e) (h ∙ ap (λ (k : ℕ). word ++ drop k out) (sym e)) ∙ ap (λ (k : ℕ). (word ++ ys) ++ drop k out) s)

-- a line for each number of a set ----------------------------------------------------------------
pub none_put : (out : List ℕ) (at : ℕ) → (at ≡ at + length {A = ℕ} []) × (out ≡ placed out at [])
none_put out at = (omega arith, paste-zero out at [])

pub if_in : (set n : ℕ) → has n set ≡ true → line_if set n ≡ number_line n
unfolding line_if
if_in set n e = rw (e, line_if) refl

pub if_out : (set n : ℕ) → has n set ≡ false → line_if set n ≡ []
unfolding line_if
if_out set n e = rw (e, line_if) refl

length_if : (set n : ℕ) → length (line_if set n) ≤ 3
length_if set n = by_cases (has n set) (λ e. rw (if_in set n e) (length_line n)) (λ e. rw (if_out set n e) (omega arith))

pub length_lines : (set n : ℕ) → length (number_lines set n) ≤ 3 * n
unfolding number_lines line_if
length_lines set zero = omega arith
length_lines set (suc n) = omega (arith, length-append (number_lines set n) (line_if set n), length_lines set n, length_if set n)

-- the loop over the numbers: nothing yet, and one more
module _ (set : ℕ) (out : List ℕ) (at : ℕ) where
  pub lines_none : (at ≡ at + length (number_lines set 0)) × (out ≡ placed out at (number_lines set 0))
  unfolding number_lines
  lines_none = none_put out at

  pub lines_more : (n next more : ℕ) (l m : List ℕ) → at ≤ length out
      → next ≡ at + length (number_lines set n) → l ≡ placed out at (number_lines set n)
      → more ≡ next + length (line_if set n) → m ≡ placed l next (line_if set n)
      → (more ≡ at + length (number_lines set (n + 1))) × (m ≡ placed out at (number_lines set (n + 1)))
  unfolding number_lines line_if
  lines_more n next more l m h en el em ef =
      let b = number_lines set n in
      let s : at + length (b ++ line_if set n) ≡ next + length (line_if set n) = omega (arith, length-append b (line_if set n)) in
      let p : length (take at out ++ b) ≡ next = omega (arith, length-append (take at out) b, length-take-le at out h) in
      rw add-one (
        em ∙ sym s,
        ef ∙ next_put (take at out ++ b) out l (line_if set n) next p (el ∙ ap (λ (k : ℕ). (take at out ++ b) ++ drop k out) (sym en))
            ∙ ap₂ (λ (x : List ℕ) (k : ℕ). x ++ drop k out) (append_assoc (take at out) b (line_if set n)) (sym s),
      )
