-- Parts of a list of bytes: they are bytes too, two of them as a number, and what stands after a part. By the laws of lists.
-- Assumes nothing.
use mathlib.Core.Path.{◌≡◌, ◌∙◌, ap, ap₂}
use mathlib.Core.List.{List, ◌++◌}
use Prim.Native.Nat.{ℕ, ◌+◌, ◌*◌, ◌^◌, ◌≤◌, ◌<◌}
use native.Mathlib.Omega.{arith}
use lib.Dec.{ltb}
use lib.ListN.{length, get_or, take, drop, length-take, get_or-eq_default}
use lib.Seq.{get_or-take, get_or-drop, get_or-append-add}
use borrow.Author.Tests.{ltb-true, ltb-false}
use Rattle.mask.proofs.Tests.{by_cases}
use Rattle.octets.specs.BigEndian.{Bytes, byte_at, number_from, number_of}
use Rattle.octets.proofs.BigEndian.{number_next, number_within}

pub beside : {a b c d : List ℕ} → a ≡ b → c ≡ d → a ++ c ≡ b ++ d
beside e f = ap₂ (λ (x y : List ℕ). x ++ y) e f

pub bytes_drop : (n : ℕ) (xs : List ℕ) → Bytes xs → Bytes (drop n xs)
bytes_drop n xs h i = rw (get_or-drop n xs i 0) (h (n + i))

pub bytes_take : (n : ℕ) (xs : List ℕ) → Bytes xs → Bytes (take n xs)
bytes_take n xs h i = by_cases (ltb i n)
    (λ e. rw (get_or-take n xs i 0 (ltb-true i n e)) (h i))
    (λ e. let g = ltb-false i n e in rw (get_or-eq_default (take n xs) 0 {n = i} (simp length-take (omega arith))) (omega arith))

-- the first k bytes as a number
pub number_take : (k : ℕ) (bs : List ℕ) → Bytes bs → number_of (take k bs) < 256 ^ k
number_take k bs b = number_within k (take k bs) (simp length-take (omega arith)) (bytes_take k bs b)

-- the element n of what stands after xs
pub get_d_after : (xs ys : List ℕ) (k n : ℕ) → length xs ≡ k → get_or (xs ++ ys) (k + n) 0 ≡ get_or ys n 0
get_d_after xs ys k n e = rw (← e) (get_or-append-add xs ys n 0)

pub number_two : (bytes : List ℕ) → 2 ≤ length bytes → number_of (take 2 bytes) ≡ byte_at bytes 0 * 256 + byte_at bytes 1
unfolding number_from
number_two bytes h = number_next bytes 1 h ∙ ap (λ (x : ℕ). x * 256 + byte_at bytes 1) (number_next bytes 0 (omega arith) ∙ omega arith)
