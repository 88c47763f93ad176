-- Bytes that are written where zeros stand: the next byte, what stands before the zeros, and the loop that writes a list. What is written is
-- a list padded with zeros, so each store makes that list longer by one. Assumes nothing.
use mathlib.Core.Path.{◌≡◌, refl, sym, ◌∙◌, ap, ap₂}
use mathlib.Core.List.{List, [], ◌∷◌, ◌++◌, append_assoc}
use Prim.Native.Nat.{ℕ, zero, suc, ◌+◌, ◌*◌, ◌≤◌, ◌<◌}
use native.Mathlib.Numerals.{add-one}
use native.Mathlib.Omega.{arith}
use lib.ListN.{length, set, take, drop, length-append}
use lib.Seq.{get_or-take, take-set-le, length-take-le}
use Rattle.table.specs.Lists.{tabulate, padded}
use Rattle.table.proofs.Lists.{length_tabulate, as_tabulate, length_padded, padded_push, padded_all}
use Rattle.octets.specs.BigEndian.{byte_at}
use Rattle.requests.specs.declared.PairList.{PairList}
use Rattle.requests.specs.Asks.{pair_at, pairs_of}
use Rattle.wire_out.specs.Written.{pair_bytes, list_bytes}
use Rattle.wire_out.proofs.Pairs.{length_pairs, pairs_next, length_held}

-- fields in front of zeros
pub zeros_fill : (n : ℕ) (xs : List ℕ) → length xs ≤ n → xs ++ drop (length xs) (padded n 0 []) ≡ padded n 0 xs
unfolding padded tabulate
zeros_fill n [] h = refl
zeros_fill zero (x ∷ xs) h = absurd (omega arith)
zeros_fill (suc n) (x ∷ xs) h = ap (λ (l : List ℕ). x ∷ l) (zeros_fill n xs (omega arith))

-- the next byte
pub zeros_push : (xs l : List ℕ) (i a : ℕ) → length xs ≡ i → i < 22 → l ≡ padded 22 0 xs → set l i a ≡ padded 22 0 (xs ++ (a ∷ []))
zeros_push xs l i a e h f = rw (f, ← e) (padded_push 22 0 xs a (omega arith))

-- what stands before the zeros
module _ (p l : List ℕ) (n : ℕ) (long : length p ≡ n) (room : n ≤ 22) (e : l ≡ padded 22 0 p) where
  pub zeros_front : take n l ≡ p
  zeros_front =
      let xs = padded 22 0 p in
      let m = length p in
      ap₂ (λ (k : ℕ) (x : List ℕ). take k x) (sym long) e
      ∙ as_tabulate m (byte_at xs) 0 (take m xs) (length-take-le m xs (omega (arith, length_padded 22 0 p))) (λ k g. get_or-take m xs k 0 g)
      ∙ padded_all 22 0 p (omega arith)

  pub zeros_after : l ≡ padded 22 0 (take n l)
  zeros_after = e ∙ ap (padded 22 0) (sym zeros_front)

-- the count of a list and its first k pairs, behind what stands before its place
abbrev pub list_to : List ℕ → ℕ → PairList → ℕ → List ℕ
list_to before place list k = padded 22 0 (take place before ++ (list.count ∷ pair_bytes (tabulate k (pair_at list))))

-- the loop that writes them: the count, one more pair, all
module _ (list : PairList) (place : ℕ) (room : place ≤ 13) (before : List ℕ) (long : length before ≡ 22) where
  -- the store of the count leaves what stands before it
  abbrev counted : List ℕ
  counted = set before place list.count

  front_kept : take place counted ≡ take place before
  front_kept = take-set-le place before place list.count (omega arith)

  length_front : length (take place before) ≡ place
  length_front = length-take-le place before (omega arith)

  pub list_none : before ≡ padded 22 0 (take place before) → counted ≡ list_to counted place list 0
  unfolding pair_bytes tabulate
  list_none e = rw front_kept (zeros_push _ before place list.count length_front (omega arith) e)

  pub list_more : (l : List ℕ) (k at : ℕ) → k < 4 → at ≡ place + 1 + 2 * k → l ≡ list_to before place list k
      → set (set l at (pair_at list k).from) (at + 1) (pair_at list k).to ≡ list_to before place list (k + 1)
  list_more l k at h i e =
      let p = take place before in
      let first = tabulate k (pair_at list) in
      let ps = pair_bytes first in
      let xs = p ++ (list.count ∷ ps) in
      let a = (pair_at list k).from in
      let b = (pair_at list k).to in
      let z : length xs ≡ at =
      omega (arith, length-append p (list.count ∷ ps), length_pairs first, length_tabulate k (pair_at list), length_front) in
      zeros_push (xs ++ (a ∷ [])) _ (at + 1) b (omega (arith, length-append xs (a ∷ []))) (omega arith) (zeros_push xs l at a z (omega arith) e)
      ∙ ap (padded 22 0) (append_assoc xs (a ∷ []) (b ∷ []) ∙ append_assoc p (list.count ∷ ps) (a ∷ b ∷ [])
      ∙ ap (λ (r : List ℕ). p ++ (list.count ∷ r)) (sym (pairs_next (pair_at list) k) ∙ (rw add-one refl)))

  pub list_all : (l : List ℕ) (k : ℕ) → k ≡ list.count → l ≡ list_to counted place list k
      → l ≡ padded 22 0 (take place before ++ list_bytes (pairs_of list))
  unfolding pairs_of
  list_all l k h e = e ∙ (rw (h, front_kept, length_held list) refl)
