-- What the writers leave is the request's bytes with zeros after them. Numbers are put at known places, so that computes; a list's end is found
-- by the laws of Zeros.antt. Assumes nothing.
use mathlib.Core.Path.{◌≡◌, refl, sym, ◌∙◌, ap₂, subst}
use mathlib.Core.List.{List, [], ◌∷◌, ◌++◌}
use Prim.Native.Nat.{ℕ, ◌+◌, ◌*◌, ◌≤◌, ◌<◌}
use native.Mathlib.Nat.{div-one}
use native.Mathlib.Omega.{arith}
use lib.ListN.{length, get_or, set, take, length-append}
use borrow.Author.Tests.{lt-ltb, le-ltb}
use Rattle.std.specs.Int.{w32, w64, to_be_bytes}
use Rattle.table.specs.Lists.{padded}
use Rattle.octets.specs.BigEndian.{bytes_of}
use Rattle.requests.specs.declared.PairList.{PairList}
use Rattle.requests.specs.declared.Request.{Request}
use Rattle.requests.specs.Asks.{Ask, send, allocate, pairs_in, pairs_of, ask_of}
use Rattle.wire_out.specs.declared.Written.{Written}
use Rattle.wire_out.specs.Written.{pair_bytes, list_bytes, field_bytes, request_bytes, held_bytes, written_of}
use Rattle.wire_out.proofs.Pairs.{length_pairs, length_held}
use Rattle.wire_out.proofs.Zeros.{zeros_push, zeros_front, zeros_after}

-- by the length of the list
module _ (q : Ask) where
  pub written_short : length (pairs_in q) ≤ 4 → held_bytes (request_bytes q) ≡ written_of q
  unfolding written_of
  written_short h = rw (le-ltb 4 (length (pairs_in q)) h, written_of) refl

  pub written_long : 4 < length (pairs_in q) → held_bytes [] ≡ written_of q
  unfolding written_of
  written_long h = rw (lt-ltb 4 (length (pairs_in q)) h, written_of) refl

  -- bytes and a count that were made
  pub written_made : length (pairs_in q) ≤ 4 → (l : List ℕ) (n : ℕ) → l ≡ padded 22 0 (request_bytes q) → n ≡ length (request_bytes q)
      → ◌≡◌ {A = Written} (record { bytes = l; count = n }) (written_of q)
  unfolding held_bytes
  written_made h l n e f = ap₂ {C = Written} (λ (x : List ℕ) (k : ℕ). record { bytes = x; count = k }) e f ∙ written_short h

-- the request that a match told
pub written_told : (list : PairList) {request told : Request} {w : Written} → request ≡ told → w ≡ written_of (ask_of told list)
    → w ≡ written_of (ask_of request list)
written_told list {w = w} e f = subst (λ (r : Request). w ≡ written_of (ask_of r list)) (sym e) f

-- the bytes of a number -------------------------------------------------------------------
pub word_bytes : (w : ℕ) (x : List ℕ) → x ≡ to_be_bytes w32 w → (get_or x 0 0 ∷ get_or x 1 0 ∷ get_or x 2 0 ∷ get_or x 3 0 ∷ []) ≡ bytes_of 4 w
unfolding bytes_of
word_bytes w x e = rw (e, div-one w) refl

pub part_bytes : (p i : ℕ) (x : List ℕ) → x ≡ to_be_bytes w64 p
    → (get_or x 0 0 ∷ get_or x 1 0 ∷ get_or x 2 0 ∷ get_or x 3 0 ∷ get_or x 4 0 ∷ get_or x 5 0 ∷ get_or x 6 0 ∷ get_or x 7 0 ∷ i ∷ []) ≡ bytes_of 8 p ++ (i ∷ [])
unfolding bytes_of
part_bytes p i x e = rw (e, div-one p) refl

-- a list behind the number -----------------------------------------------------------------
module _ (list : PairList) where
  -- too long a list
  pub list_long : (q : Ask) (r : Written) → pairs_in q ≡ pairs_of list → 4 < list.count → r ≡ held_bytes [] → r ≡ written_of q
  list_long q r f h e = e ∙ written_long q (rw f (omega (arith, length_held list)))

  -- behind the word of a send, and the reply behind it
  module _ (a t w : ℕ) (l : List ℕ) (e : l ≡ padded 22 0 (6 ∷ a ∷ t ∷ bytes_of 4 w)) where
    pub send_room : l ≡ padded 22 0 (take 7 l)
    unfolding bytes_of
    send_room = zeros_after _ l 7 refl (omega arith) e

    pub send_left : list.count ≤ 4 → (y : ℕ) (r : List ℕ) → r ≡ padded 22 0 (take 7 l ++ list_bytes (pairs_of list))
        → ◌≡◌ {A = Written} (record { bytes = set r (8 + 2 * list.count) y; count = 9 + 2 * list.count })
        (written_of (send a t w (pairs_of list) y))
    unfolding request_bytes field_bytes bytes_of
    send_left few y r f =
        let n = length_held list in
        let m = length_pairs (pairs_of list) in
        written_made (send a t w (pairs_of list) y) (omega arith) _ _
        (zeros_push _ r (8 + 2 * list.count) y (omega arith) (omega arith) (rw (zeros_front _ l 7 refl (omega arith) e) at f))
        (omega (arith, length-append (pair_bytes (pairs_of list)) (y ∷ [])))

  -- behind the slot of an allocate
  module _ (a n k p i : ℕ) (l : List ℕ) (e : l ≡ padded 22 0 (7 ∷ a ∷ n ∷ k ∷ (bytes_of 8 p ++ (i ∷ [])))) where
    pub allocate_room : l ≡ padded 22 0 (take 13 l)
    unfolding bytes_of
    allocate_room = zeros_after _ l 13 refl (omega arith) e

    pub allocate_left : list.count ≤ 4 → (r : List ℕ) → r ≡ padded 22 0 (take 13 l ++ list_bytes (pairs_of list))
        → ◌≡◌ {A = Written} (record { bytes = r; count = 14 + 2 * list.count }) (written_of (allocate a n k p i (pairs_of list)))
    unfolding request_bytes field_bytes bytes_of
    allocate_left few r f =
        let z = length_held list in
        let m = length_pairs (pairs_of list) in
        written_made (allocate a n k p i (pairs_of list)) (omega arith) r _ (rw (zeros_front _ l 13 refl (omega arith) e) at f) (omega arith)
