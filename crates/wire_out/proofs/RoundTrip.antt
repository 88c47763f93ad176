-- A request and its bytes, both ways.
-- 1. Every request with at most four pairs and fields within their bits is written and read back equal: `ask_written`. Also a code with no
--    request, whose two bytes fit none.
-- 2. Bytes that are a request write back to themselves: `bytes_written`.
-- 3. The code of the request that bytes are is their first byte: `code_read`; the first byte of a request's bytes is its code: `code_first`.
-- 4. The request that bytes are has its fields within their bits: `ask_in_bits`.
-- 5. A request with at most four pairs takes at most 22 bytes: `length_request`. So the first `count` of the bytes that the code holds for
--    it are its bytes, and are read back as the request: `held_first`, `held_read`.
-- By the request, or by the code of the bytes; the statements stand at the end. Assumes nothing.
use mathlib.Core.Path.{◌≡◌, refl, sym, ◌∙◌, ap}
use mathlib.Core.Bool.{true}
use mathlib.Core.List.{List, [], ◌∷◌}
use Prim.Native.Nat.{ℕ, ◌^◌, ◌≤◌, ◌<◌}
use native.Mathlib.Omega.{arith}
use lib.Dec.{ltb}
use lib.ListN.{length, take, drop, length-append}
use borrow.Author.Tests.{ltb-true, ltb-false}
use Rattle.mask.proofs.Tests.{by_cases}
use Rattle.octets.specs.BigEndian.{Bytes, byte_at, bytes_of, number_of}
use Rattle.octets.proofs.BigEndian.{number_written}
use Rattle.octets.proofs.Parts.{bytes_drop, number_take}
use Rattle.requests.specs.Asks.{Ask, read, write, fetch, store, revoke, send, allocate, destroy, reclaim, unknown, code_of, PairsInBits, InBits, pairs_in}
use Rattle.wire_out.specs.declared.Written.{Written}
use Rattle.wire.specs.Wires.{code_in, actor_in, count_in, size_of, list_fits, fits_of, list_in, fields_of, ask_from}
use Rattle.wire_out.specs.Written.{pair_bytes, field_bytes, request_bytes, held_bytes, written_of}
use Rattle.wire.proofs.Fields.{actor_there, actor_missing, ask_fit}
use Rattle.wire_out.proofs.Pairs.{length_pairs, pairs_in_bits}
use Rattle.wire_out.proofs.Zeros.{zeros_front}
use Rattle.wire_out.proofs.Writes.{written_short}
use Rattle.wire_out.proofs.Cases.{by_cond, by_code}
use Rattle.wire_out.proofs.ReadBack.{unknown_written, send_written, allocate_written}
use Rattle.wire_out.proofs.WriteBack.{fields_back}

-- fields within their bits -------------------------------------------------------------------
module _ (bs : List ℕ) (b : Bytes bs) where
  number_in_bits : (m n : ℕ) → number_of (take n (drop m bs)) < 256 ^ n
  number_in_bits m n = number_take n (drop m bs) (bytes_drop m bs b)

  actor_in_bits : actor_in bs < 2 ^ 8
  actor_in_bits = by_cases (ltb 1 (length bs))
      (λ e. rw (← actor_there bs (ltb-true 1 _ e)) (b 1))
      (λ e. rw (← actor_missing bs (ltb-false 1 _ e)) (omega arith))

  list_in_bits : PairsInBits (list_in bs)
  unfolding list_in
  list_in_bits = pairs_in_bits (count_in bs) _ (λ k. (b _, b _))

  fields_in_bits : InBits (fields_of bs)
  fields_in_bits = by_code InBits bs (record {
    one = λ e. (actor_in_bits, b 2);
    two = λ e. (actor_in_bits, b 2, number_in_bits 3 4);
    three = λ e. (actor_in_bits, b 2, b 3, b 4);
    four = λ e. (actor_in_bits, b 2, b 3, b 4);
    five = λ e. (actor_in_bits, b 2, b 3);
    six = λ e. (actor_in_bits, b 2, number_in_bits 3 4, list_in_bits, b _);
    seven = λ e. (actor_in_bits, b 2, b 3, number_in_bits 4 8, b 12, list_in_bits);
    eight = λ e. (actor_in_bits, b 2);
    nine = λ e. (actor_in_bits, b 2);
    none = λ z. (b 0, actor_in_bits);
  })

-- the theorems -------------------------------------------------------------------------------
pub ask_written : (q : Ask) → length (pairs_in q) ≤ 4 → InBits q → ask_from (request_bytes q) ≡ q
unfolding ask_from fits_of list_fits size_of fields_of request_bytes field_bytes bytes_of
ask_written (read a t) h z = refl
ask_written (write a t w) h z = ap (write a t) (number_written 4 w z.2)
ask_written (fetch a t i j) h z = refl
ask_written (store a t i j) h z = refl
ask_written (revoke a t j) h z = refl
ask_written (send a t w l y) h z = send_written a t w l y h z.2
ask_written (allocate a n k p i l) h z = allocate_written a n k p i l h z.3
ask_written (destroy a t) h z = refl
ask_written (reclaim a t) h z = refl
ask_written (unknown c a) h z = unknown_written c a

pub bytes_written : (bs : List ℕ) → Bytes bs → fits_of bs ≡ true → request_bytes (ask_from bs) ≡ bs
bytes_written bs b fit = ap request_bytes (sym (ask_fit bs fit)) ∙ fields_back bs b fit

pub code_read : (bs : List ℕ) → code_of (ask_from bs) ≡ code_in bs
unfolding ask_from
code_read bs = by_cond (λ q. code_of q ≡ code_in bs) (fits_of bs) _ _
    (λ _. by_code (λ q. code_of q ≡ code_in bs) bs (record {
      one = sym;
      two = sym;
      three = sym;
      four = sym;
      five = sym;
      six = sym;
      seven = sym;
      eight = sym;
      nine = sym;
      none = λ _. refl;
    }))
    (λ _. refl)

pub code_first : (q : Ask) → byte_at (request_bytes q) 0 ≡ code_of q
unfolding request_bytes
code_first q = refl

pub ask_in_bits : (bs : List ℕ) → Bytes bs → InBits (ask_from bs)
unfolding ask_from
ask_in_bits bs b = by_cond InBits (fits_of bs) _ _ (λ _. fields_in_bits bs b) (λ _. (b 0, actor_in_bits bs b))

pub length_request : (q : Ask) → length (pairs_in q) ≤ 4 → length (request_bytes q) ≤ 22
unfolding request_bytes field_bytes bytes_of
length_request (read a t) h = omega arith
length_request (write a t w) h = omega arith
length_request (fetch a t i j) h = omega arith
length_request (store a t i j) h = omega arith
length_request (revoke a t j) h = omega arith
length_request (send a t w l y) h = omega (arith, length-append (pair_bytes l) (y ∷ []), length_pairs l)
length_request (allocate a n k p i l) h = omega (arith, length_pairs l)
length_request (destroy a t) h = omega arith
length_request (reclaim a t) h = omega arith
length_request (unknown c a) h = omega arith

pub held_first : (bs : List ℕ) → length bs ≤ 22 → take (held_bytes bs).count (held_bytes bs).bytes ≡ bs
unfolding held_bytes
held_first bs h = zeros_front bs _ (length bs) refl h refl

pub held_read : (q : Ask) → length (pairs_in q) ≤ 4 → InBits q → ask_from (take (written_of q).count (written_of q).bytes) ≡ q
held_read q h z =
    ap (λ (w : Written). ask_from (take w.count w.bytes)) (sym (written_short q h))
    ∙ ap ask_from (held_first (request_bytes q) (length_request q h)) ∙ ask_written q h z
