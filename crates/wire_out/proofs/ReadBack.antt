-- Reading what was written, where it does not just compute. A code with no request takes two bytes, as no request does; a request with a
-- list is as long as its code and its count say, and its pairs are read back by `pairs_read`. Assumes nothing.
use mathlib.Core.Path.{◌≡◌, refl, sym, ◌∙◌, ap}
use mathlib.Core.Logic.{◌≢◌}
use mathlib.Core.Bool.{true, ◌||◌}
use mathlib.Core.List.{List, [], ◌∷◌, ◌++◌, append-nil}
use Prim.Native.Nat.{ℕ, ◌+◌, ◌*◌, ◌^◌, ◌≤◌, ◌<◌}
use native.Mathlib.Omega.{arith}
use lib.Dec.{eqb}
use lib.ListN.{length, length-append}
use lib.Seq.{get_or_at}
use borrow.Author.Tests.{lt-ltb, eq-eqb, ne_eqb, le-leb}
use Rattle.mask.proofs.Tests.{and_false, and_intro}
use Rattle.octets.specs.BigEndian.{byte_at, bytes_of}
use Rattle.octets.proofs.BigEndian.{number_written}
use Rattle.requests.specs.declared.Pair.{Pair}
use Rattle.requests.specs.Asks.{send, allocate, unknown}
use Rattle.wire.specs.Wires.{code_in, count_in, size_of, list_fits, fits_of, list_in, ask_from}
use Rattle.wire_out.specs.Written.{pair_bytes, list_bytes, field_bytes, request_bytes}
use Rattle.wire.proofs.Fields.{send_fields, allocate_fields, ask_fit, ask_unfit}
use Rattle.wire_out.proofs.Pairs.{length_pairs, pairs_read}
use Rattle.wire_out.proofs.Cases.{by_cond}

fits_intro : (bs : List ℕ) → 0 < length bs → list_fits bs ≡ true → length bs ≡ size_of (code_in bs) (count_in bs) → fits_of bs ≡ true
unfolding fits_of
fits_intro bs h e f = and_intro _ _ (lt-ltb 0 (length bs) h) (and_intro _ _ e (eq-eqb (length bs) (size_of (code_in bs) (count_in bs)) f))

-- no request takes two bytes
size_two : (code count : ℕ) → 2 ≢ size_of code count
unfolding size_of
size_two code count =
    let not : ℕ → Type 0 = λ n. 2 ≢ n in
    by_cond not (eqb code 1 || eqb code 8 || eqb code 9) 3 _ (λ _ e. omega arith)
    (λ _. by_cond not (eqb code 2) 7 _ (λ _ e. omega arith)
    (λ _. by_cond not (eqb code 3 || eqb code 4) 5 _ (λ _ e. omega arith)
    (λ _. by_cond not (eqb code 5) 4 _ (λ _ e. omega arith)
    (λ _. by_cond not (eqb code 6) (9 + 2 * count) _ (λ _ e. omega arith)
    (λ _. by_cond not (eqb code 7) (14 + 2 * count) 0 (λ _ e. omega arith) (λ _ e. omega arith))))))

pub unknown_written : (c a : ℕ) → ask_from (request_bytes (unknown c a)) ≡ unknown c a
unfolding request_bytes field_bytes fits_of
unknown_written c a =
    let bs = c ∷ a ∷ [] in
    sym (ask_unfit bs (rw (ne_eqb 2 (size_of c (count_in bs)) (size_two c (count_in bs))) (and_false (list_fits bs))))

-- the bytes of a request with a list fit, and the list is read back
module _ (a t w : ℕ) (l : List Pair) (y : ℕ) (few : length l ≤ 4) where
  abbrev sent : List ℕ
  sent = request_bytes (send a t w l y)

  sent_fits : fits_of sent ≡ true
  unfolding request_bytes field_bytes bytes_of list_fits size_of
  sent_fits =
      fits_intro sent (omega arith) (le-leb (length l) 4 few) (omega (arith, length-append (pair_bytes l) (y ∷ []), length_pairs l))

  sent_reply : y ≡ byte_at sent (8 + 2 * length l)
  unfolding request_bytes field_bytes bytes_of
  sent_reply = sym (get_or_at (6 ∷ a ∷ t ∷ (bytes_of 4 w ++ list_bytes l)) y [] 0 (8 + 2 * length l) (omega (arith, length_pairs l)))

  pub send_written : w < 2 ^ 32 → ask_from sent ≡ send a t w l y
  unfolding request_bytes field_bytes bytes_of list_in
  send_written h =
      sym (ask_fit sent sent_fits) ∙ sym (send_fields sent a t refl refl refl w (sym (number_written 4 w h)) y sent_reply)
      ∙ ap (λ (x : List Pair). send a t w x y) (pairs_read sent 7 l (y ∷ []) refl)

module _ (a n k p i : ℕ) (l : List Pair) (few : length l ≤ 4) where
  abbrev allotted : List ℕ
  allotted = request_bytes (allocate a n k p i l)

  allotted_fits : fits_of allotted ≡ true
  unfolding request_bytes field_bytes bytes_of list_fits size_of
  allotted_fits = fits_intro allotted (omega arith) (le-leb (length l) 4 few) (omega (arith, length_pairs l))

  pub allocate_written : p < 2 ^ 64 → ask_from allotted ≡ allocate a n k p i l
  unfolding request_bytes field_bytes bytes_of list_in
  allocate_written h =
      sym (ask_fit allotted allotted_fits) ∙ sym (allocate_fields allotted a n refl refl refl k p i refl (sym (number_written 8 p h)) refl)
      ∙ ap (allocate a n k p i) (pairs_read allotted 13 l [] (sym (append-nil (pair_bytes l))))
