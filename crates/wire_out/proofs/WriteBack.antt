-- Writing what was read: bytes that are a request are its code, its actor and its fields, each from where the one before it ends. By the
-- code. Assumes nothing.
use mathlib.Core.Path.{◌≡◌, refl, sym, ◌∙◌, ap, ap₂}
use mathlib.Core.Bool.{true}
use mathlib.Core.List.{List, [], ◌∷◌, ◌++◌, append-nil}
use Prim.Native.Nat.{ℕ, suc, ◌+◌, ◌*◌, ◌≤◌, ◌<◌}
use native.Mathlib.Numerals.{add-one}
use native.Mathlib.Omega.{arith}
use lib.Dec.{ltb}
use lib.ListN.{length, take, drop, length-drop, take-append-drop, drop_of_length-le}
use lib.Seq.{drop-drop, drop-cons, get_or-drop, get_or-take, length-take-le}
use borrow.Author.Tests.{ltb-true}
use Rattle.mask.proofs.Tests.{and_true}
use Rattle.table.specs.Lists.{tabulate}
use Rattle.octets.specs.BigEndian.{Bytes, byte_at, bytes_of, number_of}
use Rattle.octets.proofs.Lists.{tabulate_is}
use Rattle.octets.proofs.BigEndian.{bytes_read}
use Rattle.octets.proofs.Parts.{beside, bytes_drop, bytes_take}
use Rattle.requests.specs.Asks.{Ask, write, send, allocate, code_of, actor_of}
use Rattle.wire.specs.Wires.{code_in, actor_in, list_place, count_in, size_of, fits_of, list_in, word_in, part_in, fields_of}
use Rattle.wire_out.specs.Written.{pair_bytes, list_bytes, field_bytes, request_bytes}
use Rattle.wire.proofs.Sizes.{fits_size}
use Rattle.wire.proofs.Fields.{length_list, actor_there}
use Rattle.wire_out.proofs.Pairs.{pair_from, pairs_back}
use Rattle.wire_out.proofs.Cases.{by_code}

-- what stands from a place on begins with its first bytes, with the number that they are, or with a list
module _ (bs : List ℕ) (m n : ℕ) (h : m + n ≤ length bs) where
  parted : take n (drop m bs) ++ drop (m + n) bs ≡ drop m bs
  parted = ap (λ (l : List ℕ). take n (drop m bs) ++ l) (sym (drop-drop n m bs)) ∙ take-append-drop n (drop m bs)

  length_first : length (take n (drop m bs)) ≡ n
  length_first = length-take-le n (drop m bs) (omega (arith, length-drop m bs))

  bytes_first : tabulate n (λ k. byte_at bs (m + k)) ++ drop (m + n) bs ≡ drop m bs
  bytes_first =
      beside (tabulate_is n (λ k. byte_at bs (m + k)) 0 (take n (drop m bs)) length_first
      (λ k g. sym (get_or-take n (drop m bs) k 0 g ∙ get_or-drop m bs k 0))) refl
      ∙ parted

  number_first : Bytes bs → bytes_of n (number_of (take n (drop m bs))) ++ drop (m + n) bs ≡ drop m bs
  number_first b = beside (bytes_read (take n (drop m bs)) n length_first (bytes_take n (drop m bs) (bytes_drop m bs b))) refl ∙ parted

module _ (bs : List ℕ) where
  list_first : (place : ℕ) → list_place (code_in bs) ≡ place → place + 1 + 2 * count_in bs ≤ length bs
      → list_bytes (list_in bs) ++ drop (place + 1 + 2 * count_in bs) bs ≡ drop place bs
  unfolding list_in
  list_first place e h =
      ap₂ {C = List ℕ} (λ (x : ℕ) (l : List ℕ). x ∷ (l ++ drop (place + 1 + 2 * count_in bs) bs)) (length_list bs ∙ ap (byte_at bs) e)
      (ap (λ (p : ℕ). pair_bytes (tabulate (count_in bs) (pair_from bs p))) e ∙ pairs_back bs place (count_in bs) h)
      ∙ ap (λ (l : List ℕ). byte_at bs place ∷ l) (parted bs (place + 1) (2 * count_in bs) h ∙ (rw add-one refl))
      ∙ sym (drop-cons bs place 0 (omega arith))

  -- and what follows it: another part, or nothing
  followed : (xs : List ℕ) {us ys zs : List ℕ} → xs ++ ys ≡ zs → us ≡ ys → xs ++ us ≡ zs
  followed xs e f = ap (λ (l : List ℕ). xs ++ l) f ∙ e

  last : (xs zs : List ℕ) (k : ℕ) → length bs ≤ k → xs ++ drop k bs ≡ zs → xs ≡ zs
  last xs zs k h e = sym (append-nil xs) ∙ followed xs e (sym (drop_of_length-le bs h))

  -- the code, the actor and the fields; fields of a byte each
  wrote : (q : Ask) → 2 ≤ length bs → code_of q ≡ code_in bs → actor_of q ≡ actor_in bs → field_bytes q ≡ drop 2 bs → request_bytes q ≡ bs
  unfolding request_bytes tabulate
  wrote q h e f g =
      ap₂ {C = List ℕ} (λ (c a : ℕ). c ∷ a ∷ field_bytes q) e (f ∙ sym (actor_there bs h))
      ∙ followed (code_in bs ∷ byte_at bs 1 ∷ []) (bytes_first bs 0 2 h) g

  wrote_plain : (q : Ask) (n : ℕ) → length bs ≡ 2 + n → code_of q ≡ code_in bs → actor_of q ≡ actor_in bs
      → field_bytes q ≡ tabulate n (λ k. byte_at bs (2 + k)) → request_bytes q ≡ bs
  wrote_plain q n l e f g = wrote q (omega arith) e f (g ∙ last _ _ (2 + n) (omega arith) (bytes_first bs 2 n (omega arith)))

module _ (bs : List ℕ) (b : Bytes bs) (fit : fits_of bs ≡ true) where
  -- bytes that fit are not none, and are as many as their code says
  some : 0 < length bs
  unfolding fits_of
  some = ltb-true 0 (length bs) (and_true (ltb 0 (length bs)) _ fit).0

  size : (k : ℕ) → code_in bs ≡ k → length bs ≡ size_of k (count_in bs)
  size = fits_size bs fit

  write_back : code_in bs ≡ 2 → request_bytes (write (actor_in bs) (byte_at bs 2) (word_in bs)) ≡ bs
  unfolding size_of field_bytes tabulate
  write_back e =
      let l : length bs ≡ 7 = size 2 e in
      wrote bs _ (omega arith) (sym e) refl
      (followed bs (byte_at bs 2 ∷ []) (bytes_first bs 2 1 (omega arith)) (last bs _ _ 7 (omega arith) (number_first bs 3 4 (omega arith) b)))

  send_back : code_in bs ≡ 6 → request_bytes (send (actor_in bs) (byte_at bs 2) (word_in bs) (list_in bs) (byte_at bs (8 + 2 * count_in bs))) ≡ bs
  unfolding size_of field_bytes tabulate
  send_back e =
      let l : length bs ≡ 9 + 2 * count_in bs = size 6 e in
      let place = 8 + 2 * count_in bs in
      wrote bs _ (omega arith) (sym e) refl
      (followed bs (byte_at bs 2 ∷ []) (bytes_first bs 2 1 (omega arith))
      (followed bs (bytes_of 4 (word_in bs)) (number_first bs 3 4 (omega arith) b)
      (followed bs (list_bytes (list_in bs)) (list_first bs 7 (ap list_place e) (omega arith))
      (last bs (byte_at bs place ∷ []) _ (suc place) (omega arith) (sym (drop-cons bs place 0 (omega arith)))))))

  allocate_back : code_in bs ≡ 7 → request_bytes (allocate (actor_in bs) (byte_at bs 2) (byte_at bs 3) (part_in bs) (byte_at bs 12) (list_in bs)) ≡ bs
  unfolding size_of field_bytes tabulate
  allocate_back e =
      let l : length bs ≡ 14 + 2 * count_in bs = size 7 e in
      wrote bs _ (omega arith) (sym e) refl
      (followed bs (byte_at bs 2 ∷ byte_at bs 3 ∷ []) (bytes_first bs 2 2 (omega arith))
      (followed bs (bytes_of 8 (part_in bs)) (number_first bs 4 8 (omega arith) b)
      (followed bs (byte_at bs 12 ∷ []) (bytes_first bs 12 1 (omega arith))
      (last bs _ _ (14 + 2 * count_in bs) (omega arith) (list_first bs 13 (ap list_place e) (omega arith))))))

  pub fields_back : request_bytes (fields_of bs) ≡ bs
  unfolding size_of field_bytes tabulate
  fields_back = by_code (λ q. request_bytes q ≡ bs) bs (record {
    one = λ e. wrote_plain bs _ 1 (size 1 e) (sym e) refl refl;
    two = write_back;
    three = λ e. wrote_plain bs _ 3 (size 3 e) (sym e) refl refl;
    four = λ e. wrote_plain bs _ 3 (size 4 e) (sym e) refl refl;
    five = λ e. wrote_plain bs _ 2 (size 5 e) (sym e) refl refl;
    six = send_back;
    seven = allocate_back;
    eight = λ e. wrote_plain bs _ 1 (size 8 e) (sym e) refl refl;
    nine = λ e. wrote_plain bs _ 1 (size 9 e) (sym e) refl refl;
    none = λ z. absurd (omega (arith, some, z (count_in bs), size (code_in bs) refl));
  })
