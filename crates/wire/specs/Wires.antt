-- A request as bytes: its code, then "fields in the order shown" of document 01, a byte each; the word is 4 bytes and the part 8,
-- big-endian; a list is its count and then the pairs, two bytes each.
use Rattle.std.specs.Prelude.{Bool, true, cond, ◌&&◌, ◌||◌, List, ℕ, ◌+◌, ◌*◌, ltb, leb, eqb, length, get_or, take, drop}
use Rattle.table.specs.Lists.{tabulate}
use Rattle.octets.specs.BigEndian.{byte_at, number_of}
use Rattle.requests.specs.declared.Pair.{Pair}
use Rattle.requests.specs.Asks.{Ask, read, write, fetch, store, revoke, send, allocate, destroy, reclaim, unknown, pairs_in, request_of, held_pairs}
use Rattle.wire.specs.declared.Asked.{Asked}

abbrev pub code_in : List ℕ → ℕ
code_in bs = byte_at bs 0

-- the number of nobody: no object has it
abbrev pub nobody : ℕ
nobody = 64

-- who asks: the byte after the code. Bytes that are too short to have one are nobody's
abbrev pub actor_in : List ℕ → ℕ
actor_in bs = get_or bs 1 nobody

-- where the list of a send or an allocate begins, with its count
abbrev pub list_place : ℕ → ℕ
list_place code = cond (eqb code 6) 7 13

abbrev pub count_in : List ℕ → ℕ
count_in bs = byte_at bs (list_place (code_in bs))

-- the bytes that a request takes, with a list of `count` pairs if it has one; none for a code that is not 1 to 9
unfoldable pub size_of : ℕ → ℕ → ℕ
size_of code count =
    cond (eqb code 1 || eqb code 8 || eqb code 9) 3
    (cond (eqb code 2) 7
    (cond (eqb code 3 || eqb code 4) 5
    (cond (eqb code 5) 4
    (cond (eqb code 6) (9 + 2 * count)
    (cond (eqb code 7) (14 + 2 * count) 0)))))

-- has the list at most 4 pairs, if there is one?
unfoldable pub list_fits : List ℕ → Bool
list_fits bs = cond (eqb (code_in bs) 6 || eqb (code_in bs) 7) (leb (count_in bs) 4) true

-- are these the bytes of a request, no fewer and no more? No bytes at all have no code, and are none
unfoldable pub fits_of : List ℕ → Bool
fits_of bs = ltb 0 (length bs) && (list_fits bs && eqb (length bs) (size_of (code_in bs) (count_in bs)))

-- the pair at a place of the list, and the list
abbrev pub pair_in : List ℕ → ℕ → Pair
pair_in bs k = record { from = byte_at bs (list_place (code_in bs) + 1 + 2 * k); to = byte_at bs (list_place (code_in bs) + 2 + 2 * k) }

unfoldable pub list_in : List ℕ → List Pair
list_in bs = tabulate (count_in bs) (pair_in bs)

abbrev pub word_in : List ℕ → ℕ
word_in bs = number_of (take 4 (drop 3 bs))

abbrev pub part_in : List ℕ → ℕ
part_in bs = number_of (take 8 (drop 4 bs))

-- the request of bytes that fit
unfoldable pub fields_of : List ℕ → Ask
fields_of bs =
    cond (eqb (code_in bs) 1) (read (actor_in bs) (byte_at bs 2))
    (cond (eqb (code_in bs) 2) (write (actor_in bs) (byte_at bs 2) (word_in bs))
    (cond (eqb (code_in bs) 3) (fetch (actor_in bs) (byte_at bs 2) (byte_at bs 3) (byte_at bs 4))
    (cond (eqb (code_in bs) 4) (store (actor_in bs) (byte_at bs 2) (byte_at bs 3) (byte_at bs 4))
    (cond (eqb (code_in bs) 5) (revoke (actor_in bs) (byte_at bs 2) (byte_at bs 3))
    (cond (eqb (code_in bs) 6) (send (actor_in bs) (byte_at bs 2) (word_in bs) (list_in bs) (byte_at bs (8 + 2 * count_in bs)))
    (cond (eqb (code_in bs) 7) (allocate (actor_in bs) (byte_at bs 2) (byte_at bs 3) (part_in bs) (byte_at bs 12) (list_in bs))
    (cond (eqb (code_in bs) 8) (destroy (actor_in bs) (byte_at bs 2))
    (cond (eqb (code_in bs) 9) (reclaim (actor_in bs) (byte_at bs 2)) (unknown (code_in bs) (actor_in bs))))))))))

-- the request that any bytes are: those that are no request are one without fields, which is refused by 2
unfoldable pub ask_from : List ℕ → Ask
ask_from bs = cond (fits_of bs) (fields_of bs) (unknown (code_in bs) (actor_in bs))

-- the code's two values for a request
abbrev pub asked_of : Ask → Asked
asked_of q = record { request = request_of q; list = held_pairs (pairs_in q) }
