-- The bytes of a request: its code, its actor, and then "fields in the order shown" of document 01. proofs/RoundTrip.antt has the round
-- trip with Wires.antt, both ways.
use Rattle.std.specs.Prelude.{true, false, List, [], ◌∷◌, ◌++◌, ℕ, ltb, length}
use Rattle.table.specs.Lists.{padded}
use Rattle.requests.specs.declared.Pair.{Pair}
use Rattle.octets.specs.BigEndian.{bytes_of}
use Rattle.requests.specs.Asks.{Ask, read, write, fetch, store, revoke, send, allocate, destroy, reclaim, unknown, code_of, actor_of, pairs_in}
use Rattle.wire_out.specs.declared.Written.{Written}

-- "A pair is (actor's slot, destination slot)"
unfoldable pub pair_bytes : List Pair → List ℕ
pair_bytes [] = []
pair_bytes (p ∷ ps) = p.from ∷ p.to ∷ pair_bytes ps

-- a list is its count and then the pairs
abbrev pub list_bytes : List Pair → List ℕ
list_bytes list = length list ∷ pair_bytes list

-- the fields after the actor
unfoldable pub field_bytes : Ask → List ℕ
field_bytes (read a t) = t ∷ []
field_bytes (write a t w) = t ∷ bytes_of 4 w
field_bytes (fetch a t i j) = t ∷ i ∷ j ∷ []
field_bytes (store a t i j) = t ∷ i ∷ j ∷ []
field_bytes (revoke a t j) = t ∷ j ∷ []
field_bytes (send a t w l y) = t ∷ (bytes_of 4 w ++ (list_bytes l ++ (y ∷ [])))
field_bytes (allocate a n k p i l) = n ∷ k ∷ (bytes_of 8 p ++ (i ∷ list_bytes l))
field_bytes (destroy a t) = t ∷ []
field_bytes (reclaim a t) = t ∷ []
field_bytes (unknown c a) = []

unfoldable pub request_bytes : Ask → List ℕ
request_bytes q = code_of q ∷ actor_of q ∷ field_bytes q

-- as many bytes as the code holds: zeros after those of the request. A list longer than 4 cannot be written, and gives none
unfoldable pub held_bytes : List ℕ → Written
held_bytes bs = record { bytes = padded 22 0 bs; count = length bs }

unfoldable pub written_of : Ask → Written
written_of q = elim (ltb 4 (length (pairs_in q))) [ true ↦ held_bytes [] | false ↦ held_bytes (request_bytes q) ]
