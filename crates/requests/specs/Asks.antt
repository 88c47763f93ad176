-- Document 01, "The eight requests", and "A ninth request, reclaim (actor, t)" of document 02, 2.8: a request as it is written there, with
-- its fields in the order shown and a true list of pairs. Sameness of requests, field for field, is equality of these.
use Rattle.std.specs.Prelude.{List, [], ◌∷◌, ℕ, ◌^◌, ◌<◌, length, get_or}
use Rattle.table.specs.Lists.{tabulate, padded}
use Rattle.requests.specs.declared.Pair.{Pair}
use Rattle.requests.specs.declared.PairList.{PairList}
use Rattle.requests.specs.declared.Request.{Request}
use Rattle.requests.specs.declared.Request.TheVariants.{Read, Write, Fetch, Store, Revoke, Send, Allocate, Destroy, Reclaim, Unknown}

-- codes 1 to 9 in turn; `unknown` is a code with no such request, and who asked. The code's values keep every number within its
-- bits; the definitions take any number
pub data Ask : Type 0 where
  read : (actor t : ℕ) → Ask
  write : (actor t word : ℕ) → Ask
  fetch : (actor t i j : ℕ) → Ask
  store : (actor t i j : ℕ) → Ask
  revoke : (actor t j : ℕ) → Ask
  send : (actor t word : ℕ) (list : List Pair) (reply : ℕ) → Ask
  allocate : (actor n kind part i : ℕ) (list : List Pair) → Ask
  destroy : (actor t : ℕ) → Ask
  reclaim : (actor t : ℕ) → Ask
  unknown : (code actor : ℕ) → Ask

-- the column "Code"
abbrev pub code_of : Ask → ℕ
code_of (read a t) = 1
code_of (write a t w) = 2
code_of (fetch a t i j) = 3
code_of (store a t i j) = 4
code_of (revoke a t j) = 5
code_of (send a t w l y) = 6
code_of (allocate a n k p i l) = 7
code_of (destroy a t) = 8
code_of (reclaim a t) = 9
code_of (unknown c a) = c

abbrev pub actor_of : Ask → ℕ
actor_of (read a t) = a
actor_of (write a t w) = a
actor_of (fetch a t i j) = a
actor_of (store a t i j) = a
actor_of (revoke a t j) = a
actor_of (send a t w l y) = a
actor_of (allocate a n k p i l) = a
actor_of (destroy a t) = a
actor_of (reclaim a t) = a
actor_of (unknown c a) = a

-- every field within its bits, as the code's values have it: a byte each, the word 32 bits, the part 64
abbrev pub PairsInBits : List Pair → Type 0
PairsInBits [] = Unit {0}
PairsInBits (p ∷ ps) = (p.from < 2 ^ 8) × (p.to < 2 ^ 8) × PairsInBits ps

abbrev pub InBits : Ask → Type 0
InBits (read a t) = (a < 2 ^ 8) × (t < 2 ^ 8)
InBits (write a t w) = (a < 2 ^ 8) × (t < 2 ^ 8) × (w < 2 ^ 32)
InBits (fetch a t i j) = (a < 2 ^ 8) × (t < 2 ^ 8) × (i < 2 ^ 8) × (j < 2 ^ 8)
InBits (store a t i j) = (a < 2 ^ 8) × (t < 2 ^ 8) × (i < 2 ^ 8) × (j < 2 ^ 8)
InBits (revoke a t j) = (a < 2 ^ 8) × (t < 2 ^ 8) × (j < 2 ^ 8)
InBits (send a t w l y) = (a < 2 ^ 8) × (t < 2 ^ 8) × (w < 2 ^ 32) × PairsInBits l × (y < 2 ^ 8)
InBits (allocate a n k p i l) = (a < 2 ^ 8) × (n < 2 ^ 8) × (k < 2 ^ 8) × (p < 2 ^ 64) × (i < 2 ^ 8) × PairsInBits l
InBits (destroy a t) = (a < 2 ^ 8) × (t < 2 ^ 8)
InBits (reclaim a t) = (a < 2 ^ 8) × (t < 2 ^ 8)
InBits (unknown c a) = (c < 2 ^ 8) × (a < 2 ^ 8)

-- the list of a send or an allocate; the others have none
abbrev pub pairs_in : Ask → List Pair
pairs_in (read a t) = []
pairs_in (write a t w) = []
pairs_in (fetch a t i j) = []
pairs_in (store a t i j) = []
pairs_in (revoke a t j) = []
pairs_in (send a t w l y) = l
pairs_in (allocate a n k p i l) = l
pairs_in (destroy a t) = []
pairs_in (reclaim a t) = []
pairs_in (unknown c a) = []

abbrev pub no_pair : Pair
no_pair = record { from = 0; to = 0 }

-- the pair at a place of a list, as the code holds it
abbrev pub pair_at : PairList → ℕ → Pair
pair_at l k = get_or l.pairs k no_pair

-- as many pairs as the count says: a count above 4 is a list too long, and what stands at or after the count is left out
unfoldable pub pairs_of : PairList → List Pair
pairs_of l = tabulate l.count (pair_at l)

-- the request that the code's two values are
unfoldable pub ask_of : Request → PairList → Ask
ask_of (Read a t) l = read a t
ask_of (Write a t w) l = write a t w
ask_of (Fetch a t i j) l = fetch a t i j
ask_of (Store a t i j) l = store a t i j
ask_of (Revoke a t j) l = revoke a t j
ask_of (Send a t w y) l = send a t w (pairs_of l) y
ask_of (Allocate a n k p i) l = allocate a n k p i (pairs_of l)
ask_of (Destroy a t) l = destroy a t
ask_of (Reclaim a t) l = reclaim a t
ask_of (Unknown c a) l = unknown c a

-- the code's two values for a request with at most 4 pairs: after the pairs of a list stand (0, 0), and an empty list stands beside a
-- request that has none
abbrev pub request_of : Ask → Request
request_of (read a t) = Read a t
request_of (write a t w) = Write a t w
request_of (fetch a t i j) = Fetch a t i j
request_of (store a t i j) = Store a t i j
request_of (revoke a t j) = Revoke a t j
request_of (send a t w l y) = Send a t w y
request_of (allocate a n k p i l) = Allocate a n k p i
request_of (destroy a t) = Destroy a t
request_of (reclaim a t) = Reclaim a t
request_of (unknown c a) = Unknown c a

unfoldable pub held_pairs : List Pair → PairList
held_pairs list = record { count = length list; pairs = padded 4 no_pair list }
