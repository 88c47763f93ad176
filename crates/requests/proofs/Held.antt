-- The code's two values for a request are that request, where its list has at most 4 pairs: `held_ask`. By the request. Assumes nothing.
use mathlib.Core.Path.{◌≡◌, refl, ap}
use mathlib.Core.List.{List}
use Prim.Native.Nat.{◌≤◌}
use lib.ListN.{length}
use Rattle.table.proofs.Lists.{padded_all}
use Rattle.requests.specs.declared.Pair.{Pair}
use Rattle.requests.specs.Asks.{Ask, read, write, fetch, store, revoke, send, allocate, destroy, reclaim, unknown, pairs_in, no_pair, pairs_of, ask_of, request_of, held_pairs}

pub held_pairs_lem : (l : List Pair) → length l ≤ 4 → pairs_of (held_pairs l) ≡ l
unfolding pairs_of held_pairs
held_pairs_lem l h = padded_all 4 no_pair l h

pub held_ask : (q : Ask) → length (pairs_in q) ≤ 4 → ask_of (request_of q) (held_pairs (pairs_in q)) ≡ q
unfolding ask_of
held_ask (read a t) h = refl
held_ask (write a t w) h = refl
held_ask (fetch a t i j) h = refl
held_ask (store a t i j) h = refl
held_ask (revoke a t j) h = refl
held_ask (send a t w l y) h = ap (λ (x : List Pair). send a t w x y) (held_pairs_lem l h)
held_ask (allocate a n k p i l) h = ap (allocate a n k p i) (held_pairs_lem l h)
held_ask (destroy a t) h = refl
held_ask (reclaim a t) h = refl
held_ask (unknown c a) h = refl
