-- What 64 words by value are known to be: the words of their edges, since there are 64 and each fits its bits. A contract's words are
-- a list, which says neither; whoever owns the value has both. Assumes nothing.
use mathlib.Core.Path.{◌≡◌, refl}
use mathlib.Core.List.{List, [], ◌∷◌}
use Prim.Native.Nat.{ℕ, zero, suc, ◌^◌, ◌<◌}
use native.Mathlib.Omega.{arith}
use lib.ListN.{get_or}
use mir.Val.{Val}
use denote.Array.{Array, each}
use denote.Builtin.{u64}
use denote.Laws.{Is}
use denote.Shadow.{shadow}
use Rattle.links.specs.Links.{words_of, word_edge}
use Rattle.links.proofs.Edges.{as_words}

each_low : (words : List ℕ) (vs : List Val) → shadow (each ℕ u64.own_val words vs) → (u : ℕ) → get_or words u 0 < 2 ^ 64
each_low [] vs is u = omega arith
each_low (w ∷ words) [] is u = absurd is
each_low (w ∷ words) (v ∷ vs) is zero = is.0.1
each_low (w ∷ words) (v ∷ vs) is (suc u) = each_low words vs is.1 u

pub value_words : (words : List ℕ) (vs : List Val) → Is (Array u64 64) words vs → words ≡ words_of (word_edge words)
value_words words vs is = as_words (word_edge words) words is.1.0.1 (each_low words is.0 is.1.1) (λ u v hu hv. refl)
