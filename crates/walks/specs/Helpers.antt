-- What helpers promise: sets of an array as a list, numbers that are in range. They add nothing to what the least chain is.
use Rattle.std.specs.Prelude.{Bool, true, ◌&&◌, List, [], ◌∷◌, ℕ, zero, suc, ltb, get_or}

-- the first n sets, the latest first
unfoldable pub latest_first : List ℕ → ℕ → List ℕ
latest_first sets zero = []
latest_first sets (suc n) = get_or sets n 0 ∷ latest_first sets n

-- each number is an object's
unfoldable pub in_range : List ℕ → Bool
in_range [] = true
in_range (c ∷ cs) = ltb c 64 && in_range cs
