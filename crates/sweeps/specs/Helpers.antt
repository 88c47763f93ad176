-- What helpers promise that go through a set number by number. They add nothing to what is reached.
use Rattle.std.specs.Prelude.{◌≡◌, Bool, true, false, ◌&&◌, List, ℕ, ◌<◌, length, get_or, MatchOption}
use Rattle.std.specs.declared.option.Option.{Option}
use Rattle.mask.specs.Sets.{has, bits, any_below, including, excluding}

-- a number of the set below which there is none
pub record Lowest (set n : ℕ) : Type 0 where
  pub low : n < 64
  pub there : has n set ≡ true
  pub first : (k : ℕ) → k < n → has k set ≡ false

-- of a set the lowest number is taken, and the others are left; of the empty set none
abbrev pub TakesLowest : ℕ → Option ℕ → ℕ → Type 0
TakesLowest set taken left = MatchOption taken ((set ≡ 0) × (left ≡ set)) (λ n. Lowest set n × (left ≡ excluding n set))

-- what is one edge from a number of a set
unfoldable pub near_of : (ℕ → ℕ → Bool) → ℕ → ℕ
near_of edge s = bits 64 (λ y. any_below 64 (λ x. has x s && edge x y))

-- the word is at each number of the set, and the others are as they were
pub record PutEach (set word : ℕ) (before after : List ℕ) : Type 0 where
  pub long : length after ≡ length before
  pub new : (u : ℕ) → u < 64 → has u set ≡ true → get_or after u 0 ≡ word
  pub old : (u : ℕ) → u < 64 → has u set ≡ false → get_or after u 0 ≡ get_or before u 0

-- x is in the word of each number of the set, and the others are as they were
pub record NotedEach (set x : ℕ) (before after : List ℕ) : Type 0 where
  pub long : length after ≡ length before
  pub new : (u : ℕ) → u < 64 → has u set ≡ true → get_or after u 0 ≡ including x (get_or before u 0)
  pub old : (u : ℕ) → u < 64 → has u set ≡ false → get_or after u 0 ≡ get_or before u 0
