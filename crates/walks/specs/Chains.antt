-- Chains over an edge relation on the numbers 0 to 63, for document 02, 2.1: what a chain is, which of two comes first, and the least one,
-- as it is computed. Exactness.antt of `chains` states that over the links of a test it is the one that 2.1 asks for.
use Rattle.std.specs.Prelude.{◌≡◌, Bool, true, false, ◌&&◌, List, [], ◌∷◌, ℕ, zero, suc, ◌<◌, length}
use Rattle.mask.specs.Sets.{has, any_below}
use Rattle.table.specs.Lists.{padded}
use Rattle.relation.specs.Closure.{grow, only}
use Rattle.bounds.specs.StandIn.{lowest_from}
use Rattle.walks.specs.declared.Walked.{Walked}

-- a chain from x to z: "the chain's object numbers in turn", the first one link from x, each next one link from the one before, the last
-- is z; x itself is left out
pub data Chain (edge : ℕ → ℕ → Bool) (z : ℕ) : ℕ → List ℕ → Type 0 where
  last : {x : ℕ} → edge x z ≡ true → Chain edge z x (z ∷ [])
  more : {x y : ℕ} {cs : List ℕ} → edge x y ≡ true → Chain edge z y cs → Chain edge z x (y ∷ cs)

-- "Among equal lengths, the chain whose numbers come first, compared from the stand-in's end": the first list comes first or is the same
pub data First : List ℕ → List ℕ → Type 0 where
  none : First [] []
  lower : {a b : ℕ} {cs ds : List ℕ} → a < b → First (a ∷ cs) (b ∷ ds)
  next : {a : ℕ} {cs ds : List ℕ} → First cs ds → First (a ∷ cs) (a ∷ ds)

-- how it is found ------------------------------------------------------------
-- what is within 0, 1, 2 .. links of the end, the latest first: as far as x is one link from the latest, or so many times
unfoldable pub layers_to : ℕ → (ℕ → ℕ → Bool) → ℕ → ℕ → List ℕ → List ℕ
layers_to zero edge x s below = s ∷ below
layers_to (suc n) edge x s below =
    elim (any_below 64 (λ y. has y s && edge x y)) [
      | true ↦ s ∷ below
      | false ↦ layers_to n edge x (grow (λ a b. edge b a) s) (s ∷ below)
    ]

-- the lowest number of the layer that is one link from x
unfoldable pub next_of : (ℕ → ℕ → Bool) → ℕ → ℕ → ℕ
next_of edge x s = lowest_from 64 0 (λ y. has y s && edge x y)

-- from x through the layers: of each the lowest number one link on
unfoldable pub walk_down : (ℕ → ℕ → Bool) → ℕ → List ℕ → List ℕ
walk_down edge x [] = []
walk_down edge x (s ∷ below) = next_of edge x s ∷ walk_down edge (next_of edge x s) below

-- the chain that is given: at most 63 layers, so at most 63 numbers
unfoldable pub least_chain : (ℕ → ℕ → Bool) → ℕ → ℕ → List ℕ
least_chain edge x z = walk_down edge x (layers_to 62 edge x (only z) [])

-- the numbers of a chain in an array of 63, zero past the count
abbrev pub walked : List ℕ → Walked
walked cs = record { numbers = padded 63 0 cs; count = length cs }
