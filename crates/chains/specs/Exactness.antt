-- What document 02, 2.1 claims of the chain, and 2.6 of chains, as statements; proofs/Claims.antt and proofs/Most.antt prove them.
use Rattle.std.specs.Prelude.{◌≡◌, ◌↔◌, true, false, List, ℕ, zero, suc, ◌≤◌, ◌<◌, ltb, length, get_or, replicate, Result}
use Rattle.mask.specs.Sets.{has}
use Rattle.table.specs.declared.Capability.{Capability}
use Rattle.table.specs.declared.Table.{Table}
use Rattle.table.specs.Lists.{tabulate}
use Rattle.table.specs.Cells.{IsTable}
use Rattle.relation.specs.Closure.{link}
use Rattle.bounds.specs.StandIn.{stand_in, test_holding, bound_of}
use Rattle.walks.specs.Chains.{Chain, First}
use Rattle.confinement.specs.Tests.{test_of, rounds_in}
use Rattle.confinement.specs.Exactness.{Accepts}
use Rattle.walks.specs.declared.Walked.{Walked}
use Rattle.chains.specs.declared.ChainRefusal.{ChainRefusal}
use Rattle.confinement.specs.Links.{Link, linked, object_link}
use Rattle.chains.specs.Answers.{chain_number, chain_reply, chain_of, walked_in}

-- the numbers that an answer shows
unfoldable pub numbers_of : Result Walked ChainRefusal → List ℕ
numbers_of r = tabulate (walked_in r).count (λ i. get_or (walked_in r).numbers i 0)

-- where the link to the number at place i comes from: before the first number is the stand-in
abbrev pub before : ℕ → Result Walked ChainRefusal → ℕ → ℕ
before members r zero = stand_in members
before members r (suc i) = get_or (walked_in r).numbers i 0

-- a chain from the stand-in to z, and that there is one
abbrev pub ChainTo : Table → ℕ → List Capability → ℕ → List ℕ → Type 0
ChainTo t members list z cs = Chain (object_link t members list) z (stand_in members) cs

pub data Reaches (t : Table) (members : ℕ) (list : List Capability) (z : ℕ) : Type 0 where
  by : (cs : List ℕ) → ChainTo t members list z cs → Reaches t members list z

-- a chain that is shown, of a table value
pub record Shows (t : Table) (members : ℕ) (list : List Capability) (object : ℕ) : Type 0 where
  pub table : IsTable t
  pub done : chain_number (chain_reply t members list object) ≡ 0

-- a link, computed, is a link as 2.1 says it, and the link of the test's holding
unfoldable pub LinkComputed : Type 0
LinkComputed = (t : Table) (members : ℕ) (list : List Capability) (u v : ℕ) → (linked t members list u v ≡ true) ↔ Link t members list u v

unfoldable pub LinkOfTest : Type 0
LinkOfTest = (t : Table) (members : ℕ) (list : List Capability) → Accepts t members list
    → (u v : ℕ) → linked t members list u v ≡ link (test_holding t members list) u v

-- "Every link shown must be there": a slot of a non-member or an entry has it
unfoldable pub LinksThere : Type 0
LinksThere = (t : Table) (members : ℕ) (list : List Capability) (object : ℕ) → Shows t members list object → (i : ℕ) → i < (walked_in (chain_of t members list object)).count
    → Link t members list (before members (chain_of t members list object) i) (get_or (walked_in (chain_of t members list object)).numbers i 0)

-- what is shown is a chain to the object
unfoldable pub ChainShown : Type 0
ChainShown = (t : Table) (members : ℕ) (list : List Capability) (object : ℕ) → Shows t members list object
    → ChainTo t members list object (numbers_of (chain_of t members list object))

-- "a shortest chain"
unfoldable pub NoneShorter : Type 0
NoneShorter = (t : Table) (members : ℕ) (list : List Capability) (object : ℕ) → Shows t members list object
    → (cs : List ℕ) → ChainTo t members list object cs → (walked_in (chain_of t members list object)).count ≤ length cs

-- "Among equal lengths, the chain whose numbers come first"
unfoldable pub NoneFirst : Type 0
NoneFirst = (t : Table) (members : ℕ) (list : List Capability) (object : ℕ) → Shows t members list object
    → (cs : List ℕ) → ChainTo t members list object cs → length cs ≡ (walked_in (chain_of t members list object)).count → First (numbers_of (chain_of t members list object)) cs

-- so it is the one chain that no other is shorter than, and none of its length before
pub record Least (t : Table) (members : ℕ) (list : List Capability) (object : ℕ) (cs : List ℕ) : Type 0 where
  pub chain : ChainTo t members list object cs
  pub shortest : (ds : List ℕ) → ChainTo t members list object ds → length cs ≤ length ds
  pub first : (ds : List ℕ) → ChainTo t members list object ds → length ds ≡ length cs → First cs ds

unfoldable pub OnlyOne : Type 0
OnlyOne = (t : Table) (members : ℕ) (list : List Capability) (object : ℕ) → Shows t members list object
    → (cs : List ℕ) → Least t members list object cs → cs ≡ numbers_of (chain_of t members list object)

-- "a chain must exist for each bound object and no other", and then it is shown
unfoldable pub ChainForBound : Type 0
ChainForBound = (t : Table) (members : ℕ) (list : List Capability) → Accepts t members list
    → (z : ℕ) → (has z (bound_of t members list) ≡ true) ↔ Reaches t members list z

unfoldable pub ShownForBound : Type 0
ShownForBound = (t : Table) (members : ℕ) (list : List Capability) → Accepts t members list
    → (z : ℕ) → (has z (bound_of t members list) ≡ true) ↔ (chain_number (chain_reply t members list z) ≡ 0)

-- at most 63 numbers; on every refusal none, and zeros
unfoldable pub AtMost63 : Type 0
AtMost63 = (t : Table) (members : ℕ) (list : List Capability) (object : ℕ) → (walked_in (chain_of t members list object)).count ≤ 63

unfoldable pub NoneOnRefusal : Type 0
NoneOnRefusal = (t : Table) (members : ℕ) (list : List Capability) (object k : ℕ) → chain_number (chain_reply t members list object) ≡ suc k
    → ((walked_in (chain_of t members list object)).count ≡ 0) × ((walked_in (chain_of t members list object)).numbers ≡ replicate 63 0)

-- 2.6: "The number equals the most links in any of 2.1's chains, 0 for an empty bound". A chain of k numbers has k links, and to an object
-- outside the bound there is none
unfoldable pub most_below : ℕ → (ℕ → ℕ) → ℕ
most_below zero f = 0
most_below (suc n) f = elim (ltb (most_below n f) (f n)) [ true ↦ f n | false ↦ most_below n f ]

unfoldable pub most_links : Table → ℕ → List Capability → ℕ
most_links t members list = most_below 64 (λ z. (walked_in (chain_of t members list z)).count)

unfoldable pub MostLinks : Type 0
MostLinks = (t : Table) → IsTable t → (members : ℕ) (list : List Capability) → rounds_in (test_of t members list) ≡ most_links t members list
