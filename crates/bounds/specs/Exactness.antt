-- What is claimed of the bound, as statements; proofs/Exact.antt proves the first two, proofs/Weak.antt the third.
use Rattle.std.specs.Prelude.{◌≡◌, ◌↔◌, true, false, List, [], ◌∷◌, ℕ, ◌<◌}
use Rattle.mask.specs.Sets.{has}
use Rattle.table.specs.declared.Capability.{Capability}
use Rattle.table.specs.declared.Table.{Table}
use Rattle.relation.specs.Relation.{Influenced}
use Rattle.bounds.specs.StandIn.{stand_in, test_holding, bound_of}
use Rattle.bounds.specs.Agreement.{AgreeOutside}

-- "The bound is the set of non-members influenced by the stand-in", in the least relation
unfoldable pub BoundExact : Type 0
BoundExact = (t : Table) (members : ℕ) (list : List Capability) (y : ℕ) → y < 64
    → (has y (bound_of t members list) ≡ true) ↔ ((has y members ≡ false) × Influenced (test_holding t members list) (stand_in members) y)

-- "No byte of a member enters it"; document 02, 2.3: "The bound is still worked from the list alone"
unfoldable pub BoundBlind : Type 0
BoundBlind = (members : ℕ) (t u : Table) → AgreeOutside members t u → (list : List Capability) → bound_of t members list ≡ bound_of u members list

-- a list, and the same list with entries of wk alone put in at any places
pub data WithWeak : List Capability → List Capability → Type 0 where
  none : WithWeak [] []
  kept : (e : Capability) {list longer : List Capability} → WithWeak list longer → WithWeak (e ∷ list) (e ∷ longer)
  put : (e : Capability) {list longer : List Capability} → e.rights ≡ 4 → WithWeak list longer → WithWeak list (e ∷ longer)

-- entries of wk alone, however many and whatever they name, change nothing in the bound. So the rule of 2.3, that wk needs no entry,
-- loses nothing
unfoldable pub WeakEntriesFree : Type 0
WeakEntriesFree = (t : Table) (members : ℕ) (list longer : List Capability) → WithWeak list longer → bound_of t members longer ≡ bound_of t members list
