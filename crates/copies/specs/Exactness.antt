-- What is claimed of copies, as statements; proofs/Landing.antt proves the first two, proofs/Pairs.antt the others. Document 02, 2.4:
-- "a copy that comes out empty, from an empty slot or from weakening, changes no slot".
use Rattle.std.specs.Prelude.{◌≡◌, true, false, not, ◌&&◌, List, [], ◌∷◌, ℕ, ◌<◌, eqb}
use Rattle.table.specs.declared.Capability.{Capability}
use Rattle.table.specs.declared.Table.{Table}
use Rattle.table.specs.Cells.{IsTable, slot_at, is_empty}
use Rattle.requests.specs.declared.Pair.{Pair}
use Rattle.refusals.specs.Refusals.{bad_slots}
use Rattle.copies.specs.Copies.{copy_to, copy_pairs}

-- an empty copy leaves the whole table as it was, wherever it goes
unfoldable pub EmptyCopyNothing : Type 0
EmptyCopyNothing = (tb : Table) (n j : ℕ) (c : Capability) → is_empty c ≡ true → copy_to tb n j c ≡ tb

-- no copy empties a slot, whether the copy is empty or not
unfoldable pub CopyEmptiesNone : Type 0
CopyEmptiesNone = (tb : Table) (n j : ℕ) (c : Capability) (m k : ℕ) → is_empty (slot_at tb m k) ≡ false → is_empty (slot_at (copy_to tb n j c) m k) ≡ false

-- a list of pairs, and the same list with some pairs left out whose source slot is empty
pub data LeftOut (source : ℕ → Capability) : List Pair → List Pair → Type 0 where
  none : LeftOut source [] []
  kept : (p : Pair) {list shorter : List Pair} → LeftOut source list shorter → LeftOut source (p ∷ list) (p ∷ shorter)
  left : (p : Pair) {list shorter : List Pair} → is_empty (source p.from) ≡ true → LeftOut source list shorter → LeftOut source (p ∷ list) shorter

unfoldable pub LeftOutSame : Type 0
LeftOutSame = (tb : Table) (source : ℕ → Capability) (n : ℕ) (list shorter : List Pair) → LeftOut source list shorter
    → copy_pairs tb source n shorter ≡ copy_pairs tb source n list

-- "a later one to the same slot wins", where it is not empty: the last of the pairs to slot j whose source is not empty, or what the
-- slot held where there is none
unfoldable pub last_filled : (ℕ → Capability) → ℕ → Capability → List Pair → Capability
last_filled source j held [] = held
last_filled source j held (p ∷ ps) =
    last_filled source j (elim (eqb p.to j && not (is_empty (source p.from))) [ true ↦ source p.from | false ↦ held ]) ps

unfoldable pub LastFilledWins : Type 0
LastFilledWins = (tb : Table) (source : ℕ → Capability) (n j : ℕ) (list : List Pair) → IsTable tb → n < 64 → j < 8 → bad_slots list ≡ false
    → slot_at (copy_pairs tb source n list) n j ≡ last_filled source j (slot_at tb n j) list
