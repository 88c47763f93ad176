-- Document 01, "The eight requests": what a fetch takes, and where a copied capability lands.
use Rattle.std.specs.Prelude.{true, false, List, [], ◌∷◌, ℕ}
use Rattle.table.specs.declared.Capability.{Capability}
use Rattle.table.specs.declared.Table.{Table}
use Rattle.table.specs.Cells.{is_empty, slot_at, put_slot, has_rd}
use Rattle.rights.specs.Rows.{weaken}
use Rattle.requests.specs.declared.Pair.{Pair}

-- what a fetch through a slot with these rights takes: "weakened if rd is absent"
unfoldable pub fetched : ℕ → Capability → Capability
fetched rights c = elim (has_rd rights) [ true ↦ c | false ↦ weaken c ]

-- what a destination slot holds after a copy, of what it held and the copy. Document 02, 2.4: "a copy that comes out empty, from an
-- empty slot or from weakening, changes no slot"
unfoldable pub landed : Capability → Capability → Capability
landed old copy = elim (is_empty copy) [ true ↦ old | false ↦ copy ]

abbrev pub copy_to : Table → ℕ → ℕ → Capability → Table
copy_to tb n j c = put_slot tb n j (landed (slot_at tb n j) c)

-- "Pairs apply left to right; a later one to the same slot wins", where it is not empty (02, 2.4). The source is the actor's slots
-- as they were
unfoldable pub copy_pairs : Table → (ℕ → Capability) → ℕ → List Pair → Table
copy_pairs tb source n [] = tb
copy_pairs tb source n (p ∷ ps) = copy_pairs (copy_to tb n p.to (source p.from)) source n ps
