-- The entries of a confinement test as bytes: "2 bytes (target, rights) an entry", document 01.
use Rattle.std.specs.Prelude.{Bool, true, false, ◌&&◌, List, ℕ, ◌+◌, ◌*◌, ◌/◌, ◌%◌, leb, eqb, length, replicate}
use Rattle.table.specs.declared.Capability.{Capability}
use Rattle.table.specs.Cells.{empty_slot}
use Rattle.table.specs.Lists.{tabulate, padded}
use Rattle.octets.specs.BigEndian.{byte_at}
use Rattle.bounds.specs.declared.EntryList.{EntryList}

-- the entry at a place
unfoldable pub entry_in : List ℕ → ℕ → Capability
entry_in bytes k = record { target = byte_at bytes (2 * k); rights = byte_at bytes (2 * k + 1) }

-- no byte is left over
abbrev pub are_whole : List ℕ → Bool
are_whole bytes = eqb (length bytes % 2) 0

-- the list that bytes are. Where a byte is left over they are no list, and count as one that is too long
unfoldable pub entries_in : List ℕ → List Capability
entries_in bytes = elim (are_whole bytes) [ true ↦ tabulate (length bytes / 2) (entry_in bytes) | false ↦ replicate 9 empty_slot ]

-- the code's value for a list: after its entries stand empty slots; one that is too long is held by its count alone
unfoldable pub held_entries : List ℕ → EntryList
held_entries bytes = elim (are_whole bytes && leb (length bytes / 2) 8) [
  | true ↦ record { count = length bytes / 2; entries = padded 8 empty_slot (tabulate (length bytes / 2) (entry_in bytes)) }
  | false ↦ record { count = 9; entries = replicate 8 empty_slot }
]
