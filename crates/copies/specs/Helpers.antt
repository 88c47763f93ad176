-- A record's eight slots, as the code's helpers hold them while pairs are copied. They add nothing to what a request does.
use Rattle.std.specs.Prelude.{ℕ, get_or}
use Rattle.table.specs.declared.Capability.{Capability}
use Rattle.table.specs.declared.Table.{Table}
use Rattle.table.specs.Lists.{tabulate}
use Rattle.table.specs.Cells.{empty_slot, slot_at}
use Rattle.copies.specs.declared.Row.{Row}

-- the eight slots of object k
unfoldable pub row_at : Table → ℕ → Row
row_at t k = record { cells = tabulate 8 (slot_at t k) }

abbrev pub cell_of : Row → ℕ → Capability
cell_of row j = get_or row.cells j empty_slot
