-- Document 02, 2.8, what a reclaim takes out of the whole table: "every capability naming it anywhere becomes an empty slot, and every maker
-- byte naming it becomes 64". Who holds such a capability makes no difference: every slot and every record is treated alike.
use Rattle.std.specs.Prelude.{true, false, map, ℕ, eqb}
use Rattle.table.specs.declared.Capability.{Capability}
use Rattle.table.specs.declared.Record.{Record}
use Rattle.table.specs.declared.Table.{Table}
use Rattle.table.specs.Cells.{empty_slot, no_maker}

-- what becomes of a slot where the number g is forgotten. An empty slot, whose target is 0, stays one
unfoldable pub unnamed : ℕ → Capability → Capability
unnamed g c = elim (eqb c.target g) [ true ↦ empty_slot | false ↦ c ]

-- what becomes of a maker byte
unfoldable pub maker_left : ℕ → ℕ → ℕ
maker_left g maker = elim (eqb maker g) [ true ↦ no_maker | false ↦ maker ]

abbrev pub unmade : ℕ → Record → Record
unmade g r = record { status = r.status; kind = r.kind; maker = maker_left g r.maker; word = r.word; stock = r.stock }

-- anywhere in the table
unfoldable pub slots_forgotten : Table → ℕ → Table
slots_forgotten tb g = record { records = tb.records; slots = map (unnamed g) tb.slots }

unfoldable pub makers_forgotten : Table → ℕ → Table
makers_forgotten tb g = record { records = map (unmade g) tb.records; slots = tb.slots }

abbrev pub forgotten : Table → ℕ → Table
forgotten tb g = makers_forgotten (slots_forgotten tb g) g
