-- What helpers of the scan promise: whether a record's slots are right, by what was noted of all of them.
use Rattle.std.specs.Prelude.{Bool, not, ◌&&◌, ◌||◌, ℕ, eqb, leb}
use Rattle.mask.specs.Sets.{subset_of}
use Rattle.table.specs.declared.Capability.{Capability}
use Rattle.table.specs.declared.Record.{Record}
use Rattle.table.specs.Cells.{is_alive}
use Rattle.held.specs.declared.Holds.{Holds}

-- rights above 15, or a target without rights
abbrev pub is_odd : Capability → Bool
is_odd c = (eqb c.rights 0 && not (eqb c.target 0)) || leb 16 c.rights

-- none is odd and none names a number that no set has; and nothing is held, or the record is alive and all that is named is born
abbrev pub slots_right : Record → ℕ → Holds → Bool → Bool
slots_right r born h odd = not (h.astray || odd) && (eqb h.over 0 || (is_alive r && subset_of h.over born))
