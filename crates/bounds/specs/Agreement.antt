-- Two tables that agree outside a set of members: "The same record means that every field and every slot is equal."
use Rattle.std.specs.Prelude.{◌≡◌, false, ℕ, ◌<◌}
use Rattle.mask.specs.Sets.{has}
use Rattle.table.specs.declared.Table.{Table}
use Rattle.table.specs.Cells.{record_at, slot_at}

-- "A non-member is any number from 0 to 63 outside the set of members"
pub record AgreeOutside (members : ℕ) (t u : Table) : Type 0 where
  pub records : (n : ℕ) → n < 64 → has n members ≡ false → record_at t n ≡ record_at u n
  pub slots : (n j : ℕ) → n < 64 → j < 8 → has n members ≡ false → slot_at t n j ≡ slot_at u n j
