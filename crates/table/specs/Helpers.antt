-- What helpers of the scan promise: its glance over the eight slots of a record, before it tests them one by one: what it notes of
-- them, and when that is enough to pass them all.
use Rattle.std.specs.Prelude.{Bool, not, ◌&&◌, ◌||◌, ℕ, ◌%◌, leb, eqb}
use Rattle.mask.specs.Sets.{including, subset_of}
use Rattle.table.specs.declared.Glance.{Glance}
use Rattle.table.specs.declared.Record.{Record}
use Rattle.table.specs.Cells.{is_alive}

-- a slot that is right in no table: a target above 63, rights above 15, or a target with no rights
abbrev pub odd_slot : ℕ → ℕ → Bool
odd_slot target rights = leb 64 target || leb 16 rights || not (eqb target 0) && eqb rights 0

-- one slot more
abbrev pub glance_more : Glance → ℕ → ℕ → Glance
glance_more g target rights = record {
  filled = g.filled || not (eqb target 0 && eqb rights 0);
  odd = g.odd || odd_slot target rights;
  named = including (target % 64) g.named;
}

-- no slot is filled; or the record is alive, no slot is odd and every target is born
abbrev pub clear_of : Glance → Record → ℕ → Bool
clear_of g r born = not g.filled || is_alive r && not g.odd && subset_of g.named born
