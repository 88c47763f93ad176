use mathlib.Core.Path.{◌≡◌}
use Prim.Native.Nat.{ℕ, ◌<◌}
use lib.ListN.{get_or}
use Rattle.table.specs.Cells.{empty_slot}
use Rattle.entries.specs.Entries.{entry_in}
use Rattle.entries.proofs.entries_in.Given as goal

abbrev pub invariant-loop-k : goal.invariant-loop-k
invariant-loop-k l = ((i : ℕ) → i < l.k → get_or l.entry-items i empty_slot ≡ entry_in l.bytes i)
