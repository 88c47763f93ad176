use mathlib.Core.Path.{◌≡◌}
use mathlib.Core.Bool.{false}
use Prim.Native.Nat.{ℕ, ◌<◌}
use lib.ListN.{get_or}
use Rattle.table.specs.Cells.{empty_slot}
use Rattle.confinement.specs.Helpers.{entry_refused}
use Rattle.confinement.proofs.checks.list_bad.Given as goal

abbrev pub invariant-loop-e : goal.invariant-loop-e
invariant-loop-e v = (i : ℕ) → i < v.e-index → entry_refused v.outside (get_or v.fn.l.entries i empty_slot) ≡ false
