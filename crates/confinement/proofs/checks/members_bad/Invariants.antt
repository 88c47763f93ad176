use mathlib.Core.Path.{◌≡◌}
use mathlib.Core.Bool.{false, not, ◌&&◌}
use Prim.Native.Nat.{ℕ, ◌<◌}
use Rattle.mask.specs.Sets.{has}
use Rattle.table.specs.Cells.{record_at, is_alive}
use Rattle.confinement.proofs.checks.members_bad.Given as goal

abbrev pub invariant-loop-n : goal.invariant-loop-n
invariant-loop-n l = (k : ℕ) → k < l.n → (has k l.members && not (is_alive (record_at l.fn.t k))) ≡ false
