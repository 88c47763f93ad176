use mathlib.Core.Path.{◌≡◌}
use mathlib.Core.Bool.{false}
use Prim.Native.Nat.{ℕ, ◌<◌, ◌/◌}
use lib.ListN.{get_or}
use Rattle.table.specs.Cells.{empty_slot}
use Rattle.confinement.specs.Helpers.{slot_names_member}
use Rattle.confinement.proofs.checks.member_held.Given as goal

abbrev pub invariant-loop-k : goal.invariant-loop-k
invariant-loop-k l = (i : ℕ) → i < l.k → slot_names_member l.members (i / 8) (get_or l.fn.t.slots i empty_slot) ≡ false
