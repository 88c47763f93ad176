use mathlib.Core.Path.{◌≡◌}
use mathlib.Core.Bool.{false}
use Prim.Native.Nat.{ℕ, ◌<◌}
use Rattle.table.specs.Cells.{slot_at}
use Rattle.bounds.specs.StandIn.{entries_of}
use Rattle.confinement.specs.Helpers.{slot_unlisted}
use Rattle.group_tests.proofs.Members.{Searching}
use Rattle.group_tests.proofs.right_unlisted.Given as goal

abbrev pub invariant-slots : goal.invariant-slots
invariant-slots l = (i : ℕ) → i < l.c-index → slot_unlisted l.members (entries_of l.l.list) l.n (slot_at l.fn.t l.n i) ≡ false

abbrev pub invariant-members : goal.invariant-members
invariant-members l = Searching l.fn.t l.members (entries_of l.l.list) l.n-iterator.left
