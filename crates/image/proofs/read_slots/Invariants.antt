use mathlib.Core.Path.{◌≡◌}
use lib.ListN.{length, take}
use Rattle.table.specs.Lists.{tabulate}
use Rattle.image.specs.Layout.{slot_from}
use Rattle.image.proofs.read_slots.Given as goal

abbrev pub invariant-loop-j : goal.invariant-loop-j
invariant-loop-j l = (length l.slot-items ≡ 8) × (take l.j l.slot-items ≡ tabulate l.j (slot_from l.part))
