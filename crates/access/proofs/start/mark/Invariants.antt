use mathlib.Core.Path.{◌≡◌}
use Rattle.access.specs.Helpers.{mark_to}
use Rattle.access.proofs.start.mark.Given as goal

abbrev pub invariant-loop-b : goal.invariant-loop-b
invariant-loop-b l = l.r ≡ mark_to l.initial.r l.x l.y l.rights l.b
