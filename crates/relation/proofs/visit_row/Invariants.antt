use mathlib.Core.Path.{◌≡◌}
use Rattle.relation.specs.Helpers.{row_pass}
use Rattle.relation.proofs.visit_row.Given as goal

abbrev pub invariant-loop-y : goal.invariant-loop-y
invariant-loop-y l = l.r ≡ row_pass l.initial.r l.x l.y
