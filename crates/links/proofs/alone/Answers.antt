-- `alone` is the set of x alone; above 63 there is none. Assumes nothing.
use mathlib.Core.Path.{◌∙◌}
use Rattle.links.proofs.Walks.{only_low, only_high}
use Rattle.links.proofs.alone.Goals as goal

pub returns-then-x-lt64 : goal.returns-then-x-lt64
returns-then-x-lt64 c = c.with.ensures ∙ only_low _

pub returns-else-x-lt64 : goal.returns-else-x-lt64
returns-else-x-lt64 c = only_high _ c.if-x-lt64.false
