-- `covered` is the test of one right. Assumes nothing.
use mathlib.Core.Path.{ap₂}
use mathlib.Core.Bool.{Bool, not, ◌||◌}
use Rattle.confinement.proofs.checks.covered.Goals as goal

pub returns : goal.returns
returns c = ap₂ (λ (x y : Bool). not x || y) c.has.ensures c.has-2.ensures
