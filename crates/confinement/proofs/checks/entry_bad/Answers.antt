-- `entry_bad` is row 11 at one entry. Assumes nothing.
use mathlib.Core.Path.{ap}
use mathlib.Core.Bool.{Bool, not, ◌||◌}
use lib.Dec.{ltb, eqb}
use Rattle.confinement.proofs.checks.entry_bad.Goals as goal

pub returns : goal.returns
returns c = ap (λ (b : Bool). (eqb c.args.e.rights 0 || ltb 15 c.args.e.rights) || not b) c.has.ensures
