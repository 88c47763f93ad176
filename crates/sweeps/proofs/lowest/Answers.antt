-- `lowest`: the zeros below the lowest digit that is set. Assumes nothing.
use native.Mathlib.Omega.{arith}
use Rattle.sweeps.proofs.Numbers.{lowest_is}
use Rattle.sweeps.proofs.lowest.Goals as goal

pub overflow_cast-result : goal.overflow_cast-result
overflow_cast-result c = omega (arith, (lowest_is _ c.requires c.ranges.set.fits).low)

pub returns : goal.returns
returns c = lowest_is _ c.requires c.ranges.set.fits
