-- `lowest` is the stand-in: the zeros below the lowest digit that is set. Assumes nothing.
use Rattle.bounds.proofs.Holding.{zeros_stand_in}
use Rattle.bounds.proofs.lowest.Goals as goal

pub returns : goal.returns
returns c = zeros_stand_in _ c.ranges.set.fits
