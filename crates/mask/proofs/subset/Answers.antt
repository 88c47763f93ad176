-- `subset`: nothing is over. Assumes nothing.
use Rattle.mask.proofs.Words.{none_over}
use Rattle.mask.proofs.subset.Goals as goal

pub returns : goal.returns
returns c = none_over c.args.a c.args.b c.ranges.a.fits c.ranges.b.fits
