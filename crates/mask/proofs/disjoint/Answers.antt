-- `disjoint`: nothing is shared. Assumes nothing.
use Rattle.mask.proofs.Words.{none_shared}
use Rattle.mask.proofs.disjoint.Goals as goal

pub returns : goal.returns
returns c = none_shared c.args.a c.args.b c.ranges.a.fits c.ranges.b.fits
