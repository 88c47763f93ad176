-- `has` tests one bit; at 64 and above the shift is masked and the answer is no. Assumes nothing.
use Rattle.mask.proofs.Words.{has_is}
use Rattle.mask.proofs.has.Goals as goal

pub returns : goal.returns
returns c = has_is c.args.set c.args.n c.ranges.set.fits
