-- `with` is the word with one bit set. Assumes nothing.
use Rattle.mask.proofs.Words.{or_one}
use Rattle.mask.proofs.with.Goals as goal

pub returns : goal.returns
returns c = or_one c.args.set c.args.n c.ranges.set.fits c.requires
