-- `without` is the word with one bit cleared. Assumes nothing.
use Rattle.mask.proofs.Words.{and_not_one}
use Rattle.mask.proofs.without.Goals as goal

pub returns : goal.returns
returns c = and_not_one c.args.set c.args.n c.ranges.set.fits c.requires
