-- `less`: `& !` is the difference. Assumes nothing.
use Rattle.mask.proofs.Words.{and_not_less}
use Rattle.mask.proofs.less.Goals as goal

pub returns : goal.returns
returns c = and_not_less c.args.a c.args.b c.ranges.a.fits c.ranges.b.fits
