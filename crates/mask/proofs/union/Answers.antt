-- `union`: `|` is the union. Assumes nothing.
use Rattle.mask.proofs.Words.{or_union}
use Rattle.mask.proofs.union.Goals as goal

pub returns : goal.returns
returns c = or_union c.args.a c.args.b c.ranges.a.fits c.ranges.b.fits
