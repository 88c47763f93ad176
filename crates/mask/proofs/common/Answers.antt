-- `common`: `&` is what is in both. Assumes nothing.
use Rattle.mask.proofs.Words.{and_common}
use Rattle.mask.proofs.common.Goals as goal

pub returns : goal.returns
returns c = and_common c.args.a c.args.b c.ranges.a.fits c.ranges.b.fits
