-- `has_strong` tests the three bits of rd, wr and tx. Assumes nothing.
use Rattle.links.proofs.has_strong.Goals as goal

pub returns : goal.returns
returns c = cc
