-- `beyond`: what a set shares with the word that is one less. Assumes nothing.
use Rattle.sweeps.proofs.Numbers.{less_lowest}
use Rattle.sweeps.proofs.beyond.Goals as goal

pub returns : goal.returns
returns c = less_lowest _ _ c.common.ensures
