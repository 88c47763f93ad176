-- `pass` runs the rules at the pairs 0 to 4,095: the words are those of the 64 pairs of each holder that the loop has passed. Assumes nothing.
use Rattle.relation.proofs.Feeds.{pass_none, pass_row}
use Rattle.relation.proofs.pass.Goals as goal

pub loop-x-init : goal.loop-x-init
loop-x-init c = pass_none _

pub loop-x-preserved : goal.loop-x-preserved
loop-x-preserved c = pass_row _ _ _ _ c.loop-x.invariant c.visit_row.ensures
