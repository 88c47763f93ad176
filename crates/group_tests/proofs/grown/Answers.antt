-- `grown`: what links reach from the lowest member, without the members, and the rounds. Assumes nothing.
use Rattle.group_tests.proofs.Found.{stands, grown_is}
use Rattle.group_tests.proofs.grown.Goals as goal

pub returns : goal.returns
returns c = grown_is _ _ _ _ _ _ _ _ (stands _ _ c.lowest-x.ensures) c.with_entries-words.ensures c.spread-spread.ensures c.less-objects.ensures
