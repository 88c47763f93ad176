-- `share` is four feeds, one after the other: the words are those of as many feeds as the loop has passed. Assumes nothing.
use native.Mathlib.Omega.{arith}
use Rattle.relation.proofs.Feeds.{shared_none, shared_more, shared_all}
use Rattle.relation.proofs.share.Goals as goal

pub loop-b-init : goal.loop-b-init
loop-b-init c = shared_none _ _ _ _ _ _

pub loop-b-preserved : goal.loop-b-preserved
loop-b-preserved c = shared_more _ _ _ _ _ _ _ _ _ c.loop-b.invariant c.join_word.ensures

pub returns : goal.returns
returns c = shared_all _ _ _ _ _ _ _ _ (omega arith) c.loop-b.invariant
