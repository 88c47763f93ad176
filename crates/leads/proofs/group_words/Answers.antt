-- `group_words`: the groups of the numbers passed are there, each a law of Grouping. Assumes nothing.
use native.Mathlib.Omega.{arith}
use Rattle.leads.proofs.Grouping.{group_none, group_more, group_less, group_all}
use Rattle.leads.proofs.group_words.Goals as goal

pub loop-left-init : goal.loop-left-init
loop-left-init c = (c.requires.0, group_none _ _ _ c.requires.0 _ _ c.requires.1 c.requires.2)

pub group_at-group-requires : goal.group_at-group-requires
group_at-group-requires c = c.lowest-x.ensures.low

pub put_each-requires : goal.put_each-requires
put_each-requires c = c.loop-left.invariant.1.group_long

pub put_each-requires-in-loop-left : goal.put_each-requires-in-loop-left
put_each-requires-in-loop-left c = c.loop-left.invariant.1.link_long

pub loop-left-smaller : goal.loop-left-smaller
loop-left-smaller c = group_less _ _ _ c.loop-left.invariant.0 _ _ _ _ _ _ _ _ _ _ _ c.loop-left.invariant.1 c.lowest-x.ensures c.group_at-group.ensures c.near-out.ensures c.union-led.ensures c.put_each.ensures c.put_each-in-loop-left.ensures c.less-left.ensures

pub loop-left-preserved : goal.loop-left-preserved
loop-left-preserved c = (c.loop-left.invariant.0, group_more _ _ _ c.loop-left.invariant.0 _ _ _ _ _ _ _ _ _ _ _ c.loop-left.invariant.1 c.lowest-x.ensures c.group_at-group.ensures c.near-out.ensures c.union-led.ensures c.put_each.ensures c.put_each-in-loop-left.ensures c.less-left.ensures _ c.leading_with-leading.ensures)

pub returns : goal.returns
returns c = group_all _ _ _ c.loop-left.invariant.0 _ _ _ _ (omega arith) c.loop-left.invariant.1
