-- `led_words`: the rows of the settled are there, and in the end all are settled. Assumes nothing.
use mathlib.Core.Path.{refl, sym, ◌∙◌}
use native.Mathlib.Omega.{arith}
use Rattle.leads.proofs.Settling.{settled_ends, settled_all, in_less, less_in, fewer_among}
use Rattle.leads.proofs.led_words.Goals as goal

pub loop-left-init : goal.loop-left-init
loop-left-init c = (settled_ends _ _ c.requires.0 _ _ _ c.requires.1 c.requires.2 c.less-settled.ensures, c.less-left.ensures, refl)

pub settle_from-settled-requires : goal.settle_from-settled-requires
settle_from-settled-requires c = let own = c.requires.1 in (c.requires.0, c.loop-left.invariant.0, c.lowest-x.ensures.low, sym (own _ c.lowest-x.ensures.low) ∙ (in_less _ _ _ _ c.lowest-x.ensures.low c.loop-left.invariant.1 c.lowest-x.ensures.there).0, λ u h e f. less_in u _ _ _ h c.loop-left.invariant.1 (own u h ∙ e) f, c.loop-left.invariant.2)

pub loop-left-smaller : goal.loop-left-smaller
loop-left-smaller c = fewer_among _ _ _ _ _ _ c.loop-left.invariant.1 c.less-left-in-loop-left.ensures c.settle_from-settled.ensures.0.more c.lowest-x.ensures.low c.lowest-x.ensures.there c.settle_from-settled.ensures.0.own

pub loop-left-preserved : goal.loop-left-preserved
loop-left-preserved c = (c.settle_from-settled.ensures.0.now, c.less-left-in-loop-left.ensures, c.settle_from-settled.ensures.1)

pub returns : goal.returns
returns c = settled_all _ _ c.requires.0 _ _ _ _ c.requires.1 c.loop-left.invariant.0 c.loop-left.invariant.1 (omega arith)
