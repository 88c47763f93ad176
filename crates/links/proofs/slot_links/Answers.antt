-- `slot_links`: the words have the links of the slots passed, each a law of Loops. Assumes nothing.
use mathlib.Core.Path.{sym, ◌∙◌, ap₂}
use mathlib.Core.Bool.{Bool, ◌&&◌}
use native.Mathlib.Omega.{arith}
use Rattle.mask.proofs.Tests.{and_true}
use Rattle.access.proofs.Marks.{has_low}
use Rattle.links.proofs.Loops.{slots_none, slots_more, slots_all}
use Rattle.links.proofs.slot_links.Goals as goal

pub loop-k-init : goal.loop-k-init
loop-k-init c = (slots_none _ _)

pub link_if-requires : goal.link_if-requires
link_if-requires c = λ e. (omega arith, has_low _ _ c.ranges.among.fits (sym c.has-in-loop-k.ensures ∙ (and_true c.has.result _ e).1))

pub loop-k-preserved : goal.loop-k-preserved
loop-k-preserved c = let both = ap₂ (λ (x y : Bool). x && y) c.has.ensures c.has-in-loop-k.ensures in
    (slots_more _ _ _ _ _ _ c.ranges.among.fits (omega arith) c.loop-k.invariant both c.link_if.ensures)

pub returns : goal.returns
returns c = slots_all _ _ _ _ (omega arith) (omega arith) c.loop-k.invariant
