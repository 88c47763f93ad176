-- `note_each`: the number is in the word of each number passed, and what is left has its old word. Assumes nothing.
use mathlib.Core.Path.{◌∙◌, ap}
use Rattle.mask.specs.Sets.{including}
use Rattle.sweeps.proofs.Numbers.{putting_next, not_yet}
use Rattle.sweeps.proofs.note_each.Goals as goal

pub loop-y-preserved : goal.loop-y-preserved
loop-y-preserved c = let s = c.in-Some.ensures.steps in
    putting_next _ _ _ _ _ _ _ _ c.requires.0 s.0 c.loop-y.invariant s.1 (c.with.ensures ∙ ap (including _) (not_yet _ _ _ _ _ _ s.0 c.loop-y.invariant))
