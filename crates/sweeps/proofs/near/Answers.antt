-- `near`: the words of the numbers passed, joined. Assumes nothing.
use mathlib.Core.Path.{refl}
use Rattle.sweeps.proofs.Numbers.{near_next, near_all}
use Rattle.sweeps.proofs.near.Goals as goal

pub loop-x-preserved : goal.loop-x-preserved
loop-x-preserved c = let s = c.in-Some.ensures.steps in near_next _ _ _ _ _ _ _ _ s.0 (λ y. refl) c.loop-x.invariant s.1 c.union-found.ensures

pub returns : goal.returns
returns c = near_all _ _ _ _ c.in-None.ensures.steps.0 c.loop-x.invariant
