-- `put_each`: the word stands at each number passed. Assumes nothing.
use mathlib.Core.Path.{refl}
use Rattle.sweeps.proofs.Numbers.{putting_next}
use Rattle.sweeps.proofs.put_each.Goals as goal

pub loop-x-preserved : goal.loop-x-preserved
loop-x-preserved c = let s = c.in-Some.ensures.steps in putting_next _ _ _ _ _ _ _ _ c.requires s.0 c.loop-x.invariant s.1 refl
