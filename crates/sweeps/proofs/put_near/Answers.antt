-- `put_near`: the word stands at each number passed, and the other words of these are joined. Assumes nothing.
use mathlib.Core.Path.{refl}
use Rattle.sweeps.proofs.Numbers.{putting_next, near_next, put_all, near_all}
use Rattle.sweeps.proofs.put_near.Goals as goal

pub loop-y-preserved : goal.loop-y-preserved
loop-y-preserved c = let s = c.in-Some.ensures.steps in
    (putting_next _ _ _ _ _ _ _ _ c.requires s.0 c.loop-y.invariant.0 s.1 refl, near_next _ _ _ _ _ _ _ _ s.0 (λ y. refl) c.loop-y.invariant.1 s.1 c.union-found.ensures)

pub returns : goal.returns
returns c = let z = c.in-None.ensures.steps.0 in (put_all _ _ _ _ _ z c.loop-y.invariant.0, near_all _ _ _ _ z c.loop-y.invariant.1)
