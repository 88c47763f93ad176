-- `spread`: each round that looks at what was added is a round over all that is there. Assumes nothing.
use mathlib.Core.Path.{◌≡◌, subst}
use native.Mathlib.Omega.{arith}
use Rattle.sweeps.proofs.Frontier.{front_none, front_still, front_more, front_end, Fronting}
use Rattle.sweeps.proofs.spread.Goals as goal

pub loop-k-init : goal.loop-k-init
loop-k-init c = front_none _ _ _ c.alone-s.ensures

pub returns-then-next-s : goal.returns-then-next-s
returns-then-next-s c = front_still _ _ _ _ _ _ _ c.loop-k.invariant (omega arith) c.near-found.ensures c.union-next.ensures c.if-next-s.true

pub loop-k-preserved : goal.loop-k-preserved
loop-k-preserved c = front_more _ _ _ _ _ _ _ c.loop-k.invariant (omega arith) c.near-found.ensures c.union-next.ensures _ c.less-fresh.ensures c.if-next-s.false

pub returns : goal.returns
returns c = let e : c.loop-k.k ≡ 63 = omega arith in front_end _ _ _ _ _ (omega arith) (subst (Fronting _ _ _ _) e c.loop-k.invariant)
