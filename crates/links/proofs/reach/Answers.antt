-- `reach`: the rounds that are left give what is reached and how many of them count, until one adds nothing or none is left. Assumes nothing.
use Rattle.links.proofs.Walks.{going_none, going_more, going_still, going_end, Going}
use mathlib.Core.Path.{◌≡◌, subst}
use native.Mathlib.Omega.{arith}
use Rattle.links.proofs.reach.Goals as goal

pub loop-k-init : goal.loop-k-init
loop-k-init c = going_none _ _ _ c.alone-s.ensures

pub returns-then-next-s : goal.returns-then-next-s
returns-then-next-s c = going_still _ _ _ _ c.loop-k.k (omega arith) c.grown-next.ensures c.if-next-s.true c.loop-k.invariant

pub loop-k-preserved : goal.loop-k-preserved
loop-k-preserved c = going_more _ _ _ _ _ (omega arith) c.grown-next.ensures c.if-next-s.false c.loop-k.invariant

pub returns : goal.returns
returns c = let e : c.loop-k.k ≡ 63 = omega arith in going_end _ _ _ _ (omega arith) (subst (Going _ _ _) e c.loop-k.invariant)
