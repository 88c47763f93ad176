-- `layers_about`: the layers that are there and those that are left are all, until x has an edge into the latest. Assumes nothing.
use mathlib.Core.Bool.{not}
use mathlib.Core.Path.{refl, ap}
use native.Mathlib.Omega.{arith}
use Rattle.walks.proofs.Loops.{met, making_none, making_more, making_stop, making_end}
use Rattle.walks.proofs.layers_about.Goals as goal

pub loop-k-init : goal.loop-k-init
loop-k-init c = making_none _ _ _ _ _ c.alone-s.ensures refl

pub returns-then-not-disjoint : goal.returns-then-not-disjoint
returns-then-not-disjoint c = making_stop _ _ _ _ _ _ _ (omega arith) (met c.args.words.now c.args.x _ _ _ c.disjoint.ensures (ap not c.if-not-disjoint.true)) c.loop-k.invariant

pub loop-k-preserved : goal.loop-k-preserved
loop-k-preserved c = making_more _ _ _ _ _ _ _ _ _ (omega arith) refl c.grown_back-s.ensures refl (met c.args.words.now c.args.x _ _ _ c.disjoint.ensures (ap not c.if-not-disjoint.false)) c.loop-k.invariant

pub returns : goal.returns
returns c = making_end _ _ _ _ _ _ (omega arith) c.loop-k.invariant
