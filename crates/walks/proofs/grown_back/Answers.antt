-- `grown_back` is one round backwards: each number passed that is there or has an edge into what is there. Assumes nothing.
use mathlib.Core.Path.{sym, ◌∙◌, ap}
use native.Mathlib.Omega.{arith}
use Rattle.mask.specs.Sets.{including}
use Rattle.mask.proofs.UpTo.{up_none, up_on, up_off}
use Rattle.walks.proofs.Loops.{into_is, back_all}
use Rattle.walks.proofs.grown_back.Goals as goal
use Rattle.walks.proofs.grown_back.Goals.{else-has-disjoint, then-has-disjoint}

pub loop-x-init : goal.loop-x-init
loop-x-init c = up_none _

pub loop-x-preserved : goal.loop-x-preserved
loop-x-preserved c = let e = into_is c.args.words.now c.args.s c.loop-x.x _ _ c.has.ensures c.disjoint.ensures in
    elim c.if-has-disjoint.branch [
      | then-has-disjoint w ↦ w.found-is ∙ w.with-found.ensures ∙ ap (including c.loop-x.x) c.loop-x.invariant ∙ up_on _ c.loop-x.x (sym e ∙ w.if-has-disjoint.true)
      | else-has-disjoint w ↦ w.found-is ∙ c.loop-x.invariant ∙ up_off _ c.loop-x.x (sym e ∙ w.if-has-disjoint.false)
    ]

pub returns : goal.returns
returns c = back_all _ _ _ _ (omega arith) c.loop-x.invariant
