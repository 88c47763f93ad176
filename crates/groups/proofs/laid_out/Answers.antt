-- `laid_out`: the four rows of each holder passed are laid out. Assumes nothing.
use native.Mathlib.Omega.{arith}
use Rattle.groups.proofs.Laid.{laid_none, laid_more, laid_all}
use Rattle.groups.proofs.laid_out.Goals as goal

pub loop-x-init : goal.loop-x-init
loop-x-init c = laid_none _ _

pub loop-x-preserved : goal.loop-x-preserved
loop-x-preserved c = laid_more _ _ _ _ (omega arith) c.loop-x.invariant

pub returns : goal.returns
returns c = laid_all _ _ _ _ (omega arith) c.loop-x.invariant
