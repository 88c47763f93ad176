use Rattle.groups.proofs.Laid.{Laid}
use Rattle.groups.proofs.laid_out.Given as goal

abbrev pub invariant-loop-x : goal.invariant-loop-x
invariant-loop-x l = Laid l.groups l.led l.x l.r
