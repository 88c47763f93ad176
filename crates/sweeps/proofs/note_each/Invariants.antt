use Rattle.sweeps.proofs.Numbers.{Putting, noted}
use Rattle.sweeps.proofs.note_each.Given as goal

abbrev pub invariant-loop-y : goal.invariant-loop-y
invariant-loop-y l = Putting l.set (noted l.x l.initial.words) l.initial.words l.y-iterator.left l.words
