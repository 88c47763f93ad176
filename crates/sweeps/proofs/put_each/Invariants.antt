use Rattle.sweeps.proofs.Numbers.{Putting}
use Rattle.sweeps.proofs.put_each.Given as goal

abbrev pub invariant-loop-x : goal.invariant-loop-x
invariant-loop-x l = Putting l.set (λ x. l.word) l.initial.words l.x-iterator.left l.words
