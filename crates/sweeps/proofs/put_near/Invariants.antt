use Rattle.links.specs.Links.{word_edge}
use Rattle.sweeps.proofs.Numbers.{Putting, Nearing}
use Rattle.sweeps.proofs.put_near.Given as goal

abbrev pub invariant-loop-y : goal.invariant-loop-y
invariant-loop-y l = Putting l.set (λ x. l.word) l.initial.words l.y-iterator.left l.words × Nearing (word_edge l.over) l.set l.y-iterator.left l.found
