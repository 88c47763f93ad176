use Rattle.links.specs.Links.{word_edge}
use Rattle.sweeps.proofs.Numbers.{Nearing}
use Rattle.sweeps.proofs.near.Given as goal

abbrev pub invariant-loop-x : goal.invariant-loop-x
invariant-loop-x l = Nearing (word_edge l.words) l.set l.x-iterator.left l.found
