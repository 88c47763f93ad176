use Rattle.links.specs.Links.{word_edge}
use Rattle.walks.proofs.Loops.{Making}
use Rattle.walks.proofs.layers_about.Given as goal

abbrev pub invariant-loop-k : goal.invariant-loop-k
invariant-loop-k l = Making (word_edge l.words) l.x l.z l.sets l.s l.k
