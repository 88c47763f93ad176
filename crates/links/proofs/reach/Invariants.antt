use Rattle.links.specs.Links.{word_edge}
use Rattle.links.proofs.Walks.{Going}
use Rattle.links.proofs.reach.Given as goal

abbrev pub invariant-loop-k : goal.invariant-loop-k
invariant-loop-k l = Going (word_edge l.words) l.x l.s l.k
