use Rattle.links.specs.Links.{word_edge}
use Rattle.walks.proofs.Loops.{Walking}
use Rattle.walks.proofs.through.Given as goal

abbrev pub invariant-loop-i : goal.invariant-loop-i
invariant-loop-i l = Walking (word_edge l.words) l.x l.sets l.count l.numbers l.at l.i
