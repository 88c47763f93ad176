use Rattle.links.specs.Links.{word_edge}
use Rattle.sweeps.proofs.Frontier.{Fronting}
use Rattle.sweeps.proofs.spread.Given as goal

abbrev pub invariant-loop-k : goal.invariant-loop-k
invariant-loop-k l = Fronting (word_edge l.words) l.x l.s l.fresh l.k
