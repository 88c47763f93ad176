use mathlib.Core.Path.{◌≡◌}
use Rattle.links.specs.Links.{word_edge}
use Rattle.links.proofs.Walks.{grown_to}
use Rattle.links.proofs.grown.Given as goal

abbrev pub invariant-loop-x : goal.invariant-loop-x
invariant-loop-x l = l.found ≡ grown_to (word_edge l.words) l.s l.x
