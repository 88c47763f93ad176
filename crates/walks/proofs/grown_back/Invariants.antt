use mathlib.Core.Path.{◌≡◌}
use Rattle.mask.proofs.UpTo.{up_to}
use Rattle.links.specs.Links.{word_edge}
use Rattle.walks.proofs.Loops.{into}
use Rattle.walks.proofs.grown_back.Given as goal

abbrev pub invariant-loop-x : goal.invariant-loop-x
invariant-loop-x l = l.found ≡ up_to l.x (into (word_edge l.words) l.s)
