use Rattle.links.specs.Links.{word_edge}
use Rattle.relation.specs.Helpers.{count}
use Rattle.leads.specs.Helpers.{Joining}
use Rattle.leads.proofs.Grouping.{Grouping}
use Rattle.leads.proofs.group_words.Given as goal

abbrev pub invariant-loop-left : goal.invariant-loop-left
invariant-loop-left l = (j : Joining l.among (word_edge l.joins)) × Grouping (word_edge l.joins) (word_edge l.weak) l.among j l.left l.leading l.groups l.links

abbrev pub decreases-loop-left : goal.decreases-loop-left
decreases-loop-left l = count 64 l.left
