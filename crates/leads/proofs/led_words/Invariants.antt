use mathlib.Core.Path.{◌≡◌}
use lib.ListN.{length}
use Rattle.mask.specs.Sets.{less_of}
use Rattle.relation.specs.Helpers.{count}
use Rattle.leads.specs.Helpers.{Settled}
use Rattle.leads.proofs.led_words.Given as goal

abbrev pub invariant-loop-left : goal.invariant-loop-left
invariant-loop-left l = Settled l.groups l.links l.settled l.rows × (l.left ≡ less_of l.among l.settled) × (length l.path ≡ 64)

abbrev pub decreases-loop-left : goal.decreases-loop-left
decreases-loop-left l = count 64 l.left
