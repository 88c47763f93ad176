use mathlib.Core.Path.{◌≡◌}
use Rattle.links.proofs.Loops.{slots_to}
use Rattle.links.proofs.slot_links.Given as goal

abbrev pub invariant-loop-k : goal.invariant-loop-k
invariant-loop-k l = l.r ≡ slots_to l.c-items l.among l.k
