use mathlib.Core.Path.{◌≡◌}
use Rattle.links.specs.Links.{joined, entry_link}
use Rattle.links.proofs.with_entries.Given as goal

abbrev pub invariant-loop-c : goal.invariant-loop-c
invariant-loop-c l = l.r ≡ joined l.initial.r (entry_link l.fn.entries l.c-index l.among l.x)
