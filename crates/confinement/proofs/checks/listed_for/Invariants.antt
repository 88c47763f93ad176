use mathlib.Core.Path.{◌≡◌}
use Rattle.bounds.specs.StandIn.{entries_of}
use Rattle.confinement.specs.Helpers.{listed_to}
use Rattle.confinement.proofs.checks.listed_for.Given as goal

abbrev pub invariant-loop-e : goal.invariant-loop-e
invariant-loop-e v = v.found ≡ listed_to (entries_of v.fn.l.list) v.target v.e-index
