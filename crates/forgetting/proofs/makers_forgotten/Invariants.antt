use mathlib.Core.Path.{◌≡◌}
use Rattle.forgetting.specs.Forgetting.{unmade}
use Rattle.forgetting.proofs.Mapped.{map_first}
use Rattle.forgetting.proofs.makers_forgotten.Given as goal

abbrev pub invariant-makers : goal.invariant-makers
invariant-makers l = l.r-items ≡ map_first (unmade l.g) l.r-index l.initial.r-items
