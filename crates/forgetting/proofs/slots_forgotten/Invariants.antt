use mathlib.Core.Path.{◌≡◌}
use Rattle.forgetting.specs.Forgetting.{unnamed}
use Rattle.forgetting.proofs.Mapped.{map_first}
use Rattle.forgetting.proofs.slots_forgotten.Given as goal

abbrev pub invariant-slots : goal.invariant-slots
invariant-slots l = l.c-items ≡ map_first (unnamed l.g) l.c-index l.initial.c-items
