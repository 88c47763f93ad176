use mathlib.Core.Path.{◌≡◌}
use mathlib.Core.Bool.{true}
use Rattle.mask.specs.Sets.{all_below}
use Rattle.table.specs.Soundness.{slot_sound}
use Rattle.table.proofs.Scan.{taken_below, good_at}
use Rattle.table.proofs.Glances.{glance_over}
use Rattle.table.proofs.is_sound.Given as goal

abbrev pub invariant-glance : goal.invariant-glance
invariant-glance l = l.g ≡ glance_over l.t l.n l.k

abbrev pub invariant-slots : goal.invariant-slots
invariant-slots l = (l.ok ≡ true) × (all_below l.j (slot_sound l.t l.n) ≡ true)

abbrev pub invariant-scan : goal.invariant-scan
invariant-scan l = (l.ok ≡ true) × (l.taken ≡ taken_below l.t l.n) × (all_below l.n (good_at l.t) ≡ true)
