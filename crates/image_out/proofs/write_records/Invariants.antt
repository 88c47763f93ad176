use mathlib.Core.Path.{◌≡◌}
use Rattle.image_out.proofs.Store.{written_to}
use Rattle.image_out.proofs.write_records.Given as goal

abbrev pub invariant-records : goal.invariant-records
invariant-records l = l.buffer ≡ written_to l.v l.t l.initial.buffer l.n
