use mathlib.Core.Path.{◌≡◌}
use lib.ListN.{length}
use Rattle.wire_out.proofs.Zeros.{list_to}
use Rattle.wire_out.proofs.with_list.Given as goal

abbrev pub invariant-loop-k : goal.invariant-loop-k
invariant-loop-k l = (length l.written ≡ 22) × (length l.initial.written ≡ 22) × (l.written ≡ list_to l.initial.written l.place l.fn.list l.k)
