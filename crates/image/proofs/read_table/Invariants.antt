use Prim.Native.Nat.{◌*◌}
use Rattle.image.proofs.Load.{ReadTo}
use Rattle.image.proofs.read_table.Given as goal

abbrev pub invariant-records : goal.invariant-records
invariant-records l = ReadTo l.v l.image l.t l.n (l.n * 8)
