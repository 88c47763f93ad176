use lib.ListN.{length}
use Rattle.octets.proofs.BigEndian.{Put}
use Rattle.octets.proofs.put_number.Given as goal

abbrev pub invariant-loop-i : goal.invariant-loop-i
invariant-loop-i l = Put l.n (length l.initial.bytes) l.bytes l.rest l.i
