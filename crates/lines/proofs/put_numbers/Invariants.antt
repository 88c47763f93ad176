use mathlib.Core.Path.{◌≡◌}
use Prim.Native.Nat.{◌+◌}
use lib.ListN.{length}
use Rattle.lines.specs.Lines.{number_lines}
use Rattle.lines.specs.Helpers.{placed}
use Rattle.lines.proofs.put_numbers.Given as goal

abbrev pub invariant-loop-n : goal.invariant-loop-n
invariant-loop-n l = (l.next ≡ l.at + length (number_lines l.set l.n)) × (l.out ≡ placed l.initial.out l.at (number_lines l.set l.n))
