use mathlib.Core.Path.{◌≡◌}
use Prim.Native.Nat.{ℕ}
use lib.ListN.{get_or}
use Rattle.mask.proofs.UpTo.{up_to}
use Rattle.table.specs.Cells.{is_born, no_record}
use Rattle.table.proofs.born_numbers.Given as goal

abbrev pub invariant-born : goal.invariant-born
invariant-born l = l.born ≡ up_to l.n (λ (k : ℕ). is_born (get_or l.records k no_record))
