use mathlib.Core.Path.{◌≡◌}
use Rattle.table.specs.Lists.{tabulate}
use Rattle.requests.specs.Asks.{pair_at}
use Rattle.copies.specs.Copies.{copy_pairs}
use Rattle.copies.specs.Helpers.{cell_of}
use Rattle.copies.proofs.copy_pairs.Given as goal

abbrev pub invariant-pairs : goal.invariant-pairs
invariant-pairs l = l.u ≡ copy_pairs l.initial.u (cell_of l.row) l.n (tabulate l.p-index (pair_at l.fn.l))
