-- `alone` meets its contract, by computing an empty list. Assumes nothing.
use mathlib.Core.Path.{refl}
use Rattle.table.specs.Lists.{tabulate, padded}
use Rattle.requests.specs.Asks.{held_pairs}
use Rattle.wire.proofs.alone.Goals as goal

pub returns : goal.returns
unfolding held_pairs padded tabulate
returns c = refl
