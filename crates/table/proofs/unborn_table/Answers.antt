-- `unborn_table` is the wholly unborn table, by computing. Assumes nothing.
use mathlib.Core.Path.{refl}
use Rattle.table.specs.Cells.{unborn_table}
use Rattle.table.proofs.unborn_table.Goals as goal

pub returns : goal.returns
unfolding unborn_table
returns c = refl
