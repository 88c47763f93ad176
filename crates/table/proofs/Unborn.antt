-- "The wholly unborn table is sound", computed. Assumes nothing.
use mathlib.Core.Path.{◌≡◌, refl}
use mathlib.Core.Bool.{true}
use Rattle.mask.specs.Sets.{all_below}
use Rattle.table.specs.Cells.{unborn_table}
use Rattle.table.specs.Soundness.{stock_sound, sound_at, sound}

pub unborn_sound_lem : sound unborn_table ≡ true
unfolding unborn_table all_below stock_sound sound_at sound
unborn_sound_lem = refl
