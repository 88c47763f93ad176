-- `too_long` is what it says, by computing. Assumes nothing.
use mathlib.Core.Path.{refl}
use Rattle.entries.proofs.too_long.Goals as goal

pub returns : goal.returns
returns c = refl
