-- `maker_left` is the definition, return by return. Assumes nothing.
use mathlib.Core.Path.{sym}
use Rattle.forgetting.proofs.Left.{left_named, left_other}
use Rattle.forgetting.proofs.maker_left.Goals as goal

pub returns-then-maker-g : goal.returns-then-maker-g
returns-then-maker-g c = sym (left_named _ _ c.if-maker-g.true)

pub returns-else-maker-g : goal.returns-else-maker-g
returns-else-maker-g c = sym (left_other _ _ c.if-maker-g.false)
