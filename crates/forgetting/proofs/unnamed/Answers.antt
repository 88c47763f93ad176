-- `unnamed` is the definition, return by return. Assumes nothing.
use mathlib.Core.Path.{sym}
use Rattle.forgetting.proofs.Left.{unnamed_named, unnamed_other}
use Rattle.forgetting.proofs.unnamed.Goals as goal

pub returns-then-c-g : goal.returns-then-c-g
returns-then-c-g c = sym (unnamed_named _ _ c.if-c-g.true)

pub returns-else-c-g : goal.returns-else-c-g
returns-else-c-g c = sym (unnamed_other _ _ c.if-c-g.false)
