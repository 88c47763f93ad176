-- `reclaimed` is the definition's table: by what the two calls that forget and the union ensure. Assumes nothing.
use mathlib.Core.Path.{◌∙◌, ap}
use Rattle.table.specs.declared.Table.{Table}
use Rattle.forgetting.specs.Forgetting.{makers_forgotten}
use Rattle.effects.proofs.Several.{reclaimed_is}
use Rattle.effects.proofs.reclaimed.Goals as goal

pub returns : goal.returns
returns c = reclaimed_is c.args.t _ c.args.a c.args.g _ (c.makers_forgotten-u.ensures ∙ ap (λ (v : Table). makers_forgotten v c.args.g) c.slots_forgotten-bare.ensures) c.with.ensures
