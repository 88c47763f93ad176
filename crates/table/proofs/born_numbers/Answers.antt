-- `born_numbers` is the definition's set: the loop keeps that `born` has the born numbers among those that it has passed. Assumes nothing.
use mathlib.Core.Path.{sym, ◌∙◌, ap}
use Rattle.mask.specs.Sets.{including}
use Rattle.mask.proofs.UpTo.{up_none, up_on, up_off, up_all}
use Rattle.table.proofs.born_numbers.Goals as goal
use Rattle.table.proofs.born_numbers.Goals.{then-is_born, else-is_born}

pub born-init : goal.born-init
born-init c = up_none _

pub born-preserved : goal.born-preserved
born-preserved c = elim c.if-is_born.branch [
  | then-is_born w ↦ w.born-is ∙ w.with-born.ensures ∙ ap (including c.born.n) c.born.invariant ∙ up_on _ _ (sym c.is_born.ensures ∙ w.if-is_born.true)
  | else-is_born w ↦ w.born-is ∙ c.born.invariant ∙ up_off _ _ (sym c.is_born.ensures ∙ w.if-is_born.false)
]

pub returns : goal.returns
returns c = c.born.invariant ∙ up_all _ _ c.born-test.false
