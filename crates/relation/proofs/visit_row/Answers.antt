-- `visit_row` is the rules at every pair of the holder: the words are those of as many pairs as the loop has passed, and a holder with
-- no right has every pair shut. Assumes nothing.
use mathlib.Core.Path.{sym, ◌∙◌}
use Rattle.relation.proofs.Feeds.{row_none, row_step, row_shut}
use Rattle.relation.proofs.visit_row.Goals as goal

pub loop-y-init : goal.loop-y-init
loop-y-init c = row_none _ _

pub loop-y-preserved : goal.loop-y-preserved
loop-y-preserved c = row_step _ _ _ _ _ c.loop-y.invariant c.visit.ensures

pub returns-else-over-ne0 : goal.returns-else-over-ne0
returns-else-over-ne0 c = row_shut c.args.r.now c.args.x 64 (sym c.held_over-over.ensures ∙ c.if-over-ne0.false)
