-- `leading_with`: a group more exactly where it leads on. Assumes nothing.
use Rattle.leads.proofs.Grouping.{lead_kept, lead_more}
use Rattle.leads.proofs.leading_with.Goals as goal

pub returns-then-led-group : goal.returns-then-led-group
returns-then-led-group c = lead_kept _ _ _ c.if-led-group.true

pub returns-else-led-group : goal.returns-else-led-group
returns-else-led-group c = lead_more _ _ _ _ c.union.ensures
