-- `group_at`: who is joined to nobody reaches itself alone; else what a spread reaches. Assumes nothing.
use mathlib.Core.Path.{◌∙◌, ap}
use Rattle.links.specs.declared.Spread.{Spread}
use Rattle.leads.proofs.Grouping.{alone_group, spread_set}
use Rattle.leads.proofs.group_at.Goals as goal

pub returns-then-joins-x-eq0 : goal.returns-then-joins-x-eq0
returns-then-joins-x-eq0 c = alone_group c.args.joins.now _ _ c.if-joins-x-eq0.true c.alone.ensures

pub returns : goal.returns
returns c = ap (λ (s : Spread). s.set) c.spread-spread.ensures ∙ spread_set _ _
