-- `landed` is the definition's landing, by its one test. Assumes nothing.
use mathlib.Core.Path.{sym, ◌∙◌}
use Rattle.copies.proofs.Landing.{landed_empty, landed_filled}
use Rattle.copies.proofs.landed.Goals as goal

pub returns-then-is_empty : goal.returns-then-is_empty
returns-then-is_empty c = sym (landed_empty c.args.old c.args.copy (sym c.is_empty.ensures ∙ c.if-is_empty.true))

pub returns : goal.returns
returns c = sym (landed_filled c.args.old c.args.copy (sym c.is_empty.ensures ∙ c.if-is_empty.false))
