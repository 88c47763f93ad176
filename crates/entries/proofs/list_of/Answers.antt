-- `list_of` meets its contract, by whether a byte is left over and how many entries there are. Assumes nothing.
use Rattle.entries.proofs.Lists.{held_odd, held_long, held_short}
use mathlib.Core.Path.{◌∙◌}
use Rattle.entries.proofs.list_of.Goals as goal

pub returns-then-bytes-ne0 : goal.returns-then-bytes-ne0
returns-then-bytes-ne0 c = c.too_long.ensures ∙ held_odd c.args.bytes.now c.if-bytes-ne0.true

pub returns-then-n-gt8 : goal.returns-then-n-gt8
returns-then-n-gt8 c = c.too_long-then-n-gt8.ensures ∙ held_long c.args.bytes.now c.if-bytes-ne0.false c.if-n-gt8.true

pub returns : goal.returns
returns c = held_short c.args.bytes.now c.if-bytes-ne0.false c.if-n-gt8.false _ c.entries_in-entries.ensures
