-- `list_bad` is the definition's test: a count above 4 is refused at once, else the pairs below the count are tested. Assumes nothing.
use native.Mathlib.Omega.{arith}
use mathlib.Core.Path.{◌≡◌}
use lib.ListN.{length}
use Rattle.refusals.proofs.Lists.{long_bad, short_bad, slots_found}
use Rattle.refusals.proofs.list_bad.Goals as goal

pub returns-then-count-gt4 : goal.returns-then-count-gt4
returns-then-count-gt4 c = long_bad c.args.l c.if-count-gt4.true

pub returns : goal.returns
returns c = let z : length c.args.l.pairs ≡ 4 = omega arith in
    short_bad c.args.l _ c.if-count-gt4.false z (slots_found _ _ c.slots_bad.ensures)
