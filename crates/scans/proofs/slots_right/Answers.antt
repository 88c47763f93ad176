-- `slots_right`: each way out is a law of Scanning. Assumes nothing.
use native.Mathlib.Omega.{arith}
use Rattle.scans.proofs.Scanning.{right_no, right_none, right_some}
use Rattle.scans.proofs.slots_right.Goals as goal

pub returns-then-h-odd : goal.returns-then-h-odd
returns-then-h-odd c = right_no c.args.r c.args.born c.args.h c.args.odd c.if-h-odd.true

pub returns-then-h-eq0 : goal.returns-then-h-eq0
returns-then-h-eq0 c = right_none c.args.r c.args.born c.args.h c.args.odd c.if-h-odd.false (omega (arith, c.if-h-eq0.true))

pub returns : goal.returns
returns c = rw c.is_alive.ensures (right_some c.args.r c.args.born c.args.h c.args.odd _ c.if-h-odd.false (λ z. omega (arith, z, c.if-h-eq0.false)) c.subset-inside.ensures)
