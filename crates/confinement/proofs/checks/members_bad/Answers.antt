-- `members_bad` is row 10: every member passed is alive. Assumes nothing.
use mathlib.Core.Path.{sym, ◌∙◌, ap}
use mathlib.Core.Bool.{Bool, not, ◌&&◌}
use native.Mathlib.Omega.{arith}
use Rattle.table.specs.Cells.{record_at, is_alive}
use Rattle.confinement.proofs.Scans.{member_dead, members_alive}
use Rattle.confinement.proofs.checks.members_bad.Goals as goal

pub returns-then-has-record : goal.returns-then-has-record
returns-then-has-record c = let n = c.loop-n.n in
    member_dead c.args.t c.args.members n c.loop-n-test.true (ap (λ (b : Bool). b && not (is_alive (record_at c.args.t n))) (sym c.has.ensures) ∙ c.if-has-record.true)

pub returns : goal.returns
returns c = members_alive _ _ c.ranges.members.fits (λ k h. c.loop-n.invariant k (omega (arith, c.loop-n-test.false)))
