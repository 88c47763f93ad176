-- `right_unlisted` is row 12: every slot passed is fine. Assumes nothing.
use Rattle.confinement.proofs.Scans.{unlisted_found, unlisted_missing}
use Rattle.confinement.proofs.checks.right_unlisted.Goals as goal

pub returns-then-slot_unlisted : goal.returns-then-slot_unlisted
returns-then-slot_unlisted c = unlisted_found c.args.t _ _ _ _ c.loop-k-test.true c.slot_unlisted.ensures c.if-slot_unlisted.true

pub returns : goal.returns
returns c = unlisted_missing c.args.t _ _ _ c.loop-k-test.false c.loop-k.invariant
