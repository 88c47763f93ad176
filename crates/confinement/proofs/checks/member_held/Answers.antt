-- `member_held` is row 13: every slot passed is fine. Assumes nothing.
use Rattle.confinement.proofs.Scans.{member_found, member_missing}
use Rattle.confinement.proofs.checks.member_held.Goals as goal

pub returns-then-slot_names_member : goal.returns-then-slot_names_member
returns-then-slot_names_member c = member_found c.args.t _ _ _ c.loop-k-test.true c.slot_names_member.ensures c.if-slot_names_member.true

pub returns : goal.returns
returns c = member_missing c.args.t _ _ c.loop-k-test.false c.loop-k.invariant
