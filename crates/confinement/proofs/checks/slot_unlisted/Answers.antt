-- `slot_unlisted` is row 12 at one slot. Assumes nothing.
use Rattle.bounds.specs.StandIn.{entries_of}
use Rattle.confinement.proofs.Scans.{slot_of_other, slot_to_member, slot_outside}
use Rattle.confinement.proofs.checks.slot_unlisted.Goals as goal

pub returns-then-not-has : goal.returns-then-not-has
returns-then-not-has c = slot_of_other c.args.members c.args.n (entries_of c.args.l.list) c.args.c _ c.has.ensures c.if-not-has.true

pub returns-then-has : goal.returns-then-has
returns-then-has c = slot_to_member c.args.members c.args.n (entries_of c.args.l.list) c.args.c _ _ c.has.ensures c.if-not-has.false c.has-2.ensures c.if-has.true

pub returns : goal.returns
returns c = slot_outside c.args.members c.args.n (entries_of c.args.l.list) c.args.c _ _ _ c.has.ensures c.if-not-has.false c.has-2.ensures c.if-has.false c.passes.ensures
