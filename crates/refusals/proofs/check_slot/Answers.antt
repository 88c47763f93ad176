-- `check_slot` tells rows 2 to 6 and what the slot holds, on a refusal too. The target's record is read without a test: in a sound table
-- every slot's target is below 64. Assumes nothing.
use Rattle.table.proofs.Cells.{Sized}
use Rattle.refusals.proofs.Rows.{placed, check_invalid, check_passed, check_failed}
use Rattle.refusals.proofs.Targets.{target_below}
use Rattle.refusals.proofs.check_slot.Goals as goal

pub returns-then-actor-s : goal.returns-then-actor-s
returns-then-actor-s c = check_invalid c.args.t.table.now c.args.actor c.args.s c.args.bad c.args.wanted c.args.need c.if-actor-s.true

pub bounds-t-g : goal.bounds-t-g
bounds-t-g c = let z : Sized c.args.t.table.now = record { records = c.args.t.long.0; slots = c.args.t.long.1 } in target_below c.args.t.table.now c.args.actor c.args.s z c.args.t.whole (placed c.args.actor c.args.s c.args.bad c.if-actor-s.false).slot

pub returns-in-Ok : goal.returns-in-Ok
returns-in-Ok c = let z : Sized c.args.t.table.now = record { records = c.args.t.long.0; slots = c.args.t.long.1 } in check_passed c.args.t.table.now c.args.actor c.args.s c.args.bad c.args.wanted c.args.need _ _ _ _ (record {
  placed = c.if-actor-s.false;
  right = c.need_met-met.ensures;
  target = c.is_born.ensures;
  other = c.wrong_status-why.ensures;
  rows = rw (c.is_alive.ensures, c.is_active.ensures, c.is_empty-empty.ensures) at c.first_of.ensures;
}) z c.args.t.whole c.in-Ok.is

pub returns-in-Err : goal.returns-in-Err
returns-in-Err c = check_failed c.args.t.table.now c.args.actor c.args.s c.args.bad c.args.wanted c.args.need _ _ _ _ (record {
  placed = c.if-actor-s.false;
  right = c.need_met-met.ensures;
  target = c.is_born.ensures;
  other = c.wrong_status-why.ensures;
  rows = rw (c.is_alive.ensures, c.is_active.ensures, c.is_empty-empty.ensures) at c.first_of.ensures;
}) _ c.in-Err.is
