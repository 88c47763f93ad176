-- `allocate` comes to its outcome: its fields, its actor and its stock decide in turn, and the effect is what `allocated` ensures. By the
-- laws of a request through no slot. Assumes nothing.
use mathlib.Core.Path.{refl}
use Rattle.effects.specs.Effects.{effect}
use Rattle.refusals.proofs.Rows.{refuse_yes, refuse_no}
use Rattle.steps.proofs.Ways.{invalid_outcome, unfit_outcome, later_refused, later_done}
use Rattle.steps.proofs.Uses.{allocate_fields, allocate_placed, allocate_later}
use Rattle.kernel.proofs.allocate.Goals as goal

pub returns-then-actor-n : goal.returns-then-actor-n
returns-then-actor-n c = invalid_outcome c.args.t.table.now c.args.t.whole (allocate_fields c.list_bad.ensures) c.if-actor-n.true

pub returns-then-is_alive-is_active : goal.returns-then-is_alive-is_active
returns-then-is_alive-is_active c = unfit_outcome c.args.t.table.now c.args.t.whole (allocate_fields c.list_bad.ensures) c.if-actor-n.false (rw (c.is_alive.ensures, c.is_active.ensures) at c.if-is_alive-is_active.true)

pub without-requires : goal.without-requires
without-requires c = (allocate_placed c.args.actor c.args.n c.args.kind c.args.i c.args.l c.list_bad.ensures c.if-actor-n.false).number

pub returns-then-has-subset : goal.returns-then-has-subset
returns-then-has-subset c = later_refused c.args.t.whole (allocate_fields c.list_bad.ensures) c.if-actor-n.false (rw (c.is_alive.ensures, c.is_active.ensures) at c.if-is_alive-is_active.false) (allocate_later refl c.has.ensures c.without.ensures c.subset.ensures)
    (refuse_yes _ _ _ c.if-has-subset.true)

pub allocated-requires : goal.allocated-requires
allocated-requires c = let p = allocate_placed c.args.actor c.args.n c.args.kind c.args.i c.args.l c.list_bad.ensures c.if-actor-n.false in
    (p.actor, (p.number, (p.slot, p.list)))

pub returns : goal.returns
unfolding effect
returns c = later_done c.args.t.whole (allocate_fields c.list_bad.ensures) c.if-actor-n.false (rw (c.is_alive.ensures, c.is_active.ensures) at c.if-is_alive-is_active.false) (allocate_later refl c.has.ensures c.without.ensures c.subset.ensures)
    (refuse_no _ _ _ c.if-has-subset.false) c.allocated.ensures
