-- `take_grant::entities` meets its contract. The loops' invariants, `Taken` and `Within`: the entities so far, in the last of them the capabilities
-- so far, and the table that they are. Each way out is a law of these. Assumes nothing.
use mathlib.Core.Path.{sym}
use native.Mathlib.Omega.{arith}
use Rattle.std.proofs.lemmas.Result.{err_from_is_err_and}
use Rattle.take_grant.proofs.Loops.{taken_none, count_none, count_bad, entity_begun, more_left, none_left, cap_more, cap_stop, entity_done}
use Rattle.take_grant.proofs.entities.Goals as goal

pub entities-init : goal.entities-init
entities-init c = taken_none c.args.bytes.now c.args.count c.unborn_table-t.result c.requires.1 c.unborn_table-t.ensures

pub returns-then-bytes-at : goal.returns-then-bytes-at
returns-then-bytes-at c = sym (count_none c.args.bytes.now c.args.count c.entities.n c.entities.at c.entities.t c.entities.invariant (omega arith) (omega arith))

pub returns-then-capabilities-gt8 : goal.returns-then-capabilities-gt8
returns-then-capabilities-gt8 c = sym (count_bad c.args.bytes.now c.args.count c.entities.n c.entities.at c.entities.t c.entities.invariant (omega arith) (omega arith) (omega arith))

pub capabilities-init : goal.capabilities-init
capabilities-init c = entity_begun c.args.bytes.now c.args.count c.entities.n c.entities.at c.entities.t c.entities.invariant c.entity_record.result c.entity_record.ensures (omega arith) (omega arith) (omega arith)

pub returns-in_err-slot : goal.returns-in_err-slot
returns-in_err-slot c =
    let p = err_from_is_err_and c.from_residual.result c.from_residual.ensures.1 in
    rw (p.1, p.2) (sym (cap_stop c.args.bytes.now c.args.count _ _ _ c.capabilities.k c.capabilities.at c.capabilities.t c.capabilities.invariant c.held_at.result c.in_err-slot.field-0.0 (omega arith) (omega arith) c.held_at.ensures c.in_err-slot.was))

pub capabilities-preserved : goal.capabilities-preserved
capabilities-preserved c = cap_more c.args.bytes.now c.args.count _ _ _ c.capabilities.k c.capabilities.at c.capabilities.t c.capabilities.invariant c.held_at.result c.in_ok-slot.slot (omega arith) (omega arith) c.held_at.ensures c.in_ok-slot.was

pub entities-preserved : goal.entities-preserved
entities-preserved c = entity_done c.args.bytes.now c.args.count _ _ _ c.capabilities.k c.capabilities.at c.capabilities.t c.capabilities.invariant (omega arith)

pub returns-then-at-bytes : goal.returns-then-at-bytes
returns-then-at-bytes c = sym (more_left c.args.bytes.now c.args.count c.entities.n c.entities.at c.entities.t c.entities.invariant (omega arith) (omega arith))

pub returns : goal.returns
returns c = none_left c.args.bytes.now c.args.count c.entities.n c.entities.at c.entities.t c.entities.invariant (omega arith) (omega arith)
