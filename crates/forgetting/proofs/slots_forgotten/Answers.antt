-- `slots_forgotten` is the definition's table. The loop's invariant: the slots that it has passed have forgotten the number. Assumes nothing.
use native.Mathlib.Omega.{arith}
use Rattle.table.specs.Cells.{empty_slot}
use Rattle.table.proofs.Value.{slots_long}
use Rattle.forgetting.specs.Forgetting.{unnamed}
use Rattle.forgetting.proofs.Mapped.{mapped_none, mapped_more, slots_done}
use Rattle.forgetting.proofs.slots_forgotten.Goals as goal

pub slots-init : goal.slots-init
slots-init c = mapped_none _ _

pub slots-preserved : goal.slots-preserved
slots-preserved c = let z = slots_long c.args.t _ c.well_formed.0 in
    mapped_more (unnamed c.args.g) c.slots.c-index c.args.t.slots _ empty_slot _ (omega arith) c.slots.invariant c.unnamed.ensures

pub returns : goal.returns
returns c = slots_done c.args.t _ c.args.g c.slots.c-index (slots_long c.args.t _ c.well_formed.0) c.slots-test.false c.slots.auto.c-index-end c.slots.invariant
