-- `image::read_slots` meets its contract. The loop's invariant: the first `j` slots are the part's. Assumes nothing.
use mathlib.Core.Path.{refl}
use native.Mathlib.Omega.{arith}
use lib.ListN.{length-set}
use Rattle.image.specs.Layout.{slot_from}
use Rattle.octets.proofs.Lists.{filled_none, filled_more, filled_all}
use Rattle.image.proofs.read_slots.Goals as goal

pub loop-j-init : goal.loop-j-init
loop-j-init c = (refl, filled_none (slot_from c.args.part.now))

pub loop-j-preserved : goal.loop-j-preserved
unfolding slot_from
loop-j-preserved c = (
  simp length-set c.loop-j.invariant.0,
  filled_more c.loop-j.j (slot_from c.args.part.now) c.loop-j.slot-items _ (omega arith) c.loop-j.invariant.1 refl,
)

pub returns : goal.returns
returns c = filled_all c.loop-j.j 8 (slot_from c.args.part.now) c.loop-j.slot-items c.loop-j.invariant.0 (omega arith) c.loop-j.invariant.1
