-- `write_slots` meets its contract. The loop's invariant: the first `2 * j` bytes are those of the first `j` slots. Assumes nothing.
use mathlib.Core.Path.{◌≡◌, refl, ◌∙◌, sym, ap}
use Prim.Native.Nat.{◌*◌}
use native.Mathlib.Omega.{arith}
use lib.ListN.{length-set}
use lib.Seq.{take_all}
use Rattle.image.specs.Layout.{slots_bytes}
use Rattle.image_out.proofs.Store.{slots_more}
use Rattle.image_out.proofs.write_slots.Goals as goal

pub loop-j-init : goal.loop-j-init
unfolding slots_bytes
loop-j-init c = (c.requires, refl)

pub loop-j-preserved : goal.loop-j-preserved
loop-j-preserved c = (simp length-set c.loop-j.invariant.0, slots_more c.args.slots c.loop-j.bytes c.loop-j.j (omega arith) c.loop-j.invariant.1)

pub returns : goal.returns
returns c = let e : c.loop-j.j ≡ 8 = omega arith in
    sym (take_all (2 * c.loop-j.j) c.loop-j.bytes (omega arith)) ∙ c.loop-j.invariant.1 ∙ ap (slots_bytes c.args.slots) e
