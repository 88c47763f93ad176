use mathlib.Core.Path.{◌≡◌}
use Prim.Native.Nat.{◌*◌}
use lib.ListN.{length, take}
use Rattle.image.specs.Layout.{slots_bytes}
use Rattle.image_out.proofs.write_slots.Given as goal

abbrev pub invariant-loop-j : goal.invariant-loop-j
invariant-loop-j l = (length l.bytes ≡ 16) × (take (2 * l.j) l.bytes ≡ slots_bytes l.slot-items l.j)
