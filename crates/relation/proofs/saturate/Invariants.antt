use Prim.Native.Nat.{◌-◌, ◌*◌, ◌^◌}
use Rattle.relation.specs.Helpers.{Full}
use Rattle.relation.proofs.Feeds.{total}
use Rattle.relation.proofs.Saturation.{Grown}
use Rattle.relation.proofs.saturate.Given as goal

abbrev pub invariant-loop-r : goal.invariant-loop-r
invariant-loop-r l = Full l.initial.r × Grown l.initial.r l.r

abbrev pub decreases-loop-r : goal.decreases-loop-r
decreases-loop-r l = 256 * 2 ^ 64 - total l.r
