use mathlib.Core.Path.{◌≡◌}
use Prim.Native.Nat.{ℕ, ◌≤◌, ◌<◌}
use lib.ListN.{get_or}
use Rattle.mask.specs.Sets.{less_of}
use Rattle.chains.proofs.less_words.Given as goal

abbrev pub invariant-loop-w : goal.invariant-loop-w
invariant-loop-w l = ((k : ℕ) → k < l.w-index → get_or l.w-items k 0 ≡ less_of (get_or l.fn.words k 0) l.members)
    × ((k : ℕ) → l.w-index ≤ k → get_or l.w-items k 0 ≡ get_or l.fn.words k 0)
