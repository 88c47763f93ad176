use Rattle.std.proofs.Common.{◌≡◌, ℕ, ◌<◌, length, get_or}
use Rattle.requests.specs.Asks.{no_pair}
use Rattle.wire.specs.Helpers.{pair_at}
use Rattle.wire.proofs.pairs_in.Given as goal

abbrev pub invariant-loop-k : goal.invariant-loop-k
invariant-loop-k l = (length l.pair-items ≡ 4) × ((j : ℕ) → j < l.k → get_or l.pair-items j no_pair ≡ pair_at l.bytes j)
