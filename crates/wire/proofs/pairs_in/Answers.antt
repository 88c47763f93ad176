-- `pairs_in` meets its contract: the loop writes each pair once. Assumes nothing.
use Rattle.std.proofs.Common.{◌<◌, ◌≢◌, ℕ, ap₂, length, arith, get_or-set_other, get_or-set_same, below_more, length-set}
use Rattle.table.proofs.Lists.{as_tabulate}
use Rattle.requests.specs.declared.Pair.{Pair}
use Rattle.requests.specs.Asks.{no_pair}
use Rattle.wire.specs.Helpers.{pair_at}
use Rattle.wire.proofs.pairs_in.Goals as goal

pub loop-k-preserved : goal.loop-k-preserved
loop-k-preserved c = (
  simp length-set c.loop-k.invariant.0,
  below_more _ _
      (λ j h. let ne : j ≢ c.loop-k.k = omega arith in rw get_or-set_other (c.loop-k.invariant.1 j h))
      (let lt : c.loop-k.k < length c.loop-k.pair-items = omega arith in
      rw get_or-set_same (ap₂ {C = Pair} (λ (x y : ℕ). record { from = x; to = y }) c.byte_at.ensures c.byte_at-in-loop-k.ensures)),
)

pub returns : goal.returns
returns c = as_tabulate 4 (pair_at c.args.bytes.now) no_pair c.loop-k.pair-items c.loop-k.invariant.0 (λ k h. c.loop-k.invariant.1 k (omega arith))
