-- `with_list` meets its contract. The loop's invariant: behind what stood before the place are the count and the first `k` pairs, and zeros
-- after them. Assumes nothing.
use mathlib.Core.Path.{refl}
use native.Mathlib.Omega.{arith}
use lib.ListN.{length-set}
use lib.Seq.{get_or-take}
use Rattle.requests.specs.Asks.{no_pair}
use Rattle.wire_out.proofs.Zeros.{list_none, list_more, list_all}
use Rattle.wire_out.proofs.with_list.Goals as goal

pub loop-k-init : goal.loop-k-init
loop-k-init c = let b = length-set c.args.bytes c.args.place c.args.list.count in
    (omega arith, omega arith, list_none c.args.list c.args.place c.requires.1 c.args.bytes (omega arith) c.requires.2)

pub loop-k-preserved : goal.loop-k-preserved
loop-k-preserved c = let g = get_or-take c.from-n.result c.args.list.pairs c.loop-k.k no_pair (omega arith) in (
  simp length-set c.loop-k.invariant.0,
  c.loop-k.invariant.1,
  rw g (list_more c.args.list c.args.place c.requires.1 _ c.loop-k.invariant.1 _ c.loop-k.k _ (omega arith) refl c.loop-k.invariant.2),
)

pub returns : goal.returns
returns c = list_all c.args.list c.args.place c.requires.1 c.args.bytes (omega arith) _ c.loop-k.k (omega arith) c.loop-k.invariant.2
