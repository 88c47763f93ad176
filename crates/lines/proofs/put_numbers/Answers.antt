-- `lines::put_numbers` meets its contract. The loop's invariant: the lines of the set's numbers below `n` have been put, and `next` is
-- the place after them. A line has at most three bytes, so all fit. Assumes nothing.
use native.Mathlib.Omega.{arith}
use Rattle.lines.proofs.Buffers.{length_lines, lines_none, lines_more}
use Rattle.lines.proofs.put_numbers.Goals as goal

pub loop-n-init : goal.loop-n-init
loop-n-init c = lines_none c.args.set c.args.out.now c.args.at

pub put_if-next-requires : goal.put_if-next-requires
put_if-next-requires c = omega (arith, length_lines c.args.set c.loop-n.n)

pub loop-n-preserved : goal.loop-n-preserved
loop-n-preserved c = let p = c.put_if-next.ensures in
    lines_more c.args.set c.args.out.now c.args.at c.loop-n.n c.loop-n.next _ c.loop-n.out _ (omega arith) c.loop-n.invariant.0 c.loop-n.invariant.1 p.next p.left
