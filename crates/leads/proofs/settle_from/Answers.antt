-- `settle_from`: each turn of the walk is a law of Walking, and has less to do after it. Assumes nothing.
use native.Mathlib.Omega.{arith}
use Rattle.leads.proofs.Walking.{walk_start, walk_ready, less_ready, walk_here, less_here, walk_push, less_push, not_first, walk_merge, less_merge, walk_end, walk_pop, less_pop}
use Rattle.leads.proofs.settle_from.Goals as goal

pub walk-init : goal.walk-init
walk-init c = (c.requires.0, walk_start _ _ c.requires.0 _ _ _ _ _ _ c.requires.1 c.requires.2 c.requires.3 c.requires.4 c.requires.5 c.less-free.ensures)

pub walk-smaller-then-ready-ne0 : goal.walk-smaller-then-ready-ne0
walk-smaller-then-ready-ne0 c = less_ready _ _ c.walk.invariant.0 _ _ _ _ _ _ _ _ _ _ _ c.walk.invariant.1 c.less-left.ensures _ _ _ _ c.common-ready.ensures c.lowest-z.ensures c.union-s.ensures c.union-looked.ensures

pub walk-preserved-then-ready-ne0 : goal.walk-preserved-then-ready-ne0
walk-preserved-then-ready-ne0 c = (c.walk.invariant.0, walk_ready _ _ c.walk.invariant.0 _ _ _ _ _ _ _ _ _ _ _ c.walk.invariant.1 c.less-left.ensures _ _ _ _ c.common-ready.ensures c.lowest-z.ensures c.union-s.ensures c.union-looked.ensures)

pub walk-smaller-then-depth-lt64 : goal.walk-smaller-then-depth-lt64
walk-smaller-then-depth-lt64 c = less_push _ _ c.walk.invariant.0 _ _ _ _ _ _ _ _ _ _ _ c.walk.invariant.1 c.less-left.ensures _ _ c.common-fresh.ensures c.lowest-y.ensures (omega arith) _ c.less-free-then-depth-lt64.ensures

pub walk-preserved-then-depth-lt64 : goal.walk-preserved-then-depth-lt64
walk-preserved-then-depth-lt64 c = (c.walk.invariant.0, walk_push _ _ c.walk.invariant.0 _ _ _ _ _ _ _ _ _ _ _ c.walk.invariant.1 c.less-left.ensures _ _ c.common-fresh.ensures c.lowest-y.ensures (omega arith) _ c.less-free-then-depth-lt64.ensures)

pub walk-smaller-then-fresh-ne0 : goal.walk-smaller-then-fresh-ne0
walk-smaller-then-fresh-ne0 c = less_here _ _ c.walk.invariant.0 _ _ _ _ _ _ _ _ _ _ _ c.walk.invariant.1 c.less-left.ensures _ _ c.common-fresh.ensures c.lowest-y.ensures _ _ c.union-s-then-fresh-ne0.ensures c.union-looked-then-fresh-ne0.ensures

pub walk-preserved-then-fresh-ne0 : goal.walk-preserved-then-fresh-ne0
walk-preserved-then-fresh-ne0 c = (c.walk.invariant.0, walk_here _ _ c.walk.invariant.0 _ _ _ _ _ _ _ _ _ _ _ c.walk.invariant.1 c.less-left.ensures _ _ c.common-fresh.ensures c.lowest-y.ensures _ _ c.union-s-then-fresh-ne0.ensures c.union-looked-then-fresh-ne0.ensures)

pub overflow_sub-depth : goal.overflow_sub-depth
overflow_sub-depth c = omega (arith, not_first _ _ c.walk.invariant.0 _ _ _ _ _ _ _ _ _ _ _ c.walk.invariant.1 c.less-left.ensures _ _ c.common-ready.ensures (omega (arith, c.if-ready-ne0.false)) c.common-fresh.ensures (omega (arith, c.if-fresh-ne0.false)) (omega (arith, c.if-left-ne0.true)))

pub offset_bounds-path-depth-then-left-ne0 : goal.offset_bounds-path-depth-then-left-ne0
offset_bounds-path-depth-then-left-ne0 c = omega (arith, c.walk.invariant.1.deep)

pub bounds-path-depth-then-left-ne0 : goal.bounds-path-depth-then-left-ne0
bounds-path-depth-then-left-ne0 c = omega (arith, c.walk.invariant.1.deep)

pub walk-smaller-then-left-ne0 : goal.walk-smaller-then-left-ne0
walk-smaller-then-left-ne0 c = less_merge _ _ c.walk.invariant.0 _ _ _ _ _ _ _ _ _ _ _ c.walk.invariant.1 c.less-left.ensures _ _ c.common-ready.ensures (omega (arith, c.if-ready-ne0.false)) c.common-fresh.ensures (omega (arith, c.if-fresh-ne0.false)) (omega (arith, c.if-left-ne0.true)) _ _ _ _ (omega (arith, not_first _ _ c.walk.invariant.0 _ _ _ _ _ _ _ _ _ _ _ c.walk.invariant.1 c.less-left.ensures _ _ c.common-ready.ensures (omega (arith, c.if-ready-ne0.false)) c.common-fresh.ensures (omega (arith, c.if-fresh-ne0.false)) (omega (arith, c.if-left-ne0.true)))) c.union-objects.ensures c.union-s-then-left-ne0.ensures c.union-looked-then-left-ne0.ensures

pub walk-preserved-then-left-ne0 : goal.walk-preserved-then-left-ne0
walk-preserved-then-left-ne0 c = (c.walk.invariant.0, walk_merge _ _ c.walk.invariant.0 _ _ _ _ _ _ _ _ _ _ _ c.walk.invariant.1 c.less-left.ensures _ _ c.common-ready.ensures (omega (arith, c.if-ready-ne0.false)) c.common-fresh.ensures (omega (arith, c.if-fresh-ne0.false)) (omega (arith, c.if-left-ne0.true)) _ _ _ _ (omega (arith, not_first _ _ c.walk.invariant.0 _ _ _ _ _ _ _ _ _ _ _ c.walk.invariant.1 c.less-left.ensures _ _ c.common-ready.ensures (omega (arith, c.if-ready-ne0.false)) c.common-fresh.ensures (omega (arith, c.if-fresh-ne0.false)) (omega (arith, c.if-left-ne0.true)))) c.union-objects.ensures c.union-s-then-left-ne0.ensures c.union-looked-then-left-ne0.ensures)

pub put_each-requires : goal.put_each-requires
put_each-requires c = c.walk.invariant.1.now.long

pub returns-then-depth-eq0 : goal.returns-then-depth-eq0
returns-then-depth-eq0 c = (walk_end _ _ c.walk.invariant.0 _ _ _ _ _ _ _ _ _ _ _ c.walk.invariant.1 c.less-left.ensures (omega (arith, c.if-left-ne0.false)) _ c.put_each.ensures _ c.union-done.ensures (omega (arith, c.if-depth-eq0.true)), c.walk.invariant.1.path_long)

pub offset_bounds-path-depth-in-walk : goal.offset_bounds-path-depth-in-walk
offset_bounds-path-depth-in-walk c = omega (arith, c.walk.invariant.1.deep)

pub bounds-path-depth-in-walk : goal.bounds-path-depth-in-walk
bounds-path-depth-in-walk c = omega (arith, c.walk.invariant.1.deep)

pub walk-smaller : goal.walk-smaller
walk-smaller c = less_pop _ _ c.walk.invariant.0 _ _ _ _ _ _ _ _ _ _ _ c.walk.invariant.1 c.less-left.ensures (omega (arith, c.if-left-ne0.false)) _ c.put_each.ensures _ c.union-done.ensures _ _ _ (omega (arith, c.if-depth-eq0.false)) c.union-s-in-walk.ensures c.union-looked-in-walk.ensures

pub walk-preserved : goal.walk-preserved
walk-preserved c = (c.walk.invariant.0, walk_pop _ _ c.walk.invariant.0 _ _ _ _ _ _ _ _ _ _ _ c.walk.invariant.1 c.less-left.ensures (omega (arith, c.if-left-ne0.false)) _ c.put_each.ensures _ c.union-done.ensures _ _ _ (omega (arith, c.if-depth-eq0.false)) c.union-s-in-walk.ensures c.union-looked-in-walk.ensures)
