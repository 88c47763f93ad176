-- `through`: the numbers that are put and those that are left are the walk. Assumes nothing.
use mathlib.Core.Path.{refl, ◌∙◌, ap}
use Prim.Native.Nat.{◌-◌}
use native.Mathlib.Omega.{arith}
use lib.ListN.{get_or}
use Rattle.links.specs.Links.{word_edge}
use Rattle.bounds.specs.StandIn.{stand_in}
use Rattle.walks.proofs.Loops.{next_shared, walking_none, next_low, walking_more, walking_end}
use Rattle.walks.proofs.through.Goals as goal

pub loop-i-init : goal.loop-i-init
loop-i-init c = walking_none _ _ _ _ _ c.requires.0 refl c.requires.2

pub bounds-words-at : goal.bounds-words-at
bounds-words-at c = c.loop-i.invariant.low

pub overflow_cast-numbers : goal.overflow_cast-numbers
overflow_cast-numbers c = let m = c.args.layers.count - 1 - c.loop-i.i in
    let e = c.lowest-next.ensures ∙ ap stand_in c.common.ensures ∙ next_shared c.args.words.now c.loop-i.at (get_or c.args.layers.sets m 0) in
    let h = next_low (word_edge c.args.words.now) c.args.x c.args.layers.sets c.args.layers.count c.loop-i.numbers c.loop-i.at c.loop-i.i m (omega arith) c.loop-i.invariant in
    omega (arith, e, h)

pub loop-i-preserved : goal.loop-i-preserved
loop-i-preserved c = let m = c.args.layers.count - 1 - c.loop-i.i in
    let e = c.lowest-next.ensures ∙ ap stand_in c.common.ensures ∙ next_shared c.args.words.now c.loop-i.at (get_or c.args.layers.sets m 0) in
    walking_more (word_edge c.args.words.now) c.args.x c.args.layers.sets c.args.layers.count c.loop-i.numbers _ c.loop-i.at c.loop-i.i m _ _ c.requires.1 (omega arith) e refl refl c.loop-i.invariant

pub returns : goal.returns
returns c = let w = walking_end (word_edge c.args.words.now) c.args.x c.args.layers.sets c.args.layers.count c.loop-i.numbers c.loop-i.at c.loop-i.i (omega arith) c.loop-i.invariant in
    λ i. record { numbers = w.0 i; count = w.1 i }
