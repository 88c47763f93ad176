-- `grown` is one round: what is there, and what is one edge from a number passed that is there. Assumes nothing.
use mathlib.Core.Path.{refl, sym, ◌∙◌, ap}
use Prim.Native.Nat.{ℕ}
use native.Mathlib.Omega.{arith}
use lib.ListN.{get_or}
use Rattle.mask.specs.Sets.{union_of}
use Rattle.links.specs.Links.{word_edge}
use Rattle.links.proofs.Walks.{grown_none, grown_on, grown_off, grown_all}
use Rattle.links.proofs.grown.Goals as goal
use Rattle.links.proofs.grown.Goals.{else-has, then-has}

pub loop-x-init : goal.loop-x-init
loop-x-init c = grown_none _ _ c.ranges.s.fits

pub loop-x-preserved : goal.loop-x-preserved
loop-x-preserved c = let e = sym c.has.ensures in
    let edge = word_edge c.args.words.now in
    elim c.if-has.branch [
      | then-has w ↦ w.found-is ∙ w.union-found.ensures ∙ ap (λ (m : ℕ). union_of m (get_or c.args.words.now c.loop-x.x 0)) c.loop-x.invariant
          ∙ grown_on edge c.args.s c.loop-x.x _ (λ y. refl) (e ∙ w.if-has.true)
      | else-has w ↦ w.found-is ∙ c.loop-x.invariant ∙ grown_off edge c.args.s c.loop-x.x (e ∙ w.if-has.false)
    ]

pub returns : goal.returns
returns c = c.loop-x.invariant ∙ grown_all _ _ _ (omega arith) (omega arith)
