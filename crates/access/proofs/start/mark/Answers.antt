-- `mark` sets a bit for each of the four rights: the words are those of as many rights as the loop has passed. Assumes nothing.
use mathlib.Core.Path.{◌≡◌, ◌∙◌, ap}
use Prim.Native.Nat.{ℕ, ◌+◌, ◌*◌}
use native.Mathlib.Omega.{arith}
use lib.Bits.{bit_or}
use lib.ListN.{get_or, set}
use Rattle.mask.proofs.Words.{one_bit}
use Rattle.access.specs.Helpers.{mark_to}
use Rattle.relation.proofs.Feeds.{bit_set, bit_clear}
use Rattle.access.proofs.Marks.{mark_none, mark_on, mark_off}
use Rattle.access.proofs.start.mark.Goals as goal
use Rattle.access.proofs.start.mark.Goals.{else-rights-b-eq1, then-rights-b-eq1}

pub loop-b-init : goal.loop-b-init
loop-b-init c = mark_none _ _ _ _

pub loop-b-preserved : goal.loop-b-preserved
loop-b-preserved c = let b = c.loop-b.b in
    elim c.if-rights-b-eq1.branch [
      | then-rights-b-eq1 w ↦ mark_on _ _ _ c.args.x c.args.y c.args.rights b c.loop-b.invariant (bit_set c.args.rights b w.if-rights-b-eq1.true) (w.r-is ∙ ap (λ (m : ℕ). set c.loop-b.r (b * 64 + c.args.x) (bit_or (get_or c.loop-b.r (b * 64 + c.args.x) 0) m)) (one_bit c.args.y (omega arith)))
      | else-rights-b-eq1 w ↦ mark_off _ _ _ c.args.x c.args.y c.args.rights b c.loop-b.invariant (bit_clear c.args.rights b w.if-rights-b-eq1.false) w.r-is
    ]

pub returns : goal.returns
returns c = let e : c.loop-b.b ≡ 4 = omega arith in
    c.loop-b.invariant ∙ ap (mark_to c.args.r.now c.args.x c.args.y c.args.rights) e
