-- `held_words` is the marks of the definition, one number and then one slot after another. Assumes nothing.
use mathlib.Core.Path.{◌≡◌, sym, ◌∙◌, ap, ap₂}
use mathlib.Core.Bool.{Bool, true, false, ◌&&◌}
use Prim.Native.Nat.{◌/◌}
use native.Mathlib.Omega.{arith}
use Rattle.mask.specs.Sets.{has}
use Rattle.mask.proofs.Tests.{and_true}
use Rattle.access.specs.Helpers.{own_marks, slot_marks}
use Rattle.access.proofs.Marks.{has_low}
use Rattle.access.proofs.StartWords.{own_none, own_step, slot_none, slot_step}
use Rattle.access.proofs.start.held_words.Goals as goal
use Rattle.access.proofs.start.held_words.Goals.{then-has, else-has, then-has-2, else-has-2}

pub own-init : goal.own-init
own-init c = own_none _

pub own-preserved : goal.own-preserved
own-preserved c = elim c.if-has.branch [
  | then-has w ↦ own_step _ _ true _ _ (sym w.if-has.true ∙ c.has.ensures) c.own.invariant (w.r-is ∙ w.mark.ensures)
  | else-has w ↦ own_step _ _ false _ _ (sym w.if-has.false ∙ c.has.ensures) c.own.invariant w.r-is
]

pub slots-init : goal.slots-init
slots-init c = let e : c.own.i ≡ 64 = omega arith in c.own.invariant ∙ ap (own_marks c.args.nodes) e ∙ slot_none _ _ _

pub mark-requires-then-has-2 : goal.mark-requires-then-has-2
mark-requires-then-has-2 c = let on = ap₂ (λ (x y : Bool). x && y) c.has-in-slots.ensures c.has-in-slots-2.ensures in
    (omega arith, has_low _ _ c.ranges.among.fits (and_true (has (c.slots.j / 8) c.args.among) _ (sym on ∙ c.if-has-2.true)).1)

pub slots-preserved : goal.slots-preserved
slots-preserved c = let on = ap₂ (λ (x y : Bool). x && y) c.has-in-slots.ensures c.has-in-slots-2.ensures in
    elim c.if-has-2.branch [
      | then-has-2 w ↦ slot_step _ _ _ _ true _ _ (sym w.if-has-2.true ∙ on) c.slots.invariant (w.r-is ∙ w.mark-then-has-2.ensures)
      | else-has-2 w ↦ slot_step _ _ _ _ false _ _ (sym w.if-has-2.false ∙ on) c.slots.invariant w.r-is
    ]

pub returns : goal.returns
returns c = let e : c.slots.j ≡ 512 = omega arith in
    c.slots.invariant ∙ ap (slot_marks c.args.slots c.args.among (own_marks c.args.nodes 64)) e
