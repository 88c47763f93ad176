-- `held_words`: the words have what the holders passed hold, each slot and each holder a law of Passed. Assumes nothing.
use mathlib.Core.Path.{refl, sym, ◌∙◌}
use mathlib.Core.Bool.{true≢false}
use native.Mathlib.Omega.{arith}
use Rattle.held.proofs.Passed.{joins_none, over_none, astray_none, Taking, take_none, take_end, take_past, take_more, take_skip, joins_more, over_more, astray_found, astray_more, joins_all, over_all, astray_all}
use Rattle.held.proofs.held_words.Goals as goal
use Rattle.held.proofs.held_words.Goals.{then-c-ne0, else-c-ne0, then-has+else-slots-test, else-has}

pub holders-init : goal.holders-init
holders-init c = (c.requires.0 ∙ joins_none c.args.slots c.args.among c.args.weakly, c.requires.1 ∙ over_none c.args.slots c.args.among c.args.weakly, astray_none c.args.slots c.args.among c.args.weakly)

pub slots-init : goal.slots-init
slots-init c = take_none c.args.slots c.args.among c.args.weakly _ _ _ refl (sym c.has.ensures ∙ c.if-has.true) c.holders.invariant.0

pub slots-preserved : goal.slots-preserved
slots-preserved c = elim c.if-c-ne0.branch [
  | then-c-ne0 w ↦ take_more c.args.slots c.args.among c.args.weakly _ _ (omega arith) (omega arith) _ _ _ _ _ _ c.slots.invariant w.if-c-ne0.true w.noted-h.ensures w.h-is w.joins-is
  | else-c-ne0 w ↦ take_skip c.args.slots c.args.among c.args.weakly _ _ (omega arith) (omega arith) _ _ _ _ c.slots.invariant (omega arith) w.h-is w.joins-is
]

pub returns-then-h-inside : goal.returns-then-h-inside
returns-then-h-inside c = let t = c.args.slots in let n = c.args.among in let k = c.args.weakly in let p : Taking t n k _ 8 _ _ _ _ = elim c.if-has.branch [
  | then-has+else-slots-test w ↦ take_end t n k _ _ _ _ _ _ w.slots-test.false w.slots.invariant w.joins-is w.h-is
  | else-has w ↦ take_past t n k _ _ _ _ _ (sym c.has.ensures ∙ w.if-has.false) c.holders.invariant.0 w.joins-is w.h-is refl refl refl
] in (astray_found t n k _ _ _ _ _ _ (omega arith) (omega arith) p c.ranges.among.fits _ c.subset-inside.ensures c.if-h-inside.true, λ e. absurd (true≢false e))

pub holders-preserved : goal.holders-preserved
holders-preserved c = let t = c.args.slots in let n = c.args.among in let k = c.args.weakly in let p : Taking t n k _ 8 _ _ _ _ = elim c.if-has.branch [
  | then-has+else-slots-test w ↦ take_end t n k _ _ _ _ _ _ w.slots-test.false w.slots.invariant w.joins-is w.h-is
  | else-has w ↦ take_past t n k _ _ _ _ _ (sym c.has.ensures ∙ w.if-has.false) c.holders.invariant.0 w.joins-is w.h-is refl refl refl
] in (joins_more t n k _ _ _ _ _ _ (omega arith) (omega arith) p c.ranges.among.fits _ c.subset-inside.ensures c.if-h-inside.false _ c.union.ensures, over_more t n k _ _ _ _ _ _ (omega arith) (omega arith) p c.ranges.among.fits _ c.subset-inside.ensures c.if-h-inside.false _ c.holders.invariant.1, astray_more t n k _ _ _ _ _ _ (omega arith) (omega arith) p c.ranges.among.fits _ c.subset-inside.ensures c.if-h-inside.false c.holders.invariant.2)

pub returns : goal.returns
returns c = (astray_all _ _ c.args.weakly _ (omega arith) (omega arith) c.holders.invariant.2, λ e. (joins_all _ _ c.args.weakly _ _ (omega arith) (omega arith) c.holders.invariant.0, over_all _ _ c.args.weakly _ _ (omega arith) (omega arith) c.holders.invariant.1))
