-- `scan_words`: records go as in the scan of `table`, slots as in `held`, and each record is a law of Scanning. Assumes nothing.
use mathlib.Core.Path.{sym, ◌∙◌, ap, refl}
use Prim.Native.Nat.{ℕ}
use native.Mathlib.Omega.{arith}
use Rattle.mask.specs.Sets.{union_of}
use Rattle.mask.proofs.Below.{all_none}
use Rattle.table.specs.Cells.{stock_at}
use Rattle.table.proofs.Scan.{taken_none, taken_more, scanned, stopped_at_record, good_more, opens_is}
use Rattle.table.proofs.Value.{records_long}
use Rattle.held.specs.Helpers.{everyone}
use Rattle.held.proofs.Passed.{joins_none, over_none, joins_all, over_all}
use Rattle.scans.proofs.Scanning.{note_none, note_end, note_empty, note_filled, words_joins, words_over, slots_good, slots_bad, born_outside_lem}
use Rattle.scans.proofs.scan_words.Goals as goal
use Rattle.scans.proofs.scan_words.Goals.{then-c-eq0, else-c-eq0}

pub scan-init : goal.scan-init
scan-init c = let k = c.args.weakly in (c.born_outside-born.ensures ∙ sym (born_outside_lem c.args.t) ∙ taken_none _, all_none _, c.requires.0 ∙ joins_none c.args.t.slots everyone k, c.requires.1 ∙ over_none c.args.t.slots everyone k)

pub returns-then-not-record_sound-maker_sound : goal.returns-then-not-record_sound-maker_sound
returns-then-not-record_sound-maker_sound c = let t = c.args.t in sym (stopped_at_record t _ c.scan-test.true (sym (opens_is t (records_long t _ c.well_formed.0) _ _ _ _ _ _ (c.born_outside-born.ensures ∙ sym (born_outside_lem c.args.t)) c.scan.invariant.0 c.record_sound.ensures c.maker_sound.ensures c.disjoint.ensures) ∙ c.if-not-record_sound-maker_sound.true))

pub slots-init : goal.slots-init
slots-init c = note_none c.args.t c.args.weakly _ _ _ (omega arith) refl refl refl c.scan.invariant.2

pub slots-preserved : goal.slots-preserved
slots-preserved c = elim c.if-c-eq0.branch [
  | then-c-eq0 w ↦ note_empty c.args.t c.args.weakly _ _ (omega arith) (omega arith) _ _ _ c.slots.invariant _ _ _ (omega arith) w.odd-is w.h-is w.joins-is
  | else-c-eq0 w ↦ note_filled c.args.t c.args.weakly _ _ (omega arith) (omega arith) _ _ _ c.slots.invariant _ _ _ _ _ w.if-c-eq0.false w.odd-is w.noted-h.ensures w.h-is w.joins-is
]

pub returns-then-not-slots_right : goal.returns-then-not-slots_right
returns-then-not-slots_right c = let t = c.args.t in let k = c.args.weakly in sym (slots_bad t k _ (omega arith) _ _ _ (note_end t k _ _ _ _ _ c.slots-test.false c.slots.invariant) _ (c.born_outside-born.ensures ∙ sym (born_outside_lem c.args.t)) (records_long t _ c.well_formed.0) (sym c.slots_right.ensures ∙ c.if-not-slots_right.true))

pub scan-preserved : goal.scan-preserved
scan-preserved c = let t = c.args.t in let k = c.args.weakly in let p = (note_end t k _ _ _ _ _ c.slots-test.false c.slots.invariant) in let g = (sym c.slots_right.ensures ∙ c.if-not-slots_right.false) in (c.union-taken.ensures ∙ ap (λ (x : ℕ). union_of x (stock_at t c.scan.n)) c.scan.invariant.0 ∙ taken_more t c.scan.n, good_more t _ 8 c.scan.invariant.1 (sym (opens_is t (records_long t _ c.well_formed.0) _ _ _ _ _ _ (c.born_outside-born.ensures ∙ sym (born_outside_lem c.args.t)) c.scan.invariant.0 c.record_sound.ensures c.maker_sound.ensures c.disjoint.ensures) ∙ c.if-not-record_sound-maker_sound.false) (omega arith) (omega arith) (slots_good t k _ (omega arith) _ _ _ p _ (c.born_outside-born.ensures ∙ sym (born_outside_lem c.args.t)) (records_long t _ c.well_formed.0) g), words_joins t k _ (omega arith) _ _ _ p _ g _ c.union.ensures, words_over t k _ (omega arith) _ _ _ p _ g _ c.scan.invariant.3)

pub returns : goal.returns
returns c = let t = c.args.t in let k = c.args.weakly in (sym (scanned t _ (omega arith) c.scan-test.false c.scan.invariant.1), c.born_outside-born.ensures, joins_all t.slots everyone k _ _ (omega arith) (omega arith) c.scan.invariant.2, over_all t.slots everyone k _ _ (omega arith) (omega arith) c.scan.invariant.3)
