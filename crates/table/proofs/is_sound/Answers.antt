-- `is_sound` is the definition of soundness: the scan keeps that every record passed is good, and each way out of it is a law of
-- Scan. Slots that are passed at a glance are those of which Glances says that they are right. Assumes nothing.
use mathlib.Core.Path.{sym, ◌∙◌, ap, refl}
use Prim.Native.Nat.{ℕ}
use native.Mathlib.Omega.{arith}
use Rattle.mask.specs.Sets.{union_of}
use Rattle.mask.proofs.Below.{all_more, all_none}
use Rattle.table.specs.Cells.{stock_at}
use Rattle.table.specs.Soundness.{slot_sound}
use Rattle.table.proofs.Scan.{born_is, taken_none, taken_more, scanned, stopped_at_record, stopped_at_slot, good_more, opens_is, slot_is}
use Rattle.table.proofs.Glances.{over_none, over_more, cleared}
use Rattle.table.proofs.Value.{records_long}
use Rattle.table.proofs.is_sound.Goals as goal

pub scan-init : goal.scan-init
scan-init c = (refl, born_is c.args.t _ c.born_numbers-born.ensures ∙ taken_none _, all_none _)

pub glance-init : goal.glance-init
glance-init c = over_none c.args.t c.scan.n

pub glance-preserved : goal.glance-preserved
glance-preserved c = over_more c.args.t c.scan.n c.glance.k _ _ c.glance.invariant c.note-g.ensures

pub scan-preserved-then-clear : goal.scan-preserved-then-clear
scan-preserved-then-clear c = let t = c.args.t in
    let n = c.scan.n in
    let born = born_is t _ c.born_numbers-born.ensures in
    let long = records_long t _ c.well_formed.0 in (
      c.scan.invariant.0,
      c.union-taken.ensures ∙ ap (λ (x : ℕ). union_of x (stock_at t n)) c.scan.invariant.1 ∙ taken_more t n,
      good_more t n _ c.scan.invariant.2
          (sym (opens_is t long n _ _ _ _ _ born c.scan.invariant.1 c.record_sound.ensures c.maker_sound.ensures c.disjoint.ensures) ∙ c.if-not-record_sound-maker_sound.false)
          (omega arith) (omega arith) (cleared t n c.glance.k _ c.glance.g _ long born c.glance-test.false c.glance.invariant c.clear.ensures c.if-clear.true),
    )

pub slots-init : goal.slots-init
slots-init c = (c.scan.invariant.0, all_none _)

pub slots-preserved : goal.slots-preserved
slots-preserved c = let t = c.args.t in (
  c.slots.invariant.0,
  all_more c.slots.j (slot_sound t c.scan.n) c.slots.invariant.1
      (sym (slot_is t (records_long t _ c.well_formed.0) c.scan.n c.slots.j _ _ _ (born_is t _ c.born_numbers-born.ensures) c.has.ensures c.slot_sound.ensures) ∙ c.if-not-slot_sound.false),
)

pub scan-preserved : goal.scan-preserved
scan-preserved c = let t = c.args.t in
    let n = c.scan.n in
    let born = born_is t _ c.born_numbers-born.ensures in (
      c.slots.invariant.0,
      c.union-taken.ensures ∙ ap (λ (x : ℕ). union_of x (stock_at t n)) c.scan.invariant.1 ∙ taken_more t n,
      good_more t n _ c.scan.invariant.2
          (sym (opens_is t (records_long t _ c.well_formed.0) n _ _ _ _ _ born c.scan.invariant.1 c.record_sound.ensures c.maker_sound.ensures c.disjoint.ensures) ∙ c.if-not-record_sound-maker_sound.false)
          c.slots.auto.j-end c.slots-test.false c.slots.invariant.1,
    )

pub returns-after-scan : goal.returns-after-scan
returns-after-scan c = c.scan.invariant.0 ∙ scanned _ _ c.scan.auto.n-end c.scan-test.false c.scan.invariant.2

pub returns-then-not-record_sound-maker_sound : goal.returns-then-not-record_sound-maker_sound
returns-then-not-record_sound-maker_sound c = let t = c.args.t in
    let n = c.scan.n in
    stopped_at_record t n c.scan-test.true (sym (opens_is t (records_long t _ c.well_formed.0) n _ _ _ _ _ (born_is t _ c.born_numbers-born.ensures) c.scan.invariant.1 c.record_sound.ensures c.maker_sound.ensures c.disjoint.ensures) ∙ c.if-not-record_sound-maker_sound.true)

pub returns-then-not-slot_sound : goal.returns-then-not-slot_sound
returns-then-not-slot_sound c = let t = c.args.t in
    let n = c.scan.n in
    let j = c.slots.j in
    stopped_at_slot t n j c.scan-test.true c.slots-test.true
    (sym (slot_is t (records_long t _ c.well_formed.0) n j _ _ _ (born_is t _ c.born_numbers-born.ensures) c.has.ensures c.slot_sound.ensures) ∙ c.if-not-slot_sound.true)
