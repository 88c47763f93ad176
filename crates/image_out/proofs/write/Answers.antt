-- `write` meets its contract: each refusal leaves the buffer, and else the head is stored first and then the records. Assumes nothing.
use mathlib.Core.Path.{sym, ◌∙◌}
use native.Mathlib.Omega.{arith}
use Rattle.image_out.specs.declared.WriteRefusal.TheVariants as W
use Rattle.image_out.proofs.Left.{write_unsound, write_lost, write_short, write_done, written_refused, written_done}
use Rattle.image_out.proofs.Store.{image_left}
use Rattle.image_out.proofs.write.Goals as goal

pub returns-then-not-is_sound : goal.returns-then-not-is_sound
returns-then-not-is_sound c = let e = write_unsound c.args.v c.args.t c.args.buffer.now (sym c.is_sound.ensures ∙ c.if-not-is_sound.true) in
    record { reply = sym e; left = sym (written_refused c.args.v c.args.t c.args.buffer.now W.TableUnsound e) }

pub returns-then-some_lost : goal.returns-then-some_lost
returns-then-some_lost c = let e = write_lost c.args.v c.args.t c.args.buffer.now (sym c.is_sound.ensures ∙ c.if-not-is_sound.false) (sym c.some_lost.ensures ∙ c.if-some_lost.true) in
    record { reply = sym e; left = sym (written_refused c.args.v c.args.t c.args.buffer.now W.MakerRecorded e) }

pub returns-then-buffer-image_length : goal.returns-then-buffer-image_length
returns-then-buffer-image_length c = let e = write_short c.args.v c.args.t c.args.buffer.now (sym c.is_sound.ensures ∙ c.if-not-is_sound.false) (sym c.some_lost.ensures ∙ c.if-some_lost.false) (omega (arith, c.image_length.ensures)) in
    record { reply = sym e; left = sym (written_refused c.args.v c.args.t c.args.buffer.now W.BufferShort e) }

pub returns : goal.returns
returns c = let e = write_done c.args.v c.args.t c.args.buffer.now (sym c.is_sound.ensures ∙ c.if-not-is_sound.false) (sym c.some_lost.ensures ∙ c.if-some_lost.false) (omega (arith, c.image_length.ensures)) in
    record { reply = sym e; left = image_left c.args.v c.args.t c.args.buffer.now _ _ c.write_head.ensures c.write_records.ensures ∙ sym (written_done c.args.v c.args.t c.args.buffer.now e) }
