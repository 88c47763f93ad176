-- `image::read` meets its contract: the head, then the table of its version. Assumes nothing.
use mathlib.Core.Path.{sym, ◌∙◌, ap}
use Rattle.std.specs.Prelude.{Ok}
use Rattle.std.proofs.lemmas.Result.{err_from_is_err_and}
use Rattle.table.specs.Soundness.{sound}
use Rattle.image.proofs.Replies.{headed, read_head, read_unsound, read_passed}
use Rattle.image.proofs.read.Goals as goal

pub returns-in_err-v : goal.returns-in_err-v
returns-in_err-v c =
    let p = err_from_is_err_and c.from_residual.result c.from_residual.ensures.1 in
    rw (p.1, p.2) (sym (read_head c.args.image.now c.in_err-v.field-0.0 (sym c.in_err-v.ensures)))

pub read_table-found-requires : goal.read_table-found-requires
read_table-found-requires c = (headed c.args.image.now c.in_ok-v.v (sym c.in_ok-v.ensures)).long

pub returns-then-not-is_sound : goal.returns-then-not-is_sound
returns-then-not-is_sound c = sym (read_unsound c.args.image.now c.in_ok-v.v (sym c.in_ok-v.ensures)
    (ap sound (sym c.read_table-found.ensures) ∙ sym c.is_sound.ensures ∙ c.if-not-is_sound.true))

pub returns : goal.returns
returns c = ap Ok c.read_table-found.ensures ∙ sym (read_passed c.args.image.now c.in_ok-v.v (sym c.in_ok-v.ensures)
    (ap sound (sym c.read_table-found.ensures) ∙ sym c.is_sound.ensures ∙ c.if-not-is_sound.false))
