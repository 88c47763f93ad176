-- `read` comes to its outcome: what the check of its slot saw decides, and the effect is one record, put. By the laws of a request through a
-- slot. Assumes nothing.
use mathlib.Core.Path.{refl}
use Rattle.std.proofs.lemmas.Result.{err_from_is_err_and}
use Rattle.table.specs.Cells.{record_at, put_record}
use Rattle.refusals.specs.Replies.{Done}
use Rattle.effects.specs.Effects.{effect, with_word}
use Rattle.steps.proofs.Ways.{through_refused, last_done}
use Rattle.steps.proofs.Uses.{read_uses}
use Rattle.steps.proofs.read.Goals as goal

pub returns-in_err-seen : goal.returns-in_err-seen
returns-in_err-seen c =
    let p = err_from_is_err_and c.from_residual.result c.from_residual.ensures.1 in
    rw (p.1, p.2) (through_refused (λ g. Done) c.args.t.whole read_uses c.in_err-seen.ensures)

pub returns : goal.returns
unfolding effect
returns c = last_done (λ g. Done) c.args.t.whole read_uses c.in_ok-seen.ensures.opened refl
    (λ g r. put_record c.args.t.table.now c.args.actor (with_word (record_at c.args.t.table.now c.args.actor) (record_at c.args.t.table.now g).word)) refl refl
