-- `send` comes to its outcome: what the check of its slot saw decides, with the target's kind for the last check, and the effect is what `sent`
-- ensures. By the laws of a request through a slot with a last check. Assumes nothing.
use mathlib.Core.Path.{refl, ◌∙◌, ap}
use mathlib.Core.Bool.{not}
use borrow.Author.Tests.{eq-eqb, ne_eqb}
use Rattle.std.proofs.lemmas.Result.{err_from_is_err_and}
use Rattle.requests.specs.Asks.{pairs_of}
use Rattle.effects.specs.Effects.{effect, sent}
use Rattle.refusals.proofs.Rows.{refuse_yes, refuse_no}
use Rattle.steps.proofs.Ways.{through_refused, last_refused, last_done}
use Rattle.steps.proofs.Uses.{passive_row, passive_seen, send_uses, send_list}
use Rattle.kernel.proofs.send.Goals as goal

pub returns-in_err-seen : goal.returns-in_err-seen
returns-in_err-seen c =
    let p = err_from_is_err_and c.from_residual.result c.from_residual.ensures.1 in
    rw (p.1, p.2) (through_refused (passive_row c.args.t.table.now) c.args.t.whole (send_uses c.list_bad.ensures) c.in_err-seen.ensures)

pub returns-then-not-seen : goal.returns-then-not-seen
returns-then-not-seen c = let v = c.in_ok-seen.ensures.opened in
    last_refused (passive_row c.args.t.table.now) c.args.t.whole (send_uses c.list_bad.ensures) v (passive_seen v ∙ refuse_yes _ _ _ (ap not (ne_eqb _ 1 c.if-not-seen.true)))

pub sent-requires : goal.sent-requires
sent-requires c = let v = c.in_ok-seen.ensures.opened in
    (v.actor, (v.within, send_list c.args.l c.args.reply _ c.list_bad.ensures v.fields))

pub returns : goal.returns
unfolding effect
returns c = let v = c.in_ok-seen.ensures.opened in
    last_done (passive_row c.args.t.table.now) c.args.t.whole (send_uses c.list_bad.ensures) v (passive_seen v ∙ refuse_no _ _ _ (ap not (eq-eqb _ 1 c.if-not-seen.false)))
    (λ g r. sent c.args.t.table.now c.args.actor g c.args.word (pairs_of c.args.l) c.args.reply) refl c.sent.ensures
