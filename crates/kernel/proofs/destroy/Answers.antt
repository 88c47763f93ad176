-- `destroy` comes to its outcome: what the check of its slot saw decides, then whether the target is the actor, and the effect is what
-- `destroyed` ensures. By the laws of a request through a slot with a last check. Assumes nothing.
use mathlib.Core.Path.{refl}
use borrow.Author.Tests.{eq-eqb, ne_eqb}
use Rattle.std.proofs.lemmas.Result.{err_from_is_err_and}
use Rattle.effects.specs.Effects.{effect, destroyed}
use Rattle.refusals.proofs.Rows.{refuse_yes, refuse_no}
use Rattle.steps.proofs.Ways.{through_refused, last_refused, last_done}
use Rattle.steps.proofs.Uses.{itself_row, destroy_uses}
use Rattle.kernel.proofs.destroy.Goals as goal

pub returns-in_err-seen : goal.returns-in_err-seen
returns-in_err-seen c =
    let p = err_from_is_err_and c.from_residual.result c.from_residual.ensures.1 in
    rw (p.1, p.2) (through_refused (itself_row c.args.actor) c.args.t.whole destroy_uses c.in_err-seen.ensures)

pub returns-then-seen-actor : goal.returns-then-seen-actor
returns-then-seen-actor c = last_refused (itself_row c.args.actor) c.args.t.whole destroy_uses c.in_ok-seen.ensures.opened (refuse_yes _ _ _ (eq-eqb _ _ c.if-seen-actor.true))

pub returns : goal.returns
unfolding effect
returns c = last_done (itself_row c.args.actor) c.args.t.whole destroy_uses c.in_ok-seen.ensures.opened (refuse_no _ _ _ (ne_eqb _ _ c.if-seen-actor.false))
    (λ g r. destroyed c.args.t.table.now c.args.actor g) refl c.destroyed.ensures
