-- `fetch` comes to its outcome: what the check of its slot saw decides, and the effect is one slot of the actor, put. By the laws of a
-- request through a slot and what `fetched` and `landed` ensure. Assumes nothing.
use mathlib.Core.Path.{refl, ◌∙◌, ap}
use Rattle.std.proofs.lemmas.Result.{err_from_is_err_and}
use Rattle.table.specs.Cells.{slot_at, put_slot}
use Rattle.copies.specs.Copies.{copy_to, fetched, landed}
use Rattle.refusals.specs.Replies.{Done}
use Rattle.effects.specs.Effects.{effect}
use Rattle.steps.proofs.Ways.{through_refused, last_done}
use Rattle.steps.proofs.Uses.{fetch_uses}
use Rattle.steps.proofs.fetch.Goals as goal

pub returns-in_err-seen : goal.returns-in_err-seen
returns-in_err-seen c =
    let p = err_from_is_err_and c.from_residual.result c.from_residual.ensures.1 in
    rw (p.1, p.2) (through_refused (λ g. Done) c.args.t.whole fetch_uses c.in_err-seen.ensures)

pub returns : goal.returns
unfolding effect
returns c = last_done (λ g. Done) c.args.t.whole fetch_uses c.in_ok-seen.ensures.opened refl
    (λ g r. copy_to c.args.t.table.now c.args.actor c.args.j (fetched r (slot_at c.args.t.table.now g c.args.i))) refl
    (ap (put_slot c.args.t.table.now c.args.actor c.args.j) (c.landed.ensures ∙ ap (landed (slot_at c.args.t.table.now c.args.actor c.args.j)) c.fetched-got.ensures))
