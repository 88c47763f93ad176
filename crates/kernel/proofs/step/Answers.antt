-- `step` is the definition's step: its outcome, put together with the table that was there. Assumes nothing.
use mathlib.Core.Path.{sym, ◌∙◌, ap}
use Rattle.requests.specs.Asks.{ask_of}
use Rattle.steps.specs.Outcomes.{put_together}
use Rattle.steps.proofs.Refused.{outcome_step}
use Rattle.steps.proofs.Ways.{unsound_refused}
use Rattle.kernel.proofs.step.Goals as goal

pub returns-then-not-is_sound : goal.returns-then-not-is_sound
returns-then-not-is_sound c = unsound_refused c.args.t (ask_of c.args.request c.args.list) (sym c.is_sound.ensures ∙ c.if-not-is_sound.true)

pub returns-in-Ok : goal.returns-in-Ok
returns-in-Ok c = ap (put_together c.args.t) c.in-Ok.ensures ∙ outcome_step c.args.t (ask_of c.args.request c.args.list)

pub returns-in-Err : goal.returns-in-Err
returns-in-Err c = ap (put_together c.args.t) c.in-Err.ensures ∙ outcome_step c.args.t (ask_of c.args.request c.args.list)
