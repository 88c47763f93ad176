-- `captable::captable_step_by_value` meets its contract. Assumes nothing.
use mathlib.Core.Path.{◌∙◌, ap}
use Rattle.requests.specs.Asks.{ask_of}
use Rattle.steps.specs.Steps.{step_of}
use Rattle.wire.specs.declared.Asked.{Asked}
use Rattle.wire.proofs.Few.{asked_ask}
use Rattle.captable.specs.Crossing.{stepped}
use Rattle.captable.proofs.captable_step_by_value.Goals as goal

pub returns : goal.returns
returns c = let t = c.args.table in
    let bs = c.args.request.now in
    c.from.ensures
    ∙ ap stepped (c.step.ensures
    ∙ ap (λ (q : Asked). step_of t (ask_of q.request q.list)) c.request_in-asked.ensures ∙ ap (step_of t) (asked_ask bs))
