-- `request_in` meets its contract: the request that is there, or one without fields. Assumes nothing.
use Rattle.std.proofs.Common.{◌∙◌, ap, Option}
use Rattle.std.specs.Option.{unwrap_or}
use Rattle.wire.specs.declared.Asked.{Asked}
use Rattle.wire.proofs.Parsed.{asked_or}
use Rattle.wire.proofs.request_in.Goals as goal

pub returns : goal.returns
returns c = c.unwrap_or.ensures ∙ ap (λ (o : Option Asked). unwrap_or o c.alone.result) c.asked_in.ensures
    ∙ asked_or c.args.bytes.now _ _ c.code_in-code.ensures c.actor_in-actor.ensures c.alone.result c.alone.ensures
