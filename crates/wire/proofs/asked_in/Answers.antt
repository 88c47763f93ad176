-- `asked_in` meets its contract: a code other than 6 and 7 has no list. Assumes nothing.
use Rattle.std.proofs.Common.{sym, ◌∙◌, arith}
use Rattle.wire.proofs.Parsed.{plain_asked, plain_unasked}
use Rattle.wire.proofs.asked_in.Goals as goal

pub returns-in_err-plain_in-in_default : goal.returns-in_err-plain_in-in_default
returns-in_err-plain_in-in_default c = c.from_residual.ensures ∙ plain_unasked c.args.bytes.now (sym c.plain_in.ensures ∙ c.in_err-plain_in-in_default.was)

pub returns-in_ok-plain_in-in_default : goal.returns-in_ok-plain_in-in_default
returns-in_ok-plain_in-in_default c = plain_asked c.args.bytes.now (λ h. omega arith) (λ h. omega arith) _
    (sym c.plain_in.ensures ∙ c.in_ok-plain_in-in_default.was) c.alone.result c.alone.ensures
