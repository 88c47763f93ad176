-- `send_in` meets its contract: the fields stand at their places, and the list is there where the bytes fit. Assumes nothing.
use Rattle.std.proofs.Common.{sym, ◌∙◌}
use Rattle.wire.proofs.Parsed.{send_asked, send_short, send_unasked}
use Rattle.wire.proofs.send_in.Goals as goal

pub returns-in_default : goal.returns-in_default
returns-in_default c = send_short c.args.bytes.now c.requires c.in_default.len_below

pub returns-in_err-list : goal.returns-in_err-list
returns-in_err-list c = c.from_residual.ensures
    ∙ send_unasked c.args.bytes.now c.requires c.in-len9-up.len_at_least (sym c.list_in.ensures ∙ c.in_err-list.was)

pub returns : goal.returns
returns c = send_asked c.args.bytes.now c.requires c.in-len9-up.len_at_least _ (sym c.list_in.ensures ∙ c.in_ok-list.was) _ c.from_be_bytes.ensures
