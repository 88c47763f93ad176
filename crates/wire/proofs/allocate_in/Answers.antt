-- `allocate_in` meets its contract: the fields stand at their places, and the list is there where the bytes fit. Assumes nothing.
use Rattle.std.proofs.Common.{sym, ◌∙◌}
use Rattle.wire.proofs.Parsed.{allocate_asked, allocate_short, allocate_unasked}
use Rattle.wire.proofs.allocate_in.Goals as goal

pub returns-in_default : goal.returns-in_default
returns-in_default c = allocate_short c.args.bytes.now c.requires c.in_default.len_below

pub returns-in_err-list : goal.returns-in_err-list
returns-in_err-list c = c.from_residual.ensures
    ∙ allocate_unasked c.args.bytes.now c.requires c.in-len14-up.len_at_least (sym c.list_in.ensures ∙ c.in_err-list.was)

pub returns : goal.returns
returns c = allocate_asked c.args.bytes.now c.requires c.in-len14-up.len_at_least _ (sym c.list_in.ensures ∙ c.in_ok-list.was) _ c.from_be_bytes.ensures
