-- `take_grant::held_at` meets its contract: each check that fails stops the walk as its byte does, by the laws of a capability at a place.
-- Assumes nothing.
use mathlib.Core.Path.{sym, ap, ◌∙◌}
use native.Mathlib.Omega.{arith}
use Rattle.std.specs.Prelude.{Ok}
use Rattle.take_grant.specs.Helpers.{held_of}
use Rattle.take_grant.proofs.Places.{cap_none, cap_aside, cap_cut, cap_above, cap_there_lem}
use Rattle.take_grant.proofs.held_at.Goals as goal

pub returns-then-bytes-at : goal.returns-then-bytes-at
returns-then-bytes-at c = sym (ap held_of (cap_none c.args.count c.args.bytes.now c.args.at (omega arith)))

pub returns-then-count-bytes : goal.returns-then-count-bytes
returns-then-count-bytes c = sym (ap held_of (cap_aside c.args.count c.args.bytes.now c.args.at (omega arith) (omega arith)))

pub returns-then-bytes-at-2 : goal.returns-then-bytes-at-2
returns-then-bytes-at-2 c = sym (ap held_of (cap_cut c.args.count c.args.bytes.now c.args.at (omega arith) (omega arith) (omega arith)))

pub returns-then-bytes-at-gt31 : goal.returns-then-bytes-at-gt31
returns-then-bytes-at-gt31 c = sym (ap held_of (cap_above c.args.count c.args.bytes.now c.args.at (omega arith) (omega arith) (omega arith) (omega arith)))

pub returns : goal.returns
returns c = ap Ok c.slot_for.ensures
    ∙ sym (ap held_of (cap_there_lem c.args.count c.args.bytes.now c.args.at (omega arith) (omega arith) (omega arith) (omega arith)))
