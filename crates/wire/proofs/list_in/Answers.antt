-- `list_in` meets its contract, by whether the count and the bytes agree. Assumes nothing.
use Rattle.std.proofs.Common.{arith}
use Rattle.wire.proofs.Parsed.{list_some, list_none, made_list}
use Rattle.wire.proofs.list_in.Goals as goal
use Rattle.wire.proofs.list_in.Goals.{else-count-le-LONGEST-via-then-count-le-LONGEST+else-bytes-from, else-count-le-LONGEST-via-else-count-le-LONGEST}

pub returns-then-bytes-from : goal.returns-then-bytes-from
returns-then-bytes-from c = list_some c.args.count c.args.bytes.now c.if-count-le-LONGEST.true (omega arith) _
    (made_list c.args.count c.args.bytes.now (omega arith) _ c.pairs_in-pairs.ensures)

pub returns : goal.returns
returns c = list_none c.args.count c.args.bytes.now
    (λ h n. elim c.else-count-le-LONGEST.branch [ else-count-le-LONGEST-via-then-count-le-LONGEST+else-bytes-from w ↦ omega arith | else-count-le-LONGEST-via-else-count-le-LONGEST w ↦ omega arith ])
