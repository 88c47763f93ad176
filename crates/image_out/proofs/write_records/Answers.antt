-- `write_records` meets its contract. The loop's invariant, `written_to`: behind the first three bytes stand the first `n` records, and the rest
-- is as it was. Assumes nothing.
use native.Mathlib.Omega.{arith}
use Rattle.std.proofs.Common.{rules}
use Rattle.image_out.proofs.Store.{stored_taken, records_none, records_more, records_all}
use Rattle.image_out.proofs.write_records.Goals as goal

pub records-init : goal.records-init
records-init c = records_none c.args.v c.args.t c.args.buffer.now

pub records-preserved : goal.records-preserved
records-preserved c =
    records_more c.args.v c.args.t c.args.buffer.now c.records.n c.record_length-long.result c.records.buffer _ _ c.record_length-long.ensures (omega (arith, c.requires)) c.records.invariant
    (stored_taken c.args.t c.records.n _ (omega arith) (search rules) c.copy_from_slice.ensures.after) c.write_record.ensures

pub returns : goal.returns
returns c = records_all c.args.v c.args.t c.args.buffer.now c.records.n c.records.buffer (omega arith) c.records.invariant
