-- `image::read_table` meets its contract. The loop's invariant, `ReadTo`: how many records and slots have been read. Assumes nothing.
use Prim.Native.Nat.{◌*◌}
use native.Mathlib.Omega.{arith}
use Rattle.image.proofs.Load.{stored_lent, read_none, record_more, read_all}
use Rattle.image.proofs.read_table.Goals as goal

pub records-init : goal.records-init
records-init c = read_none c.args.v c.args.image.now c.unborn_table-t.result c.unborn_table-t.ensures

pub records-preserved : goal.records-preserved
records-preserved c =
    record_more c.args.v c.args.image.now c.records.t c.records.n c.read_record-stored.result _ (omega arith)
    (stored_lent c.args.v c.args.image.now c.records.n c.record_length-long.result c.read_record-stored.result c.record_length-long.ensures c.read_record-stored.ensures)
    c.copy_from_slice.ensures.after c.records.invariant

pub returns : goal.returns
returns c = read_all c.args.v c.args.image.now c.records.t c.records.n (c.records.n * 8) (omega arith) (omega arith) c.records.invariant
