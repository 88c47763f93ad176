-- `octets::put_number` meets its contract. The loop's invariant, `Put`: from `i` on stand the number's lowest bytes, and `rest` is
-- what is above them. Assumes nothing.
use Rattle.octets.proofs.BigEndian.{put_none, put_more}
use Rattle.octets.proofs.put_number.Goals as goal

pub loop-i-init : goal.loop-i-init
loop-i-init c = put_none c.args.bytes.now c.args.n

pub loop-i-preserved : goal.loop-i-preserved
loop-i-preserved c = put_more _ _ _ _ _ c.loop-i-test.true c.loop-i.invariant
