-- `join_word` is one feed: the gate is the bit that the code tests, and both ways out are laws of Feeds. Assumes nothing.
use mathlib.Core.Path.{sym}
use Prim.Native.Nat.{◌+◌, ◌*◌}
use lib.ListN.{get_or}
use Rattle.relation.proofs.Feeds.{feed_open, feed_shut, bit_set, bit_clear}
use Rattle.relation.proofs.join_word.Goals as goal

pub returns-then-r-g-eq1 : goal.returns-then-r-g-eq1
returns-then-r-g-eq1 c = sym (feed_open c.args.r.now _ (bit_set (get_or c.args.r.now (c.args.g * 64 + c.args.p.x) 0) c.args.p.y c.if-r-g-eq1.true))

pub returns-else-r-g-eq1 : goal.returns-else-r-g-eq1
returns-else-r-g-eq1 c = sym (feed_shut c.args.r.now _ (bit_clear (get_or c.args.r.now (c.args.g * 64 + c.args.p.x) 0) c.args.p.y c.if-r-g-eq1.false))
