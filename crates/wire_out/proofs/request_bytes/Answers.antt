-- `request_bytes` meets its contract: each arm of the match is that request's own function, and a request with no list is its head, by
-- computing. Assumes nothing.
use Rattle.table.specs.Lists.{tabulate, padded}
use Rattle.requests.specs.Asks.{ask_of}
use Rattle.wire_out.specs.Written.{field_bytes, request_bytes, held_bytes, written_of}
use Rattle.wire_out.proofs.Writes.{written_told}
use Rattle.wire_out.proofs.request_bytes.Goals as goal

pub returns-in-Read : goal.returns-in-Read
unfolding ask_of written_of held_bytes request_bytes field_bytes padded tabulate
returns-in-Read c = written_told c.args.list c.in-Read.is c.held.ensures

pub returns-in-Write : goal.returns-in-Write
unfolding ask_of
returns-in-Write c = written_told c.args.list c.in-Write.is c.write_bytes.ensures

pub returns-in-Fetch : goal.returns-in-Fetch
unfolding ask_of written_of held_bytes request_bytes field_bytes padded tabulate
returns-in-Fetch c = written_told c.args.list c.in-Fetch.is c.held-in-Fetch.ensures

pub returns-in-Store : goal.returns-in-Store
unfolding ask_of written_of held_bytes request_bytes field_bytes padded tabulate
returns-in-Store c = written_told c.args.list c.in-Store.is c.held-in-Store.ensures

pub returns-in-Revoke : goal.returns-in-Revoke
unfolding ask_of written_of held_bytes request_bytes field_bytes padded tabulate
returns-in-Revoke c = written_told c.args.list c.in-Revoke.is c.held-in-Revoke.ensures

pub returns-in-Send : goal.returns-in-Send
unfolding ask_of
returns-in-Send c = written_told c.args.list c.in-Send.is c.send_bytes.ensures

pub returns-in-Allocate : goal.returns-in-Allocate
unfolding ask_of
returns-in-Allocate c = written_told c.args.list c.in-Allocate.is c.allocate_bytes.ensures

pub returns-in-Destroy : goal.returns-in-Destroy
unfolding ask_of written_of held_bytes request_bytes field_bytes padded tabulate
returns-in-Destroy c = written_told c.args.list c.in-Destroy.is c.held-in-Destroy.ensures

pub returns-in-Reclaim : goal.returns-in-Reclaim
unfolding ask_of written_of held_bytes request_bytes field_bytes padded tabulate
returns-in-Reclaim c = written_told c.args.list c.in-Reclaim.is c.held-in-Reclaim.ensures

pub returns-in-Unknown : goal.returns-in-Unknown
unfolding ask_of written_of held_bytes request_bytes field_bytes padded tabulate
returns-in-Unknown c = written_told c.args.list c.in-Unknown.is c.held-in-Unknown.ensures
