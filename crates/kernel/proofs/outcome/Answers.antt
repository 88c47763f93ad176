-- `outcome` is the definition's: each arm of the match is that request's own function.
-- Assumes nothing.
use mathlib.Core.Path.{refl}
use Rattle.requests.specs.Asks.{ask_of}
use Rattle.steps.proofs.Ways.{outcome_told, invalid_outcome}
use Rattle.steps.proofs.Uses.{unknown_fields}
use Rattle.kernel.proofs.outcome.Goals as goal

pub returns-in-Read : goal.returns-in-Read
unfolding ask_of
returns-in-Read c = outcome_told c.args.t.table.now c.args.list c.in-Read.is c.read.ensures

pub returns-in-Write : goal.returns-in-Write
unfolding ask_of
returns-in-Write c = outcome_told c.args.t.table.now c.args.list c.in-Write.is c.write.ensures

pub returns-in-Fetch : goal.returns-in-Fetch
unfolding ask_of
returns-in-Fetch c = outcome_told c.args.t.table.now c.args.list c.in-Fetch.is c.fetch.ensures

pub returns-in-Store : goal.returns-in-Store
unfolding ask_of
returns-in-Store c = outcome_told c.args.t.table.now c.args.list c.in-Store.is c.store.ensures

pub returns-in-Revoke : goal.returns-in-Revoke
unfolding ask_of
returns-in-Revoke c = outcome_told c.args.t.table.now c.args.list c.in-Revoke.is c.revoke.ensures

pub returns-in-Send : goal.returns-in-Send
unfolding ask_of
returns-in-Send c = outcome_told c.args.t.table.now c.args.list c.in-Send.is c.send.ensures

pub returns-in-Allocate : goal.returns-in-Allocate
unfolding ask_of
returns-in-Allocate c = outcome_told c.args.t.table.now c.args.list c.in-Allocate.is c.allocate.ensures

pub returns-in-Destroy : goal.returns-in-Destroy
unfolding ask_of
returns-in-Destroy c = outcome_told c.args.t.table.now c.args.list c.in-Destroy.is c.destroy.ensures

pub returns-in-Reclaim : goal.returns-in-Reclaim
unfolding ask_of
returns-in-Reclaim c = outcome_told c.args.t.table.now c.args.list c.in-Reclaim.is c.reclaim.ensures

pub returns-in-Unknown : goal.returns-in-Unknown
unfolding ask_of
returns-in-Unknown c = let t = c.args.t.table.now in
    outcome_told t c.args.list c.in-Unknown.is (invalid_outcome t c.args.t.whole unknown_fields refl)
