-- `write_record` meets its contract: the thirty bytes that the versions share, and then the maker. Assumes nothing.
use Rattle.image_out.proofs.Store.{stored_left}
use Rattle.image_out.proofs.write_record.Goals as goal

pub returns : goal.returns
returns c = stored_left c.args.v c.args.part.now c.args.stored _ _ c.requires c.write_shared.ensures c.write_maker.ensures
