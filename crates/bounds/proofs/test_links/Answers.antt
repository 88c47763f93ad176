-- `test_links`: the links that slots hold, joined with those of the list. Assumes nothing.
use Rattle.bounds.proofs.TestLinks.{joined_own}
use Rattle.bounds.proofs.test_links.Goals as goal

pub returns : goal.returns
returns c = joined_own _ _ _ _ c.slot_links-held.ensures c.with_entries.ensures
