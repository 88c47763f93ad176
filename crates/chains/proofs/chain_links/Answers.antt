-- `chain_links`: the links of the test, without the members, are the links to objects. Assumes nothing.
use Rattle.table.proofs.Value.{value_sized}
use Rattle.chains.proofs.Words.{accepted_short, accepted_low, object_words}
use Rattle.chains.proofs.chain_links.Goals as goal

pub test_links-words-requires : goal.test_links-words-requires
test_links-words-requires c = let z = value_sized c.args.t _ c.well_formed.0 in accepted_low c.args.t c.args.members c.args.l z c.requires.0 _ c.requires.2

pub invariant_of-short : goal.invariant_of-short
invariant_of-short c = let z = value_sized c.args.t _ c.well_formed.0 in record { short = accepted_short c.args.t c.args.members c.args.l z c.requires.0 }

pub returns : goal.returns
returns c = object_words c.args.t c.args.members c.args.l (value_sized c.args.t _ c.well_formed.0) c.requires.0 _ _ _ _ c.requires.1 c.requires.2 c.test_links-words.ensures c.less_words.ensures
