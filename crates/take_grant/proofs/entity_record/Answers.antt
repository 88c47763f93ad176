-- `take_grant::entity_record` meets its contract: the record as it stands. Assumes nothing.
use mathlib.Core.Path.{refl}
use Rattle.take_grant.proofs.entity_record.Goals as goal

pub returns : goal.returns
returns c = refl
