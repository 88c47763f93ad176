-- `captable::captable_test_by_groups` meets its contract: the list that is held is answered as the one of the bytes. Assumes nothing.
use mathlib.Core.Path.{◌∙◌}
use Rattle.captable.proofs.Answers.{test_crosses}
use Rattle.captable.proofs.captable_test_by_groups.Goals as goal

pub returns : goal.returns
returns c = c.from.ensures ∙ test_crosses _ _ _ _ _ c.list_of-entries.ensures c.test.ensures
