-- `wrong_status` is the definition, return by return. Assumes nothing.
use Rattle.refusals.proofs.Rows.{wrong_dead, wrong_alive}
use Rattle.refusals.proofs.wrong_status.Goals as goal

pub returns-then-wanted-eq-ALIVE : goal.returns-then-wanted-eq-ALIVE
returns-then-wanted-eq-ALIVE c = wrong_dead _ c.if-wanted-eq-ALIVE.true

pub returns : goal.returns
returns c = wrong_alive _ c.if-wanted-eq-ALIVE.false
