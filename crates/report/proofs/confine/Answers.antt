-- `confine` meets its contract: a refusal that is decided has a number of two digits at most, and what is decided is printed. Assumes nothing.
use native.Mathlib.Omega.{arith}
use Rattle.report.proofs.Answers.{decision_small}
use Rattle.report.proofs.confine.Goals as goal

pub put_decision-requires : goal.put_decision-requires
put_decision-requires c = (omega arith, rw c.decide-decision.ensures (decision_small c.args.input.now))

pub returns : goal.returns
returns c = let p = rw c.decide-decision.ensures at c.put_decision.ensures in record { count = p.next; printed = p.left }
