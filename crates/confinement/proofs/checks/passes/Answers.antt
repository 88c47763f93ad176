-- `passes` tests for exactly wk, and the four rights of a capability against the listed ones. Assumes nothing.
use Rattle.confinement.proofs.Scans.{passes_covered}
use Rattle.confinement.proofs.checks.passes.Goals as goal

pub returns : goal.returns
returns c = passes_covered _ _ _ _ _ _ _ c.listed_for-found.ensures c.covered.ensures c.covered-2.ensures c.covered-3.ensures c.covered-4.ensures
