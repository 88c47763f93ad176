-- `saturate` ends when a pass adds nothing; until then the sum of the words rises, and it is below 256 times 2 ^ 64. Assumes nothing.
use mathlib.Core.Path.{sym, ◌∙◌}
use native.Mathlib.Omega.{arith}
use lib.Pointwise.{bytes_decides}
use Rattle.mask.proofs.Tests.{clash}
use Rattle.relation.proofs.Feeds.{more_words, total_full}
use Rattle.relation.proofs.Saturation.{grown_pass, saturated, full_kept}
use Rattle.relation.proofs.saturate.Goals as goal

pub returns-then-eq : goal.returns-then-eq
returns-then-eq c = saturated _ _ _ c.loop-r.invariant.1 c.pass.ensures ((bytes_decides _ _).0 (sym c.eq.ensures ∙ c.if-eq.true))

pub loop-r-smaller : goal.loop-r-smaller
loop-r-smaller c = let e = c.pass.ensures in
    omega (arith, more_words _ _ e (λ q. clash ((bytes_decides _ _).1 q) (sym c.eq.ensures ∙ c.if-eq.false)), total_full _ (full_kept c.loop-r.invariant.0 (grown_pass _ _ _ c.loop-r.invariant.1 e).kept))

pub loop-r-preserved : goal.loop-r-preserved
loop-r-preserved c = (c.loop-r.invariant.0, grown_pass _ _ _ c.loop-r.invariant.1 c.pass.ensures)
