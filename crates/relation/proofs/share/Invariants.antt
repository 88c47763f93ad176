use mathlib.Core.Path.{◌≡◌}
use Rattle.relation.proofs.Feeds.{shared}
use Rattle.relation.proofs.share.Given as goal

abbrev pub invariant-loop-b : goal.invariant-loop-b
invariant-loop-b l = l.r ≡ shared l.initial.r l.g l.p.x l.p.y l.q.x l.q.y l.b
