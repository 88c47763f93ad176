-- `link_if` is two joins, there for rd, wr and tx and back for any right; where both are wanted both ends are below 64. Assumes nothing.
use native.Mathlib.Omega.{arith}
use Rattle.mask.proofs.Tests.{and_true}
use Rattle.links.proofs.Joins.{link_steps}
use Rattle.links.proofs.link_if.Goals as goal

pub join-requires : goal.join-requires
join-requires c = λ e. let p = c.requires (and_true c.args.on _ e).0 in omega arith

pub join-requires-2 : goal.join-requires-2
join-requires-2 c = λ e. let p = c.requires (and_true c.args.on _ e).0 in omega arith

pub returns : goal.returns
returns c = link_steps _ _ _ _ _ _ _ _ c.has_strong-strong.ensures c.has-weak.ensures c.join.ensures c.join-2.ensures
