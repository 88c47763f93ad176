-- `noted`: over a number that no set has nothing is noted; over any other, by its rights. Assumes nothing.
use native.Mathlib.Omega.{arith}
use mathlib.Core.Path.{refl}
use Rattle.held.proofs.Passed.{noted_out, noted_strong, noted_weak}
use Rattle.held.proofs.noted.Goals as goal

pub returns-then-c-ge64 : goal.returns-then-c-ge64
returns-then-c-ge64 c = noted_out c.args.x c.args.weakly c.args.c _ _ _ (omega (arith, c.if-c-ge64.true)) refl refl refl

pub returns-then-has_strong : goal.returns-then-has_strong
returns-then-has_strong c = noted_strong c.args.x c.args.weakly c.args.c _ _ _ _ _ (omega (arith, c.if-c-ge64.false)) c.has_strong.ensures c.if-has_strong.true c.join.ensures c.with-strong.ensures c.with-over.ensures refl

pub returns : goal.returns
returns c = noted_weak c.args.x c.args.weakly c.args.c _ _ _ _ _ _ (omega (arith, c.if-c-ge64.false)) c.has_strong.ensures c.if-has_strong.false c.has-is_weak.ensures c.join-2.ensures refl c.with-over.ensures refl
