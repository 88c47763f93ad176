-- `visit` is every rule at the pair: where no word of x has y each rule is shut, so leaving them out changes nothing. Assumes nothing.
use mathlib.Core.Path.{◌≡◌, subst}
use mathlib.Core.Bool.{false}
use Prim.Native.Nat.{ℕ}
use Rattle.mask.specs.Sets.{has}
use Rattle.relation.proofs.Feeds.{rules_none, bit_clear}
use Rattle.relation.proofs.visit.Goals as goal

pub returns-else-over-p-eq1 : goal.returns-else-over-p-eq1
returns-else-over-p-eq1 c = rules_none c.args.r.now c.args.p.x c.args.p.y (subst (λ (m : ℕ). has c.args.p.y m ≡ false) c.held_over-over.ensures (bit_clear _ c.args.p.y c.if-over-p-eq1.false))
