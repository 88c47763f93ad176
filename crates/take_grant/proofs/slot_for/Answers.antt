-- `take_grant::slot_for` meets its contract, by whether a right is left. Assumes nothing.
use mathlib.Core.Path.{refl, sym, ◌∙◌, ap}
use borrow.Author.Tests.{eq-eqb, ne_eqb}
use Rattle.take_grant.specs.Imports.{slot_for}
use Rattle.take_grant.proofs.slot_for.Goals as goal

pub returns-then-kept-eq0 : goal.returns-then-kept-eq0
returns-then-kept-eq0 c = let e = c.mapped-kept.ensures in
    let z = c.if-kept-eq0.true in
    rw (eq-eqb _ 0 (sym e ∙ z), slot_for) refl

pub returns : goal.returns
returns c = let e = c.mapped-kept.ensures in
    let z = c.if-kept-eq0.false in
    rw (ne_eqb _ 0 (λ q. z (e ∙ q)), slot_for) (ap (λ r. record { target = c.args.target; rights = r }) e)
