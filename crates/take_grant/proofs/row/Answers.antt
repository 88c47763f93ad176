-- `take_grant::row` meets its contract, by whether the right is among the rights. Assumes nothing.
use mathlib.Core.Path.{refl, sym, ◌∙◌}
use Rattle.take_grant.proofs.row.Goals as goal

pub returns-then-has : goal.returns-then-has
returns-then-has c = rw (sym c.has.ensures ∙ c.if-has.true) refl

pub returns : goal.returns
returns c = rw (sym c.has.ensures ∙ c.if-has.false) refl
