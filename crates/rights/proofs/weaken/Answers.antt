-- `weaken` is the definition's weakening, by the first column of the row. Assumes nothing.
use mathlib.Core.Path.{refl, sym, ◌∙◌, ap}
use lib.Dec.{eqb}
use borrow.Author.Tests.{eq-eqb, ne_eqb}
use Rattle.table.specs.declared.Capability.{Capability}
use Rattle.rights.specs.declared.Worth.{Worth}
use Rattle.rights.specs.Rows.{weaken}
use Rattle.rights.proofs.weaken.Goals as goal

pub returns-then-left-eq-EMPTY : goal.returns-then-left-eq-EMPTY
unfolding weaken
returns-then-left-eq-EMPTY c = rw (ap (λ (w : Worth). eqb w.0 0) (sym c.worth_of-left.ensures) ∙ eq-eqb _ 0 c.if-left-eq-EMPTY.true, weaken) refl

pub returns : goal.returns
unfolding weaken
returns c = rw (ap (λ (w : Worth). eqb w.0 0) (sym c.worth_of-left.ensures) ∙ ne_eqb _ 0 c.if-left-eq-EMPTY.false, weaken)
    (ap {B = Capability} (λ (w : Worth). record { target = c.args.c.target; rights = w.0 }) c.worth_of-left.ensures)
