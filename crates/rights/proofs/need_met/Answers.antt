-- `need_met` is the column of the need in the row of the rights. Assumes nothing.
use mathlib.Core.Path.{sym, ◌∙◌, ap}
use Rattle.rights.specs.declared.Need.{Need}
use Rattle.rights.specs.declared.Worth.{Worth}
use Rattle.rights.specs.Rows.{need_met}
use Rattle.rights.proofs.need_met.Goals as goal

pub returns-in-ReadOrWeak : goal.returns-in-ReadOrWeak
unfolding need_met
returns-in-ReadOrWeak c = ap (λ (w : Worth). w.1) c.worth_of-reads.ensures ∙ ap (λ (n : Need). need_met n c.args.rights) (sym c.in-ReadOrWeak.is)

pub returns-in-Write : goal.returns-in-Write
unfolding need_met
returns-in-Write c = ap (λ (w : Worth). w.2) c.worth_of-reads.ensures ∙ ap (λ (n : Need). need_met n c.args.rights) (sym c.in-Write.is)

pub returns-in-Send : goal.returns-in-Send
unfolding need_met
returns-in-Send c = ap (λ (w : Worth). w.3) c.worth_of-reads.ensures ∙ ap (λ (n : Need). need_met n c.args.rights) (sym c.in-Send.is)
