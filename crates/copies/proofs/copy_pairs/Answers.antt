-- `copy_pairs` is the definition's copying. The loop's invariant: the pairs before this one are copied. Assumes nothing.
use mathlib.Core.Path.{◌∙◌}
use native.Mathlib.Omega.{arith}
use Rattle.std.proofs.lemmas.List.{get_or-take, length-take-le}
use Rattle.requests.specs.Asks.{pair_at}
use Rattle.copies.specs.Helpers.{cell_of}
use Rattle.copies.proofs.Pairs.{copy_none, copy_more, copy_all}
use Rattle.copies.proofs.copy_pairs.Goals as goal

pub pairs-init : goal.pairs-init
pairs-init c = copy_none _ _ _ _

pub pairs-preserved : goal.pairs-preserved
pairs-preserved c = copy_more c.args.t _ (cell_of c.args.row) c.args.n c.pairs.p-index (pair_at c.args.l) _ _ c.pairs.invariant
    (get_or-take c.args.l.count c.args.l.pairs c.pairs.p-index _ (omega (arith, length-take-le c.args.l.count c.args.l.pairs))) c.landed.ensures

pub returns : goal.returns
returns c = c.pairs.invariant ∙ copy_all c.args.t (cell_of c.args.row) c.args.n c.pairs.p-index c.args.l
    (omega (arith, length-take-le c.args.l.count c.args.l.pairs, c.requires.1.count))
