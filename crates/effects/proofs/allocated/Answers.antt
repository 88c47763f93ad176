-- `allocated` is the definition's table: what `row_of`, `without`, `less` and `copy_pairs` ensure, put into one law. Assumes nothing.
use Rattle.effects.proofs.Several.{allocated_is}
use Rattle.effects.proofs.allocated.Goals as goal

pub returns : goal.returns
returns c = allocated_is c.args.t _ c.args.a c.args.n c.args.kind c.args.part c.args.i c.args.l _ _ _ c.requires.1.1.1 c.row_of-row.ensures c.without.ensures c.less.ensures c.copy_pairs-u.ensures
