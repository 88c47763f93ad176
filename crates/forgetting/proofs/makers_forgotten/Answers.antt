-- `makers_forgotten` is the definition's table. The loop's invariant: the maker bytes that it has passed have forgotten the number.
-- Assumes nothing.
use mathlib.Core.Path.{ap}
use lib.ListN.{get_or}
use native.Mathlib.Omega.{arith}
use Rattle.table.specs.Cells.{no_record}
use Rattle.table.proofs.Value.{records_long}
use Rattle.forgetting.specs.Forgetting.{unmade}
use Rattle.forgetting.proofs.Mapped.{mapped_none, mapped_more, with_maker, makers_done}
use Rattle.forgetting.proofs.makers_forgotten.Goals as goal

pub makers-init : goal.makers-init
makers-init c = mapped_none _ _

pub makers-preserved : goal.makers-preserved
makers-preserved c = let z = records_long c.args.t _ c.well_formed.0 in
    mapped_more (unmade c.args.g) c.makers.r-index c.args.t.records _ no_record _ (omega arith) c.makers.invariant
    (ap (with_maker (get_or c.makers.r-items c.makers.r-index no_record)) c.maker_left-r.ensures)

pub returns : goal.returns
returns c = makers_done c.args.t _ c.args.g c.makers.r-index (records_long c.args.t _ c.well_formed.0) c.makers-test.false c.makers.auto.r-index-end c.makers.invariant
