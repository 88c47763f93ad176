-- `some_lost` is the definition, object by object. Assumes nothing.
use mathlib.Core.Path.{◌≡◌, ◌∙◌}
use lib.ListN.{length}
use Rattle.std.proofs.Common.{rules, tests}
use Rattle.std.proofs.lemmas.Iterator.{YieldsList-from_slice}
use Rattle.std.proofs.lemmas.Iterator.Search.{any_from_yields_List}
use Rattle.table.specs.declared.Record.{Record}
use Rattle.image.specs.Layout.{maker_lost}
use Rattle.image_out.proofs.Left.{lost_records}
use Rattle.image_out.proofs.some_lost.Goals as goal

pub returns : goal.returns
returns c =
    let l : length c.args.t.records ≡ 64 = search rules in
    any_from_yields_List (λ (r : Record). maker_lost c.args.v r.maker) _ _ _ c.any.ensures.ran (YieldsList-from_slice c.args.t.records cc) (λ x b q k. search (rules, tests))
    ∙ lost_records c.args.v c.args.t l
