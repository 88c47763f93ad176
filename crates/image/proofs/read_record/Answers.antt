-- `read_record` meets its contract: the maker, and then what the versions share. Assumes nothing.
use mathlib.Core.Path.{◌∙◌, ap}
use native.Mathlib.Omega.{arith}
use Rattle.image.specs.Layout.{stored_with}
use Rattle.image.proofs.Fields.{shared_within}
use Rattle.image.proofs.read_record.Goals as goal

pub maker_in-maker-requires : goal.maker_in-maker-requires
maker_in-maker-requires c = c.requires

pub read_shared-requires : goal.read_shared-requires
read_shared-requires c = omega (arith, c.requires, shared_within c.args.v)

pub returns : goal.returns
returns c = c.read_shared.ensures ∙ ap (stored_with c.args.part.now) c.maker_in-maker.ensures
