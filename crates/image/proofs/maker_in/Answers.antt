-- `maker_in` is the definition, by the version: version 2 has its last byte. Assumes nothing.
use mathlib.Core.Path.{sym, ap}
use native.Mathlib.Omega.{arith}
use Rattle.image.specs.declared.Version.{Version}
use Rattle.image.specs.Layout.{record_length, maker_from}
use Rattle.image.proofs.maker_in.Goals as goal

pub bounds-part-30 : goal.bounds-part-30
bounds-part-30 c = omega (arith, c.requires, ap record_length c.in-Two.is)

pub returns-in-Two : goal.returns-in-Two
returns-in-Two c = ap (λ (v : Version). maker_from v c.args.part.now) (sym c.in-Two.is)
