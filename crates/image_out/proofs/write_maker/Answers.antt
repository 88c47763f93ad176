-- `write_maker` is the definition, by the version: version 2 has a last byte. Assumes nothing.
use mathlib.Core.Path.{sym, ap}
use native.Mathlib.Omega.{arith}
use Rattle.image.specs.declared.Version.{Version}
use Rattle.image.specs.Layout.{record_length}
use Rattle.image_out.specs.Helpers.{with_last}
use Rattle.image_out.proofs.write_maker.Goals as goal

pub bounds-part-30 : goal.bounds-part-30
bounds-part-30 c = omega (arith, c.requires, ap record_length c.in-Two.is)

pub returns-in-Two : goal.returns-in-Two
returns-in-Two c = ap (λ (v : Version). with_last v c.args.maker c.args.part.now) (sym c.in-Two.is)
