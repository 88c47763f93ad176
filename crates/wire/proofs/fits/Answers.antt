-- `fits` meets its contract: a request is there where the bytes fit. Assumes nothing.
use Rattle.std.proofs.Common.{◌∙◌, ap}
use Rattle.std.specs.Option.{is_some}
use Rattle.wire.proofs.Parsed.{is_some_asked}
use Rattle.wire.proofs.fits.Goals as goal

pub returns : goal.returns
returns c = c.is_some.ensures ∙ ap is_some c.asked_in.ensures ∙ is_some_asked c.args.bytes.now
