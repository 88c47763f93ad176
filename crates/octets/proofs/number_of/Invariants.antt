use mathlib.Core.Path.{◌≡◌}
use Prim.Native.Nat.{◌<◌, ◌^◌}
use lib.ListN.{take}
use Rattle.octets.specs.BigEndian.{number_of}
use Rattle.octets.proofs.number_of.Given as goal

abbrev pub invariant-loop-b : goal.invariant-loop-b
invariant-loop-b l = (l.n ≡ number_of (take l.b-index l.bytes)) × (l.n < 256 ^ l.b-index)
