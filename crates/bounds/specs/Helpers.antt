-- What a helper promises: the bound, and how many rounds from the stand-in add something. Rounds.antt of `confinement` says what is reported.
use Rattle.std.specs.Prelude.{List, ℕ}
use Rattle.table.specs.declared.Capability.{Capability}
use Rattle.table.specs.declared.Table.{Table}
use Rattle.relation.specs.Closure.{link}
use Rattle.links.specs.Helpers.{spread_of}
use Rattle.bounds.specs.declared.Grown.{Grown}
use Rattle.bounds.specs.StandIn.{stand_in, test_holding, bound_of}

unfoldable pub bound_grown : Table → ℕ → List Capability → Grown
bound_grown t members list = record { bound = bound_of t members list; rounds = (spread_of (link (test_holding t members list)) (stand_in members)).rounds }
