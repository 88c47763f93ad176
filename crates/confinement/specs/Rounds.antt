-- Document 02, 2.6: "Report with the bound the number of rounds that added an object."
use Rattle.std.specs.Prelude.{List, ℕ}
use Rattle.table.specs.declared.Capability.{Capability}
use Rattle.table.specs.declared.Table.{Table}
use Rattle.links.specs.Rounds.{there_after, rounds_from}
use Rattle.bounds.specs.StandIn.{stand_in}
use Rattle.confinement.specs.Links.{object_link}

-- "Round one adds the objects one link from the stand-in, as links are described in 2.1; each later round adds those one link from what is
-- there": the objects that are there after k rounds
unfoldable pub objects_after : Table → ℕ → List Capability → ℕ → ℕ
objects_after t members list k = there_after (object_link t members list) (stand_in members) k

-- "the number of rounds that added an object"
unfoldable pub rounds_of : Table → ℕ → List Capability → ℕ
rounds_of t members list = rounds_from (object_link t members list) (stand_in members)
