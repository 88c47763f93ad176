-- Document 02, 2.1: the links of a test, from the capabilities themselves. Chains (2.1) and rounds (2.6) go along them.
use Rattle.std.specs.Prelude.{◌≡◌, Bool, false, true, not, ◌&&◌, ◌||◌, List, ℕ, ◌<◌, ltb, length}
use Rattle.mask.specs.Sets.{has, any_below}
use Rattle.table.specs.declared.Capability.{Capability}
use Rattle.table.specs.declared.Table.{Table}
use Rattle.table.specs.Cells.{slot_at}
use Rattle.links.specs.Links.{capability_link}
use Rattle.bounds.specs.StandIn.{entry_at, stand_in}

-- "Each link is one capability held by a non-member or listed: an rd, wr or tx taken either way, a wk taken from target to holder":
-- slot j of n, which is no member, or entry k, which the stand-in holds
pub data Link (t : Table) (members : ℕ) (list : List Capability) (u v : ℕ) : Type 0 where
  held : (n j : ℕ) → n < 64 → has n members ≡ false → j < 8 → capability_link n (slot_at t n j) u v ≡ true → Link t members list u v
  listed : (k : ℕ) → k < length list → capability_link (stand_in members) (entry_at list k) u v ≡ true → Link t members list u v

-- the same, computed; the holder of a link's capability is one of its ends
unfoldable pub slots_link : Table → ℕ → ℕ → ℕ → ℕ → Bool
slots_link t members n u v = ltb n 64 && (not (has n members) && any_below 8 (λ j. capability_link n (slot_at t n j) u v))

unfoldable pub list_link : ℕ → List Capability → ℕ → ℕ → Bool
list_link members list u v = any_below (length list) (λ k. capability_link (stand_in members) (entry_at list k) u v)

unfoldable pub linked : Table → ℕ → List Capability → ℕ → ℕ → Bool
linked t members list u v = slots_link t members u u v || slots_link t members v u v || list_link members list u v

-- a link to an object: chains have "the stand-in left out" and rounds add objects, so it leads to a non-member
unfoldable pub object_link : Table → ℕ → List Capability → ℕ → ℕ → Bool
object_link t members list u v = not (has v members) && linked t members list u v
