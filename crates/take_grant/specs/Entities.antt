-- Source document 001: the entities of the older rigs' tables and their rights. "an entity is just a set of capabilities"; here they stand in a
-- row, as their bytes do, and a table is the row of its entities.
use Rattle.std.specs.Prelude.{Bool, ◌&&◌, ◌||◌, List, [], ℕ, get_or}
use Rattle.mask.specs.Sets.{has, bits}

-- 001: "record cap = {entity :: entity-id, rights :: rights set}"
pub record Cap : Type 0 where
  pub entity : ℕ
  pub rights : ℕ

-- 001: "types entity = cap set"
abbrev pub Entity : Type 0
Entity = List Cap

-- 001: "datatype rights = Read | Write | Grant | Create | Store"
pub data OldRight : Type 0 where
  Read Write Grant Create Store : OldRight

-- "Rights add up 1 Read, 2 Write, 4 Grant, 8 Create, 16 Store": the place of each
abbrev pub place_of : OldRight → ℕ
place_of Read = 0
place_of Write = 1
place_of Grant = 2
place_of Create = 3
place_of Store = 4

-- 001: "Store ∈ rights c", and so for the others
abbrev pub includes : OldRight → ℕ → Bool
includes a rights = has (place_of a) rights

-- "Read becomes rd, Write wr, Grant tx, Store rd and wr together, Create nothing": a row for each, as rights add up in a table (1 rd, 2 wr, 8 tx)
abbrev pub becomes : OldRight → ℕ
becomes Read = 1
becomes Write = 2
becomes Grant = 8
becomes Create = 0
becomes Store = 3

-- a is among the rights, and becomes the right at place k
abbrev pub gives : ℕ → OldRight → ℕ → Bool
gives rights a k = includes a rights && has k (becomes a)

-- what rights become, all together
unfoldable pub mapped : ℕ → ℕ
mapped rights = bits 4 (λ k. gives rights Read k || gives rights Write k || gives rights Grant k || gives rights Create k || gives rights Store k)

-- no capability: it has no rights
abbrev pub no_cap : Cap
no_cap = record { entity = 0; rights = 0 }

-- capability k of entity n, and none past the end
abbrev pub cap_at : List Entity → ℕ → ℕ → Cap
cap_at es n k = get_or (get_or es n []) k no_cap
