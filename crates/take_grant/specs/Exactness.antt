-- What document 02, 2.2 claims of the import, as statements; proofs/Claims.antt proves them. `es` are the entities that the bytes are.
use Rattle.std.specs.Prelude.{◌≡◌, ◌↔◌, true, false, ◌||◌, List, [], ℕ, suc, ◌<◌, length, Ok}
use Rattle.table.specs.declared.Table.{Table}
use Rattle.table.specs.Cells.{IsTable, no_maker, unborn_table, record_at, slot_at, maker_at, stock_at, born_at, is_alive, is_active, has_rd, has_wr, has_wk, has_tx}
use Rattle.table.specs.Soundness.{sound}
use Rattle.relation.specs.Relation.{Influences, table_holding}
use Rattle.octets.specs.BigEndian.{Bytes}
use Rattle.take_grant.specs.Entities.{Entity, Read, Write, Grant, Store, includes, mapped, cap_at}
use Rattle.take_grant.specs.Layout.{IsTakeGrant}
use Rattle.take_grant.specs.Walk.{found, walk_of}
use Rattle.take_grant.specs.Imports.{record_for, slot_for, table_of, import_of, table_after, number_after}
use Rattle.take_grant.specs.Stores.{StoreConnected, SharesCaps, Joined}

-- the walk and the grammar ------------------------------------------------------------
-- bytes that are a table of some entities
pub data LaidOut (bytes : List ℕ) : Type 0 where
  of_entities : (es : List Entity) → IsTakeGrant es bytes → LaidOut bytes

-- what the walk finds is exactly what the grammar has
unfoldable pub WalkExact : Type 0
WalkExact = (bytes : List ℕ) → Bytes bytes → (es : List Entity) → (walk_of bytes ≡ found es []) ↔ IsTakeGrant es bytes

-- so the import accepts exactly the bytes of the grammar
unfoldable pub AcceptsExactly : Type 0
AcceptsExactly = (bytes : List ℕ) → Bytes bytes → (number_after (import_of bytes) ≡ 0) ↔ LaidOut bytes

-- and gives back the table of their entities
unfoldable pub GivesBack : Type 0
GivesBack = (es : List Entity) (bytes : List ℕ) → IsTakeGrant es bytes → import_of bytes ≡ Ok (table_of es)

-- bytes are a table in one way alone
unfoldable pub OneReading : Type 0
OneReading = (es ds : List Entity) (bytes : List ℕ) → IsTakeGrant es bytes → IsTakeGrant ds bytes → es ≡ ds

-- what comes in, accepted or not -------------------------------------------------------
-- "elsewhere it brings back ... the wholly unborn table", document 01
unfoldable pub UnbornOnRefusal : Type 0
UnbornOnRefusal = (bytes : List ℕ) (k : ℕ) → number_after (import_of bytes) ≡ suc k → table_after (import_of bytes) ≡ unborn_table

-- a sound table; that it can then be tested, stepped and stored is `ImportUsable` of crates/runs
unfoldable pub AlwaysSound : Type 0
AlwaysSound = (bytes : List ℕ) → sound (table_after (import_of bytes)) ≡ true

-- and a value of the table type
unfoldable pub AlwaysTable : Type 0
AlwaysTable = (bytes : List ℕ) → IsTable (table_after (import_of bytes))

-- "no stock"
unfoldable pub NoStock : Type 0
NoStock = (bytes : List ℕ) (n : ℕ) → stock_at (table_after (import_of bytes)) n ≡ 0

-- none of them was made in a run: "or 64 for an object not made in a run" (2.7)
unfoldable pub NobodyMade : Type 0
NobodyMade = (bytes : List ℕ) (n : ℕ) → n < 64 → maker_at (table_after (import_of bytes)) n ≡ no_maker

-- "alive, active": no object is dead or passive
unfoldable pub AliveActive : Type 0
AliveActive = (bytes : List ℕ) (n : ℕ) → born_at (table_after (import_of bytes)) n ≡ true
    → (is_alive (record_at (table_after (import_of bytes)) n) ≡ true) × (is_active (record_at (table_after (import_of bytes)) n) ≡ true)

-- what each entity becomes ---------------------------------------------------------------
-- "Entities are numbered from 0 as they come and become alive, active, word 0, no stock"; all other numbers stay unborn
unfoldable pub Numbered : Type 0
Numbered = (es : List Entity) (bytes : List ℕ) → IsTakeGrant es bytes → (n : ℕ) → n < 64 → record_at (table_after (import_of bytes)) n ≡ record_for es n

-- "in its place": slot k of object n is what capability k of entity n becomes, and its rights are the mapping
unfoldable pub InPlace : Type 0
InPlace = (es : List Entity) (bytes : List ℕ) → IsTakeGrant es bytes → (n k : ℕ) → k < 8
    → (slot_at (table_after (import_of bytes)) n k ≡ slot_for (cap_at es n k)) × ((slot_at (table_after (import_of bytes)) n k).rights ≡ mapped (cap_at es n k).rights)

-- the mapping, right by right
pub record Rows (rights : ℕ) : Type 0 where
  pub rd : has_rd (mapped rights) ≡ (includes Read rights || includes Store rights)
  pub wr : has_wr (mapped rights) ≡ (includes Write rights || includes Store rights)
  pub wk : has_wk (mapped rights) ≡ false
  pub tx : has_tx (mapped rights) ≡ includes Grant rights

unfoldable pub RightByRight : Type 0
RightByRight = (rights : ℕ) → Rows rights

-- Store links ------------------------------------------------------------------------------
-- each influences the other, by potential access of the table, and in one step
pub record EachOther (t : Table) (x y : ℕ) : Type 0 where
  pub there : Influences (table_holding t) x y
  pub back : Influences (table_holding t) y x

-- "Two entities joined by Store links in 001's sense must influence each other in the result"
unfoldable pub StoreJoins : Type 0
StoreJoins = (es : List Entity) (bytes : List ℕ) → IsTakeGrant es bytes → (x y : ℕ) → x < length es → Joined es x y → EachOther (table_after (import_of bytes)) x y

-- so for 001's own two
unfoldable pub StoreConnects : Type 0
StoreConnects = (es : List Entity) (bytes : List ℕ) → IsTakeGrant es bytes → (x y : ℕ) → x < length es → StoreConnected es x y → EachOther (table_after (import_of bytes)) x y

unfoldable pub SharingJoins : Type 0
SharingJoins = (es : List Entity) (bytes : List ℕ) → IsTakeGrant es bytes → (x y : ℕ) → x < length es → SharesCaps es x y → EachOther (table_after (import_of bytes)) x y
