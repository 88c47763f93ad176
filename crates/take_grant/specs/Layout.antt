-- Document 02, 2.2: what bytes are a table of entities, as a grammar. "Layout: total length (2 bytes, big-endian), version byte 1, entity count 0
-- to 64; an entity is a capability count 0 to 8, then target and rights a capability."
use Rattle.std.specs.Prelude.{List, [], ◌∷◌, ◌++◌, ℕ, ◌+◌, ◌≤◌, ◌<◌, length}
use Rattle.octets.specs.BigEndian.{bytes_of}
use Rattle.take_grant.specs.Entities.{Cap, Entity}

-- several of one kind, one after the other
pub data Row {A : Type 0} (Is : A → List ℕ → Type 0) : List A → List ℕ → Type 0 where
  none : Row Is [] []
  next : {x : A} {xs : List A} {bs rest : List ℕ} → Is x bs → Row Is xs rest → Row Is (x ∷ xs) (bs ++ rest)

-- "target and rights a capability", in a table of n entities: the target below n, the rights at most 31
pub data IsCapability (n : ℕ) : Cap → List ℕ → Type 0 where
  capability : {c : Cap} → c.entity < n → c.rights ≤ 31 → IsCapability n c (c.entity ∷ c.rights ∷ [])

-- "an entity is a capability count 0 to 8, then target and rights a capability"
pub data IsEntity (n : ℕ) : Entity → List ℕ → Type 0 where
  entity : {e : Entity} {bs : List ℕ} → length e ≤ 8 → Row (IsCapability n) e bs → IsEntity n e (length e ∷ bs)

-- "total length (2 bytes, big-endian), version byte 1, entity count 0 to 64", then the entities, "numbered from 0 as they come"
pub data IsTakeGrant : List Entity → List ℕ → Type 0 where
  table : {es : List Entity} {bs : List ℕ} → length es ≤ 64 → Row (IsEntity (length es)) es bs
      → IsTakeGrant es (bytes_of 2 (4 + length bs) ++ (1 ∷ length es ∷ bs))
