-- Document 02, 2.2: what reading finds, and why it stops. "A slice under four bytes gets 20. Then come the length field, the version and the entity
-- count. The entity walk follows byte by byte, and its first offence gives 22, or 20 for a wrong end."
use Rattle.std.specs.Prelude.{Bool, true, false, List, [], ◌∷◌, ℕ, zero, suc, ltb, leb, eqb, length, take, drop}
use Rattle.octets.specs.BigEndian.{byte_at, number_of}
use Rattle.take_grant.specs.declared.ImportRefusal.{ImportRefusal}
use Rattle.take_grant.specs.declared.ImportRefusal.TheVariants as R
use Rattle.take_grant.specs.Entities.{Cap, Entity}

-- what was read with the bytes that are left, or why the walk stopped
pub data Found (A : Type 0) : Type 0 where
  found : A → List ℕ → Found A
  stopped : ImportRefusal → Found A

-- what comes next, unless the walk has stopped
abbrev pub and_then : {A B : Type 0} → Found A → (A → List ℕ → Found B) → Found B
and_then (found x rest) next = next x rest
and_then (stopped why) next = stopped why

-- the next byte: 20 where there is none, 22 where it may not stand there
unfoldable pub byte_from : (ℕ → Bool) → List ℕ → Found ℕ
byte_from fits [] = stopped R.LengthWrong
byte_from fits (b ∷ rest) = elim (fits b) [ true ↦ found b rest | false ↦ stopped R.ValueWrong ]

-- so many of one kind, one after the other
unfoldable pub several : {A : Type 0} → (List ℕ → Found A) → ℕ → List ℕ → Found (List A)
several item zero bytes = found [] bytes
several item (suc k) bytes = and_then (item bytes) (λ x rest. and_then (several item k rest) (λ xs left. found (x ∷ xs) left))

-- a target below the entity count n, then rights of at most 31
unfoldable pub cap_from : ℕ → List ℕ → Found Cap
cap_from n bytes = and_then (byte_from (λ b. ltb b n) bytes)
    (λ target rest. and_then (byte_from (λ b. leb b 31) rest) (λ rights left. found (record { entity = target; rights = rights }) left))

-- a count of at most 8, then as many capabilities
unfoldable pub entity_from : ℕ → List ℕ → Found Entity
entity_from n bytes = and_then (byte_from (λ b. leb b 8) bytes) (λ count rest. several (cap_from n) count rest)

-- after the last entity no byte is left
abbrev pub at_end : List Entity → List ℕ → Found (List Entity)
at_end es [] = found es []
at_end es (b ∷ rest) = stopped R.LengthWrong

-- n entities, and no more
unfoldable pub entities_from : ℕ → List ℕ → Found (List Entity)
entities_from n bytes = and_then (several (entity_from n) n bytes) at_end

-- the four checks of the head, and then the walk
unfoldable pub walk_of : List ℕ → Found (List Entity)
walk_of bytes =
    elim (ltb (length bytes) 4) [
      | true ↦ stopped R.LengthWrong
      | false ↦ elim (eqb (number_of (take 2 bytes)) (length bytes)) [
        | false ↦ stopped R.LengthWrong
        | true ↦ elim (eqb (byte_at bytes 2) 1) [
          | false ↦ stopped R.VersionWrong
          | true ↦ elim (leb (byte_at bytes 3) 64) [ false ↦ stopped R.ValueWrong | true ↦ entities_from (byte_at bytes 3) (drop 4 bytes) ]
        ]
      ]
    ]
