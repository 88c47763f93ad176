-- What is read after a put: the same place has what was put, every other place what it had. Assumes nothing.
use mathlib.Core.Path.{◌≡◌, ◌∙◌, ap₂}
use mathlib.Core.Logic.{◌≢◌}
use mathlib.Core.List.{List}
use Prim.Native.Nat.{ℕ, ◌+◌, ◌*◌, ◌≤◌, ◌<◌}
use native.Mathlib.Omega.{arith}
use lib.ListN.{length, length-set, get_or-eq_default}
use lib.Seq.{get_or-set_same, get_or-set_other}
use Rattle.mask.proofs.Tests.{by_eq}
use Rattle.table.specs.declared.Capability.{Capability}
use Rattle.table.specs.declared.Record.{Record}
use Rattle.table.specs.declared.Table.{Table}
use Rattle.table.proofs.Lists.{put_any}
use Rattle.table.specs.Cells.{IsTable, record_at, slot_at, put_record, put_slot, empty_slot, no_record}

-- two tables are the same if their lists are
pub tables_same : {a b : List Record} {c d : List Capability} → a ≡ b → c ≡ d → ◌≡◌ {A = Table} (record { records = a; slots = c }) (record { records = b; slots = d })
tables_same e f = ap₂ (λ (x : List Record) (y : List Capability). record { records = x; slots = y }) e f

-- 64 records and 512 slots
pub record Sized (t : Table) : Type 0 where
  pub records : length t.records ≡ 64
  pub slots : length t.slots ≡ 512

pub table_sized : (t : Table) → IsTable t → Sized t
table_sized t i = record { records = i.records; slots = i.slots }

pub sized_put_slot : (t : Table) (n j : ℕ) (c : Capability) → Sized t → Sized (put_slot t n j c)
sized_put_slot t n j c z = record { records = z.records; slots = length-set t.slots (n * 8 + j) c ∙ z.slots }

pub sized_put_record : (t : Table) (n : ℕ) (r : Record) → Sized t → Sized (put_record t n r)
sized_put_record t n r z = record { records = length-set t.records n r ∙ z.records; slots = z.slots }

pub record_same : (t : Table) (n : ℕ) (r : Record) → Sized t → n < 64 → record_at (put_record t n r) n ≡ r
record_same t n r z h = get_or-set_same t.records n r no_record (omega (arith, z.records))

pub record-other : (t : Table) (n m : ℕ) (r : Record) → m ≢ n → record_at (put_record t n r) m ≡ record_at t m
record-other t n m r h = get_or-set_other t.records n m r no_record h

pub slot_same : (t : Table) (n j : ℕ) (c : Capability) → Sized t → n < 64 → j < 8 → slot_at (put_slot t n j c) n j ≡ c
slot_same t n j c z h g = get_or-set_same t.slots (n * 8 + j) c empty_slot (omega (arith, z.slots))

pub slot_other : (t : Table) (n j m k : ℕ) (c : Capability) → j < 8 → k < 8 → m ≢ n → slot_at (put_slot t n j c) m k ≡ slot_at t m k
slot_other t n j m k c hj hk h = get_or-set_other t.slots (n * 8 + j) (m * 8 + k) c empty_slot (λ e. h (omega arith))

pub slot_beside : (t : Table) (n j m k : ℕ) (c : Capability) → k ≢ j → j < 8 → k < 8 → slot_at (put_slot t n j c) m k ≡ slot_at t m k
slot_beside t n j m k c h hj hk = get_or-set_other t.slots (n * 8 + j) (m * 8 + k) c empty_slot (λ e. h (omega arith))

-- a fact of each slot after a put: of what was put at its place, of the old one elsewhere; and of each record
pub slot_put : (P : Capability → Type 0) (t : Table) (n j m k : ℕ) (c : Capability) → Sized t → n < 64 → j < 8 → k < 8
    → (m ≡ n → k ≡ j → P c) → P (slot_at t m k) → P (slot_at (put_slot t n j c) m k)
slot_put P t n j m k c z h hj hk new old =
    by_eq m n
    (λ e. by_eq k j
    (λ f. rw (e, f, slot_same t n j c z h hj) (new e f))
    (λ f. rw (slot_beside t n j m k c f hj hk) old))
    (λ e. rw (slot_other t n j m k c hj hk e) old)

pub record-put : (P : Record → Type 0) (t : Table) (n m : ℕ) (r : Record) → Sized t → n < 64
    → (m ≡ n → P r) → (m ≢ n → P (record_at t m)) → P (record_at (put_record t n r) m)
record-put P t n m r z h new old =
    by_eq m n (λ e. rw (e, record_same t n r z h) (new e)) (λ e. rw (record-other t n m r e) (old e))

-- the same of slots by their places in the list, however long it is
pub slot_put_at : (P : Capability → Type 0) (t : Table) (n j m k : ℕ) (c : Capability) → (m * 8 + k ≡ n * 8 + j → P c) → P (slot_at t m k)
    → P (slot_at (put_slot t n j c) m k)
slot_put_at P t n j m k c new old = put_any P t.slots (n * 8 + j) (m * 8 + k) c empty_slot new old

-- past the end nothing is born and no slot is filled
pub record-high : (t : Table) (n : ℕ) → Sized t → 64 ≤ n → record_at t n ≡ no_record
record-high t n z h = get_or-eq_default t.records no_record (omega (arith, z.records))

pub slot_high : (t : Table) (n j : ℕ) → Sized t → 64 ≤ n → slot_at t n j ≡ empty_slot
slot_high t n j z h = get_or-eq_default t.slots empty_slot (omega (arith, z.slots))
