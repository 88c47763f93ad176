-- What a table by value is known to be. A contract's `Table` is a record of two lists, and says no length and no field's bits;
-- whoever owns the value has them, since who owns an array owns each element: `value_is_table`. The wholly unborn table has them,
-- and a put of a value keeps them. By what the declared types say of a value. Assumes nothing.
use mathlib.Core.Path.{◌≡◌, refl, ◌∙◌}
use mathlib.Core.List.{List, [], ◌∷◌}
use Prim.Native.Nat.{ℕ, zero, suc, ◌+◌, ◌*◌, ◌^◌, ◌<◌}
use native.Mathlib.Omega.{arith}
use lib.ListN.{length, get_or, length-set}
use mir.Val.{Val}
use denote.Array.{each}
use denote.Laws.{Is}
use denote.Shadow.{shadow}
use denote.Struct.Declared.{Declared, row}
use denote.Struct.Laws as LL
use Rattle.table.specs.declared.Capability.{Capability}
use Rattle.table.specs.declared.Record.{Record}
use Rattle.table.specs.declared.Table.{Table}
use Rattle.table.specs.Cells.{IsTable, record_at, put_record, put_slot, empty_slot, no_record, unborn_record, unborn_table}
use Rattle.table.specs.contracts.Capability as C
use Rattle.table.proofs.Capability.TheLaws as C'
use Rattle.table.specs.contracts.Record as R
use Rattle.table.proofs.Record.TheLaws as R'
use Rattle.table.specs.contracts.Table as T
use Rattle.table.proofs.Table.TheLaws as T'
use Rattle.table.proofs.Cells.{Sized}
use Rattle.table.proofs.Lists.{put_any}
use Rattle.table.proofs.Places.{at_replicate}

pub records_long : (t : Table) (vs : List Val) → Is T.the_row t vs → length t.records ≡ 64
records_long t vs is = (LL.owed T.the_type T'.the_laws t vs is).0.1.0.1

pub slots_long : (t : Table) (vs : List Val) → Is T.the_row t vs → length t.slots ≡ 512
slots_long t vs is = (LL.owed T.the_type T'.the_laws t vs is).1.0.1.0.1

pub value_sized : (t : Table) (vs : List Val) → Is T.the_row t vs → Sized t
value_sized t vs is = record { records = records_long t vs is; slots = slots_long t vs is }

-- records and slots as values --------------------------------------------------------------------
-- a value of its declared type, at some machine values
abbrev ValueOf : (D : Declared) → D.D → Type 0
ValueOf D x = (vs : List Val) × Is (row D) x vs

abbrev pub RecordValue : Record → Type 0
RecordValue r = ValueOf R.the_type r

abbrev pub SlotValue : Capability → Type 0
SlotValue c = ValueOf C.the_type c

-- each is what has its fields within their bits
pub record-value : (r : Record) → r.status < 2 ^ 8 → r.kind < 2 ^ 8 → r.maker < 2 ^ 8 → r.word < 2 ^ 32 → r.stock < 2 ^ 64 → RecordValue r
record-value r s k m w p = (_, LL.owes R.the_type R'.the_laws r ((refl, s), ((refl, k), ((refl, m), ((refl, w), ((refl, p), tt))))))

pub slot_value : (c : Capability) → c.target < 2 ^ 8 → c.rights < 2 ^ 8 → SlotValue c
slot_value c g r = (_, LL.owes C.the_type C'.the_laws c ((refl, g), ((refl, r), tt)))

pub none_value : RecordValue no_record
none_value = record-value no_record (omega arith) (omega arith) (omega arith) (omega arith) (omega arith)

pub unborn_value : RecordValue unborn_record
unborn_value = record-value unborn_record (omega arith) (omega arith) (omega arith) (omega arith) (omega arith)

pub empty_value : SlotValue empty_slot
empty_value = slot_value empty_slot (omega arith) (omega arith)

-- what is read at any place of an array that is owned
element_value : (D : Declared) (d : D.D) → ValueOf D d → (xs : List D.D) (us : List Val)
    → shadow (each (row D).Denot (row D).own_val xs us) → (k : ℕ) → ValueOf D (get_or xs k d)
element_value D d past [] us is k = past
element_value D d past (x ∷ xs) [] is k = absurd is
element_value D d past (x ∷ xs) (u ∷ us) is zero = (u ∷ [], is.0)
element_value D d past (x ∷ xs) (u ∷ us) is (suc k) = element_value D d past xs us is.1 k

-- tables ----------------------------------------------------------------------------------------------
-- 64 records and 512 slots that are values. Behind `.1 .1 .1` stands what the type says of each field in turn, its bits second
pub values_are_table : (t : Table) → length t.records ≡ 64 → length t.slots ≡ 512
    → ((n : ℕ) → RecordValue (record_at t n)) → ((k : ℕ) → SlotValue (get_or t.slots k empty_slot)) → IsTable t
values_are_table t long wide object slot = record {
  records = long;
  slots = wide;
  statuses = λ n. (object n).1.1.1.0.1;
  kinds = λ n. (object n).1.1.1.1.0.1;
  makers = λ n. (object n).1.1.1.1.1.0.1;
  words = λ n. (object n).1.1.1.1.1.1.0.1;
  stocks = λ n. (object n).1.1.1.1.1.1.1.0.1;
  targets = λ k. (slot k).1.1.1.0.1;
  rights = λ k. (slot k).1.1.1.1.0.1;
}

pub value_is_table : (t : Table) (vs : List Val) → Is T.the_row t vs → IsTable t
value_is_table t vs is =
    let o = LL.owed T.the_type T'.the_laws t vs is in
    values_are_table t (records_long t vs is) (slots_long t vs is)
    (element_value R.the_type no_record none_value t.records o.0.0 o.0.1.1)
    (element_value C.the_type empty_slot empty_value t.slots o.1.0.0 o.1.0.1.1)

pub unborn_is_table : IsTable unborn_table
unfolding unborn_table
unborn_is_table = values_are_table unborn_table refl refl
    (λ n. at_replicate RecordValue no_record unborn_record 64 n unborn_value none_value) (λ k. at_replicate SlotValue empty_slot empty_slot 512 k empty_value empty_value)

-- and back, so a put of a value leaves a table
record_of_lem : (t : Table) → IsTable t → (n : ℕ) → RecordValue (record_at t n)
record_of_lem t z n = record-value (record_at t n) (z.statuses n) (z.kinds n) (z.makers n) (z.words n) (z.stocks n)

pub slot_of_lem : (t : Table) → IsTable t → (k : ℕ) → SlotValue (get_or t.slots k empty_slot)
slot_of_lem t z k = slot_value (get_or t.slots k empty_slot) (z.targets k) (z.rights k)

pub table_put_record : (t : Table) (n : ℕ) (r : Record) → IsTable t → RecordValue r → IsTable (put_record t n r)
table_put_record t n r z v = values_are_table (put_record t n r) (length-set t.records n r ∙ z.records) z.slots
    (λ m. put_any RecordValue t.records n m r no_record (λ e. v) (record_of_lem t z m)) (slot_of_lem t z)

pub table_put_slot : (t : Table) (n j : ℕ) (c : Capability) → IsTable t → SlotValue c → IsTable (put_slot t n j c)
table_put_slot t n j c z v = values_are_table (put_slot t n j c) z.records (length-set t.slots (n * 8 + j) c ∙ z.slots)
    (record_of_lem t z) (λ k. put_any SlotValue t.slots (n * 8 + j) k c empty_slot (λ e. v) (slot_of_lem t z k))
