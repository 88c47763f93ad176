-- What entities that the grammar has become: each cell of their table, that it is sound, and that it is a value of the table type. By what the
-- grammar says of each capability. Assumes nothing.
use mathlib.Core.Path.{◌≡◌, refl, sym, ◌∙◌, ap}
use mathlib.Core.Logic.{◌≢◌}
use mathlib.Core.Bool.{true, false}
use mathlib.Core.List.{List, []}
use Prim.Native.Nat.{ℕ, zero, suc, ◌+◌, ◌*◌, ◌/◌, ◌%◌, ◌^◌, ◌≤◌, ◌<◌}
use native.Mathlib.Omega.{arith}
use lib.Dec.{ltb, eqb}
use lib.ListN.{length, get_or, get_or-eq_default}
use borrow.Author.Tests.{ltb-true, ltb-false, lt-ltb, eqb-true, eqb-false, ne_eqb}
use Rattle.mask.specs.Sets.{has, bits}
use Rattle.mask.proofs.Tests.{by_cases, clash}
use Rattle.mask.proofs.Bits.{has_zero}
use Rattle.table.specs.declared.Capability.{Capability}
use Rattle.table.specs.declared.Record.{Record}
use Rattle.table.specs.Cells.{IsTable, no_maker, record_at, slot_at, status_at, maker_at, stock_at, empty_slot, no_record, unborn_record}
use Rattle.table.specs.Soundness.{sound}
use Rattle.table.proofs.Lists.{length_tabulate, get_d_tabulate}
use Rattle.table.proofs.Cells.{Sized, record-high, slot_high}
use Rattle.table.proofs.Places.{at_tabulate}
use Rattle.table.proofs.SoundFacts.{RecordFine, SlotFine, Sound, sound_true}
use Rattle.take_grant.specs.Entities.{Cap, Entity, mapped, no_cap, cap_at}
use Rattle.take_grant.specs.Layout.{Row, none, next, IsCapability, capability, IsEntity, entity}
use Rattle.take_grant.specs.Imports.{entity_record, record_for, slot_for, table_of}
use Rattle.take_grant.proofs.Rights.{mapped_high}

-- entities that the grammar has, with the bytes that they are laid out as
pub record Legal (es : List Entity) : Type 0 where
  pub few : length es ≤ 64
  pub laid : List ℕ
  pub row : Row (IsEntity (length es)) es laid

pub none_legal : Legal []
none_legal = record { few = omega arith; laid = []; row = none }

-- each capability ---------------------------------------------------------------------------
row_at_lem : {A : Type 0} (Is : A → List ℕ → Type 0) (P : A → Type 0) (d : A) → ((x : A) (bs : List ℕ) → Is x bs → P x)
    → (xs : List A) (bs : List ℕ) → Row Is xs bs → (k : ℕ) → k < length xs → P (get_or xs k d)
row_at_lem Is P d h xs bs none k l = absurd (omega arith)
row_at_lem Is P d h xs bs (next {x = x} {bs = b} i r) zero l = h x b i
row_at_lem Is P d h xs bs (next {xs = ys} {rest = more} i r) (suc k) l = row_at_lem Is P d h ys more r k (omega arith)

-- a capability in a table of n entities
pub record CapFine (n : ℕ) (c : Cap) : Type 0 where
  pub target : c.entity < n
  pub high : c.rights ≤ 31

pub record EntityFine (n : ℕ) (e : Entity) : Type 0 where
  pub few : length e ≤ 8
  pub caps : (k : ℕ) → k < length e → CapFine n (get_or e k no_cap)

cap_fine : (n : ℕ) (c : Cap) (bs : List ℕ) → IsCapability n c bs → CapFine n c
cap_fine n c bs (capability h g) = record { target = h; high = g }

entity_fine : (n : ℕ) (e : Entity) (bs : List ℕ) → IsEntity n e bs → EntityFine n e
entity_fine n e bs (entity {bs = b} h r) = record { few = h; caps = row_at_lem (IsCapability n) (CapFine n) no_cap (cap_fine n) e b r }

mapped_none : mapped 0 ≡ 0
unfolding mapped bits
mapped_none = refl

-- a slot has the mapping for its rights, filled or not
pub slot_rights : (c : Cap) → (slot_for c).rights ≡ mapped c.rights
slot_rights c = by_cases (eqb (mapped c.rights) 0)
    (λ e. rw (e, slot_for) (sym (eqb-true _ 0 e)))
    (λ e. rw (e, slot_for) refl)

pub slot_target : (c : Cap) → mapped c.rights ≢ 0 → (slot_for c).target ≡ c.entity
slot_target c h = rw (ne_eqb _ 0 h, slot_for) refl

slot_empty : (c : Cap) → mapped c.rights ≡ 0 → slot_for c ≡ empty_slot
slot_empty c h = rw (h, slot_for) refl

module _ (es : List Entity) (l : Legal es) where
  -- the two places of a capability that is there
  pub record There (n k : ℕ) : Type 0 where
    pub holder : n < length es
    pub place : k < length (get_or es n [])
    pub fine : CapFine (length es) (cap_at es n k)

  pub at_entity : (n : ℕ) → n < length es → EntityFine (length es) (get_or es n [])
  at_entity n h = row_at_lem (IsEntity (length es)) (EntityFine (length es)) [] (entity_fine (length es)) es l.laid l.row n h

  -- what has a right left is there
  pub there : (n k : ℕ) → mapped (cap_at es n k).rights ≢ 0 → There n k
  there n k h =
      let past : cap_at es n k ≡ no_cap → ⊥ = λ e. h (ap (λ (c : Cap). mapped c.rights) e ∙ mapped_none) in
      by_cases (ltb n (length es))
      (λ p. let p' = ltb-true n (length es) p in by_cases (ltb k (length (get_or es n [])))
      (λ q. let q' = ltb-true k (length (get_or es n [])) q in record { holder = p'; place = q'; fine = (at_entity n p').caps k q' })
      (λ q. absurd (past (get_or-eq_default (get_or es n []) no_cap {n = k} (ltb-false k _ q)))))
      (λ p. absurd (past (ap (λ (e : Entity). get_or e k no_cap) (get_or-eq_default es [] {n = n} (ltb-false n _ p)))))

  -- each cell of the table ------------------------------------------------------------------------
  size : Sized (table_of es)
  unfolding table_of
  size = record { records = length_tabulate 64 _; slots = length_tabulate 512 _ }

  pub record_at_lem : (n : ℕ) → n < 64 → record_at (table_of es) n ≡ record_for es n
  unfolding table_of
  record_at_lem n h = get_d_tabulate 64 (record_for es) n no_record h

  pub slot_at_lem : (n k : ℕ) → k < 8 → slot_at (table_of es) n k ≡ slot_for (cap_at es n k)
  unfolding table_of
  slot_at_lem n k h = by_cases (ltb n 64)
      (λ g. let g' = ltb-true n 64 g in
      let a : (n * 8 + k) / 8 ≡ n = omega arith in
      let b : (n * 8 + k) % 8 ≡ k = omega arith in
      get_d_tabulate 512 _ (n * 8 + k) empty_slot (omega arith) ∙ (rw (a, b) refl))
      (λ g. let g' = ltb-false n 64 g in
      let f = l.few in
      slot_high (table_of es) n k size g'
      ∙ sym (slot_empty (cap_at es n k) (ap (λ (e : Entity). mapped (get_or e k no_cap).rights) (get_or-eq_default es [] {n = n} (omega arith)) ∙ mapped_none)))

  pub alive_at_lem : (n : ℕ) → n < length es → record_at (table_of es) n ≡ entity_record
  alive_at_lem n h = let f = l.few in record_at_lem n (omega arith) ∙ (rw (lt-ltb n (length es) h, record_for) refl)

  -- a fact of the record of every object, of the two that there are
  pub each_object : (P : Record → Type 0) → P entity_record → P unborn_record → (n : ℕ) → n < 64 → P (record_at (table_of es) n)
  each_object P a u n b = rw (record_at_lem n b) (by_cases (ltb n (length es)) (λ h. rw (h, record_for) a) (λ h. rw (h, record_for) u))

  -- and of every number, with what is read past the end
  pub each_record : (P : Record → Type 0) → P entity_record → P unborn_record → P no_record → (n : ℕ) → P (record_at (table_of es) n)
  each_record P a u z n = by_cases (ltb n 64)
      (λ h. each_object P a u n (ltb-true n 64 h))
      (λ h. rw (record-high (table_of es) n size (ltb-false n 64 h)) z)

  pub nobody_made : (n : ℕ) → n < 64 → maker_at (table_of es) n ≡ no_maker
  nobody_made = each_object (λ r. r.maker ≡ no_maker) refl refl

  -- soundness ------------------------------------------------------------------------------------------
  slot_sound_lem : (n k : ℕ) → k < 8 → SlotFine (status_at (table_of es) n) (status_at (table_of es) (slot_at (table_of es) n k).target) (slot_at (table_of es) n k)
  slot_sound_lem n k h =
      let c = cap_at es n k in
      let e = slot_at_lem n k h in
      by_cases (eqb (mapped c.rights) 0)
      (λ z. rw (e ∙ slot_empty c (eqb-true _ 0 z)) (record { blank = λ q. refl; held = λ q. absurd (omega arith); named = λ q. absurd (omega arith); high = omega arith }))
      (λ z.
      let filled : mapped c.rights ≢ 0 = eqb-false _ 0 z in
      let p = there n k filled in
      let g : (slot_at (table_of es) n k).target ≡ c.entity = ap (λ (s : Capability). s.target) e ∙ slot_target c filled in
      let r : (slot_at (table_of es) n k).rights ≡ mapped c.rights = ap (λ (s : Capability). s.rights) e ∙ slot_rights c in
      let m = mapped_high c.rights in
      let a = ap (λ (x : Record). x.status) (alive_at_lem n p.holder) in
      let b = ap (status_at (table_of es)) g ∙ ap (λ (x : Record). x.status) (alive_at_lem c.entity p.fine.target) in
      record { blank = λ q. absurd (filled (sym r ∙ q)); held = λ q. a; named = λ q. omega arith; high = omega arith })

  no_stock : (n k : ℕ) → has k (stock_at (table_of es) n) ≡ true → ⊥
  no_stock n k h = clash h (each_record (λ r. has k r.stock ≡ false) (has_zero k) (has_zero k) (has_zero k) n)

  pub legal_facts : Sound (table_of es)
  legal_facts = record {
    size = size;
    records = each_record RecordFine
        (record { low = omega arith; sort = omega arith; still = λ q. absurd (q refl); plain = λ q. absurd (omega arith) })
        (record { low = omega arith; sort = omega arith; still = λ q. (refl, refl); plain = λ q. refl })
        (record { low = omega arith; sort = omega arith; still = λ q. (refl, refl); plain = λ q. refl });
    makers = λ n h. record { alone = λ q. nobody_made n h; born = λ q. absurd (q (nobody_made n h)) };
    slots = slot_sound_lem;
    stocks = λ n k h e. absurd (no_stock n k e);
    apart = λ n m k h e f. absurd (no_stock n k e);
  }

  pub legal_sound : sound (table_of es) ≡ true
  legal_sound = sound_true (table_of es) legal_facts

  -- the table type -----------------------------------------------------------------------------------
  cap_bits : (n k : ℕ) → ((slot_for (cap_at es n k)).target < 2 ^ 8) × ((slot_for (cap_at es n k)).rights < 2 ^ 8)
  cap_bits n k = let c = cap_at es n k in
      by_cases (eqb (mapped c.rights) 0)
      (λ z. rw (slot_empty c (eqb-true _ 0 z)) (omega arith, omega arith))
      (λ z. let filled : mapped c.rights ≢ 0 = eqb-false _ 0 z in
      let p = (there n k filled).fine.target in
      let f = l.few in
      (rw (slot_target c filled) (omega arith), rw (slot_rights c) (omega (arith, mapped_high c.rights))))

  pub legal_table : IsTable (table_of es)
  unfolding table_of
  legal_table = record {
    records = size.records;
    slots = size.slots;
    statuses = each_record (λ r. r.status < 2 ^ 8) (omega arith) (omega arith) (omega arith);
    kinds = each_record (λ r. r.kind < 2 ^ 8) (omega arith) (omega arith) (omega arith);
    makers = each_record (λ r. r.maker < 2 ^ 8) (omega arith) (omega arith) (omega arith);
    words = each_record (λ r. r.word < 2 ^ 32) (omega arith) (omega arith) (omega arith);
    stocks = each_record (λ r. r.stock < 2 ^ 64) (omega arith) (omega arith) (omega arith);
    targets = λ k. at_tabulate (λ (s : Capability). s.target < 2 ^ 8) empty_slot 512 _ k (cap_bits (k / 8) (k % 8)).0 (omega arith);
    rights = λ k. at_tabulate (λ (s : Capability). s.rights < 2 ^ 8) empty_slot 512 _ k (cap_bits (k / 8) (k % 8)).1 (omega arith);
  }
