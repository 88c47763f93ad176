-- The loop that reads a table: what has been read when n records and k slots are in place. Both stand in number order, so what is stored
-- comes next in its list. What the record reader of both versions puts together stands first. Assumes nothing.
use mathlib.Core.Path.{◌≡◌, refl, sym, ◌∙◌, ap, ap₂}
use mathlib.Core.List.{List, [], ◌∷◌, ◌++◌, append_assoc, append-nil}
use Prim.Native.Nat.{ℕ, zero, suc, ◌+◌, ◌-◌, ◌*◌, ◌/◌, ◌%◌, ◌^◌, ◌≤◌, ◌<◌}
use native.Mathlib.Nat.{add-zero}
use native.Mathlib.Omega.{arith}
use lib.ListN.{length, set, take, drop, length-set, length-append, length-take, length-drop, take-append-drop}
use lib.Seq.{length-take-le, take_at}
use borrow.Rule.Slice.PartMut.{put_mid}
use Rattle.table.specs.declared.Capability.{Capability}
use Rattle.table.specs.declared.Record.{Record}
use Rattle.table.specs.declared.Table.{Table}
use Rattle.table.specs.Cells.{unborn_table, empty_slot}
use Rattle.table.specs.Lists.{tabulate}
use Rattle.image.specs.declared.Stored.{Stored}
use Rattle.octets.specs.BigEndian.{Bytes, byte_at, number_of}
use Rattle.image.specs.declared.Version.{Version}
use Rattle.image.specs.Layout.{record_length, part_of, record_with, record_from, slot_from, stored_with, stored_from, table_from}
use Rattle.octets.proofs.BigEndian.{number_from_lem, number_append, number_lt}
use Rattle.octets.proofs.Parts.{bytes_take, bytes_drop}
use Rattle.table.proofs.Lists.{length_tabulate, get_d_tabulate, tabulate_snoc, as_tabulate}
use Rattle.table.proofs.Cells.{tables_same}
use Rattle.octets.proofs.Lists.{filled_none, filled_more, filled_all, lent_next}
use Rattle.image.proofs.Fields.{take_two}

-- the record reader -----------------------------------------------------------------------
-- it takes four bytes at a time, of which the stock has twice as many
abbrev pub four_at : List ℕ → ℕ → ℕ
four_at part k = number_of (take 4 (drop k part))

length_four : (part : List ℕ) (k : ℕ) → k + 4 ≤ length part → length (take 4 (drop k part)) ≡ 4
length_four part k l = simp (length-take, length-drop) (omega arith)

pub four_fits : (part : List ℕ) (k : ℕ) → k + 4 ≤ length part → Bytes part → four_at part k < 2 ^ 32
four_fits part k l b = rw (length_four part k l) at (number_lt (take 4 (drop k part)) (bytes_take 4 (drop k part) (bytes_drop k part b)))

-- eight bytes as two halves
eight_halves : (part : List ℕ) → 14 ≤ length part → four_at part 6 * 4294967296 + four_at part 10 ≡ number_of (take 8 (drop 6 part))
eight_halves part l =
    let low = take 4 (drop 10 part) in
    sym (ap number_of (sym (take_two part 6 4 4)) ∙ number_append 0 (take 4 (drop 6 part)) low ∙ number_from_lem (four_at part 6) low
    ∙ ap (λ (k : ℕ). four_at part 6 * 256 ^ k + four_at part 10) (length_four part 10 (omega arith)))

pub stored_made : (part : List ℕ) (maker w h k : ℕ) (slots : List Capability) → 30 ≤ length part
    → w ≡ four_at part 2 → h ≡ four_at part 6 → k ≡ four_at part 10 → slots ≡ tabulate 8 (slot_from part)
    → record { object = record { status = byte_at part 0; kind = byte_at part 1; maker = maker; word = w; stock = h * 4294967296 + k }; slots = slots }
    ≡ stored_with part maker
unfolding stored_with record_with
stored_made part maker w h k slots l e f g s = rw (e, f, g, s, eight_halves part (omega arith)) refl

-- tabulated lists -----------------------------------------------------------------------------
module _ {A : Type 0} where
  tabulate_same : (n : ℕ) (f g : ℕ → A) (d : A) → ((k : ℕ) → k < n → f k ≡ g k) → tabulate n f ≡ tabulate n g
  tabulate_same n f g d h = as_tabulate n g d (tabulate n f) (length_tabulate n f) (λ k b. get_d_tabulate n f k d b ∙ h k b)

  tabulate_add : (n k : ℕ) (f : ℕ → A) → tabulate (n + k) f ≡ tabulate n f ++ tabulate k (λ i. f (n + i))
  unfolding tabulate
  tabulate_add n zero f = rw (add-zero, append-nil) refl
  tabulate_add n (suc k) f =
      let g : ℕ → A = λ i. f (n + i) in
      let e : n + suc k ≡ suc (n + k) = omega arith in
      ap (λ (m : ℕ). tabulate m f) e ∙ tabulate_snoc (n + k) f ∙ ap (λ (x : List A). x ++ (f (n + k) ∷ [])) (tabulate_add n k f)
      ∙ append_assoc (tabulate n f) (tabulate k g) (f (n + k) ∷ []) ∙ ap (λ (x : List A). tabulate n f ++ x) (sym (tabulate_snoc k g))

-- the table's lists, in any version ----------------------------------------------------------
abbrev pub record_of : Version → List ℕ → ℕ → Record
record_of v bytes n = record_from v (part_of v bytes n)

abbrev pub slot_of : Version → List ℕ → ℕ → Capability
slot_of v bytes k = slot_from (part_of v bytes (k / 8)) (k % 8)

pub record ReadTo (v : Version) (bytes : List ℕ) (t : Table) (n k : ℕ) : Type 0 where
  pub long : length t.records ≡ 64
  pub wide : length t.slots ≡ 512
  pub records : take n t.records ≡ tabulate n (record_of v bytes)
  pub slots : take k t.slots ≡ tabulate k (slot_of v bytes)

module _ (v : Version) (bytes : List ℕ) where
  -- slot j of object n stands in part n
  pub slot_place : (n j : ℕ) → j < 8 → slot_of v bytes (n * 8 + j) ≡ slot_from (part_of v bytes n) j
  slot_place n j h = ap₂ (λ (m i : ℕ). slot_from (part_of v bytes m) i) (omega arith) (omega arith)

  -- what the record reader is lent is the record's part; `long` is the length of a record
  pub stored_lent : (n long : ℕ) (s : Stored) → long ≡ record_length v → s ≡ stored_from v (take (3 + long * n + long - (3 + long * n)) (drop (3 + long * n) bytes))
      → s ≡ stored_from v (part_of v bytes n)
  unfolding part_of
  stored_lent n long s l e =
      let f : 3 + long * n + long - (3 + long * n) ≡ record_length v = omega arith in
      e ∙ ap₂ (λ (k m : ℕ). stored_from v (take k (drop (3 + m * n) bytes))) f l

  pub read_none : (t : Table) → t ≡ unborn_table → ReadTo v bytes t 0 0
  unfolding unborn_table
  read_none t e = rw e (record { long = refl; wide = refl; records = filled_none (record_of v bytes); slots = filled_none (slot_of v bytes) })

  -- record n and its eight slots come next; `ys` is what was copied in
  pub record_more : (t : Table) (n : ℕ) (s : Stored) (ys : List Capability) → n < 64 → s ≡ stored_from v (part_of v bytes n) → ys ≡ s.slots → ReadTo v bytes t n (n * 8)
      → ReadTo v bytes (record { records = set t.records n s.object; slots = put_mid (n * 8) (n * 8 + 8 - n * 8) t.slots ys }) (n + 1) ((n + 1) * 8)
  unfolding stored_with
  record_more t n s ys h e f r =
      let a = n * 8 in
      let k = n * 8 + 8 - n * 8 in
      let p = take a t.slots in
      let rest = drop k (drop a t.slots) in
      let w = r.wide in
      let g = f ∙ ap (λ (x : Stored). x.slots) e in
      let l : length ys ≡ 8 = ap length g ∙ length_tabulate 8 (slot_from (part_of v bytes n)) in
      let m : length p ≡ a = length-take-le a t.slots (omega arith) in
      let z : length (p ++ ys) ≡ (n + 1) * 8 = omega (arith, length-append p ys) in
      let q : a + 8 ≡ (n + 1) * 8 = omega arith in
      record {
        long = length-set t.records n _ ∙ r.long;
        wide = length-append p (ys ++ rest) ∙ omega (arith, length-append ys rest, length-drop k (drop a t.slots), length-drop a t.slots);
        records = filled_more n (record_of v bytes) t.records s.object (omega (arith, r.long)) r.records (ap (λ (x : Stored). x.object) e);
        slots = ap (take ((n + 1) * 8)) (lent_next p t.slots t.slots ys a k m (sym (take-append-drop a t.slots)))
            ∙ take_at (p ++ ys) (drop (a + k) t.slots) ((n + 1) * 8) z ∙ ap₂ (λ (x y : List Capability). x ++ y) r.slots (g ∙ tabulate_same 8 _ _ empty_slot (λ j b. sym (slot_place n j b)))
            ∙ sym (tabulate_add a 8 (slot_of v bytes)) ∙ ap (λ (i : ℕ). tabulate i (slot_of v bytes)) q;
      }

  pub read_all : (t : Table) (n k : ℕ) → n ≡ 64 → k ≡ 512 → ReadTo v bytes t n k → t ≡ table_from v bytes
  unfolding table_from
  read_all t n k e f r = tables_same
      (filled_all n 64 (record_of v bytes) t.records r.long e r.records) (filled_all k 512 (slot_of v bytes) t.slots r.wide f r.slots)
