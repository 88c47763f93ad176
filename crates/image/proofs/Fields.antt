-- A record and its part of the image: a record that was written is read back, and a part that was read is written back. The bytes
-- before the slots and the slots are the same in either version, whatever follows them; a law on the maker has a clause for
-- each version. Assumes nothing.
use mathlib.Core.Path.{◌≡◌, refl, sym, ◌∙◌, ap, ap₂}
use mathlib.Core.Bool.{false}
use mathlib.Core.List.{List, [], ◌∷◌, ◌++◌, append_assoc, append-nil}
use Prim.Native.Nat.{ℕ, zero, suc, ◌+◌, ◌*◌, ◌^◌, ◌≤◌, ◌<◌}
use native.Mathlib.Omega.{arith}
use lib.ListN.{length, get_or, take, drop, length-append, length-take, length-drop, get_or-append}
use lib.Seq.{take_all, take_at, take-suc, take-add, drop_at, drop-drop, get_or-drop, get_or_at}
use borrow.Author.Tests.{eqb-true, not-false}
use Rattle.mask.proofs.Tests.{by_eq}
use Rattle.table.specs.declared.Capability.{Capability}
use Rattle.table.specs.declared.Record.{Record}
use Rattle.table.specs.Cells.{no_maker, empty_slot}
use Rattle.table.specs.Lists.{tabulate}
use Rattle.table.proofs.Lists.{get_d_tabulate}
use Rattle.octets.specs.BigEndian.{Bytes, byte_at, bytes_of, number_of}
use Rattle.octets.proofs.BigEndian.{length_bytes, number_written, bytes_read}
use Rattle.octets.proofs.Lists.{take_pair}
use Rattle.octets.proofs.Parts.{beside, bytes_drop, bytes_take, get_d_after}
use Rattle.image.specs.declared.Stored.{Stored}
use Rattle.image.specs.declared.Version.{Version}
use Rattle.image.specs.declared.Version.TheVariants.{One, Two}
use Rattle.image.specs.Layout.{record_length, object_bytes, slots_bytes, shared_bytes, maker_bytes, stored_bytes, maker_lost, maker_from, record_with, record_from, slot_from, stored_with, stored_from}

-- lengths --------------------------------------------------------------------------
pub length_object : (o : Record) → length (object_bytes o) ≡ 14
unfolding object_bytes
length_object o = simp (length-append, length_bytes)

pub length_slots : (slots : List Capability) (k : ℕ) → length (slots_bytes slots k) ≡ 2 * k
unfolding slots_bytes
length_slots slots zero = refl
length_slots slots (suc k) = length-append (slots_bytes slots k) _ ∙ omega (arith, length_slots slots k)

pub length_shared : (s : Stored) → length (shared_bytes s) ≡ 30
unfolding shared_bytes
length_shared s = simp (length-append, length_object, length_slots)

-- the thirty bytes, and the maker's
more_than_shared : (v : Version) (maker : ℕ) → 30 + length (maker_bytes v maker) ≡ record_length v
more_than_shared One maker = refl
more_than_shared Two maker = refl

pub length_stored : (v : Version) (s : Stored) → length (stored_bytes v s) ≡ record_length v
unfolding stored_bytes
length_stored v s =
    length-append (shared_bytes s) (maker_bytes v s.object.maker) ∙ ap (λ (k : ℕ). k + length (maker_bytes v s.object.maker)) (length_shared s)
    ∙ more_than_shared v s.object.maker

-- thirty bytes stand in every record
pub shared_within : (v : Version) → 30 ≤ record_length v
shared_within One = omega arith
shared_within Two = omega arith

-- reading a record that was written ---------------------------------------------------
-- the word and the stock, whatever follows them
module _ (o : Record) (rest : List ℕ) where
  word_object : o.word < 2 ^ 32 → number_of (take 4 (drop 2 (object_bytes o ++ rest))) ≡ o.word
  unfolding object_bytes
  word_object h =
      ap (λ (l : List ℕ). number_of (take 4 l)) (append_assoc (bytes_of 4 o.word) (bytes_of 8 o.stock) rest)
      ∙ ap number_of (take_at (bytes_of 4 o.word) _ 4 (length_bytes 4 o.word)) ∙ number_written 4 o.word h

  stock_object : o.stock < 2 ^ 64 → number_of (take 8 (drop 6 (object_bytes o ++ rest))) ≡ o.stock
  unfolding object_bytes
  stock_object h =
      ap (λ (l : List ℕ). number_of (take 8 (drop 4 l))) (append_assoc (bytes_of 4 o.word) (bytes_of 8 o.stock) rest)
      ∙ ap (λ (l : List ℕ). number_of (take 8 l)) (drop_at (bytes_of 4 o.word) _ 4 (length_bytes 4 o.word))
      ∙ ap number_of (take_at (bytes_of 8 o.stock) rest 8 (length_bytes 8 o.stock)) ∙ number_written 8 o.stock h

record-object : (o : Record) (rest : List ℕ) → o.word < 2 ^ 32 → o.stock < 2 ^ 64 → record_with (object_bytes o ++ rest) o.maker ≡ o
unfolding record_with object_bytes
record-object o rest hw hs = ap₂ (λ (w k : ℕ). record { status = o.status; kind = o.kind; maker = o.maker; word = w; stock = k })
    (word_object o rest hw) (stock_object o rest hs)

-- a record's bytes begin with those of its object
object_first : (v : Version) (s : Stored) → stored_bytes v s ≡ object_bytes s.object ++ (slots_bytes s.slots 8 ++ maker_bytes v s.object.maker)
unfolding stored_bytes shared_bytes
object_first v s = append_assoc (object_bytes s.object) (slots_bytes s.slots 8) (maker_bytes v s.object.maker)

-- the maker, where the version has a place for it
maker_stored : (v : Version) (s : Stored) → maker_lost v s.object.maker ≡ false → maker_from v (stored_bytes v s) ≡ s.object.maker
unfolding stored_bytes
maker_stored One s h = sym (eqb-true _ no_maker (not-false _ h))
maker_stored Two s h = get_d_after (shared_bytes s) (s.object.maker ∷ []) 30 0 (length_shared s)

pub record-stored : (v : Version) (s : Stored) → s.object.word < 2 ^ 32 → s.object.stock < 2 ^ 64 → maker_lost v s.object.maker ≡ false
    → record_from v (stored_bytes v s) ≡ s.object
record-stored v s hw hs hm =
    ap (record_with (stored_bytes v s)) (maker_stored v s hm) ∙ ap (λ (l : List ℕ). record_with l s.object.maker) (object_first v s)
    ∙ record-object s.object _ hw hs

-- slot j's two bytes
record SlotBytes (slots : List Capability) (bytes : List ℕ) (j : ℕ) : Type 0 where
  target : get_or bytes (2 * j) 0 ≡ (get_or slots j empty_slot).target
  rights : get_or bytes (2 * j + 1) 0 ≡ (get_or slots j empty_slot).rights

slot_bytes : (slots : List Capability) (k j : ℕ) → j < k → SlotBytes slots (slots_bytes slots k) j
unfolding slots_bytes
slot_bytes slots zero j h = absurd (omega arith)
slot_bytes slots (suc k) j h =
    let l = length_slots slots k in
    let b = (get_or slots k empty_slot).target ∷ (get_or slots k empty_slot).rights ∷ [] in
    by_eq j k
    (λ e. rw e (record { target = get_or_at (slots_bytes slots k) _ _ 0 (2 * k) l; rights = get_d_after (slots_bytes slots k) b (2 * k) 1 l }))
    (λ e. let i = slot_bytes slots k j (omega arith) in record {
      target = get_or-append (slots_bytes slots k) b 0 (2 * j) (omega arith) ∙ i.target;
      rights = get_or-append (slots_bytes slots k) b 0 (2 * j + 1) (omega arith) ∙ i.rights;
    })

-- the slots' sixteen bytes stand from 14 on
slots_stored : (v : Version) (s : Stored) (i : ℕ) → i < 16 → byte_at (stored_bytes v s) (14 + i) ≡ byte_at (slots_bytes s.slots 8) i
slots_stored v s i h =
    ap (λ (l : List ℕ). byte_at l (14 + i)) (object_first v s)
    ∙ get_d_after (object_bytes s.object) (slots_bytes s.slots 8 ++ maker_bytes v s.object.maker) 14 i (length_object s.object)
    ∙ get_or-append (slots_bytes s.slots 8) (maker_bytes v s.object.maker) 0 i (omega (arith, length_slots s.slots 8))

pub slot_stored : (v : Version) (s : Stored) (j : ℕ) → j < 8 → slot_from (stored_bytes v s) j ≡ get_or s.slots j empty_slot
unfolding slot_from
slot_stored v s j h =
    let b = slot_bytes s.slots 8 j h in
    let e : 15 + 2 * j ≡ 14 + (2 * j + 1) = omega arith in
    ap₂ (λ (x y : ℕ). record { target = x; rights = y })
    (slots_stored v s (2 * j) (omega arith) ∙ b.target) (ap (byte_at (stored_bytes v s)) e ∙ slots_stored v s (2 * j + 1) (omega arith) ∙ b.rights)

-- writing a part that was read ----------------------------------------------------------
-- k elements from a on, and m after them
pub take_two : (xs : List ℕ) (a k m : ℕ) → take k (drop a xs) ++ take m (drop (a + k) xs) ≡ take (k + m) (drop a xs)
take_two xs a k m = ap (λ (r : List ℕ). take k (drop a xs) ++ take m r) (sym (drop-drop k a xs)) ∙ sym (take-add k m (drop a xs))

module _ (part : List ℕ) where
  -- the bytes of the number of k bytes at a
  number_part : (a k : ℕ) → a + k ≤ length part → Bytes part → bytes_of k (number_of (take k (drop a part))) ≡ take k (drop a part)
  number_part a k h b = bytes_read (take k (drop a part)) k (simp (length-take, length-drop) (omega arith)) (bytes_take k (drop a part) (bytes_drop a part b))

  -- the bytes before the slots, of what is read from there
  object_part : 14 ≤ length part → Bytes part
      → (byte_at part 0 ∷ byte_at part 1 ∷ []) ++ (bytes_of 4 (number_of (take 4 (drop 2 part))) ++ bytes_of 8 (number_of (take 8 (drop 6 part)))) ≡ take 14 part
  object_part l b =
      beside (sym (take_pair part 0 0 (omega arith))) (beside (number_part 2 4 (omega arith) b) (number_part 6 8 (omega arith) b) ∙ take_two part 2 4 8)
      ∙ take_two part 0 2 12

  slots_part : (k : ℕ) → k ≤ 8 → 14 + 2 * k ≤ length part → slots_bytes (tabulate 8 (slot_from part)) k ≡ take (2 * k) (drop 14 part)
  unfolding slots_bytes slot_from
  slots_part zero h l = refl
  slots_part (suc k) h l =
      let d = length-drop 14 part in
      let e : 15 + 2 * k ≡ 14 + (2 * k + 1) = omega arith in
      ap₂ (λ (p : List ℕ) (c : Capability). p ++ (c.target ∷ c.rights ∷ [])) (slots_part k (omega arith) (omega arith)) (get_d_tabulate 8 (slot_from part) k empty_slot (omega arith))
      ∙ ap₂ (λ (x y : ℕ). take (2 * k) (drop 14 part) ++ (x ∷ y ∷ [])) (sym (get_or-drop 14 part (2 * k) 0)) (ap (byte_at part) e ∙ sym (get_or-drop 14 part (2 * k + 1) 0))
      ∙ sym (take_pair (drop 14 part) k 0 (omega arith))

  shared_part : 30 ≤ length part → Bytes part → (maker : ℕ) → shared_bytes (stored_with part maker) ≡ take 30 part
  unfolding shared_bytes object_bytes stored_with record_with
  shared_part l b maker = beside (object_part (omega arith) b) (slots_part 8 (omega arith) (omega arith)) ∙ take_two part 0 14 16

  -- what follows the thirty bytes is the maker's
  maker_part : (v : Version) → length part ≡ record_length v → take 30 part ++ maker_bytes v (maker_from v part) ≡ part
  maker_part One l = append-nil (take 30 part) ∙ take_all 30 part (omega arith)
  maker_part Two l = sym (take-suc part 30 0 (omega arith)) ∙ take_all 31 part (omega arith)

pub stored_part : (v : Version) (part : List ℕ) → length part ≡ record_length v → Bytes part → stored_bytes v (stored_from v part) ≡ part
unfolding stored_bytes stored_with record_with
stored_part v part l b = let w = shared_within v in beside (shared_part part (omega arith) b (maker_from v part)) refl ∙ maker_part part v l
