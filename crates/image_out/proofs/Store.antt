-- What the writers leave, from what they were lent and what came back: slots, what the versions share of a record, the record, and then
-- the records and the image. Assumes nothing.
use mathlib.Core.Path.{◌≡◌, refl, sym, ◌∙◌, ap}
use mathlib.Core.List.{List, [], ◌∷◌, ◌++◌, append_assoc, append-nil}
use Prim.Native.Nat.{ℕ, ◌+◌, ◌-◌, ◌*◌, ◌≤◌, ◌<◌}
use native.Mathlib.Nat.{mul-suc}
use native.Mathlib.Numerals.{add-one}
use native.Mathlib.Omega.{arith}
use lib.ListN.{length, get_or, set, take, drop, length-append, length-drop, take-append-drop, drop_of_length-le}
use lib.Seq.{length-take-le, take_at, drop_at, drop-drop, get_or-take, get_or-drop, set_split, sets-eq}
use borrow.Rule.Slice.PartMut.{put_mid}
use Rattle.table.specs.declared.Capability.{Capability}
use Rattle.table.specs.declared.Table.{Table}
use Rattle.table.proofs.Lists.{as_tabulate}
use Rattle.table.specs.Cells.{record_at, slot_at, empty_slot}
use Rattle.image.specs.declared.Stored.{Stored}
use Rattle.octets.specs.BigEndian.{bytes_of}
use Rattle.image.specs.declared.Version.{Version}
use Rattle.image.specs.declared.Version.TheVariants.{One, Two}
use Rattle.image.specs.Layout.{head, record_length, image_length, place_of, stored_at, object_bytes, slots_bytes, shared_bytes, stored_bytes, records_bytes, image_of}
use Rattle.image_out.specs.Helpers.{with_last}
use Rattle.octets.proofs.BigEndian.{length_bytes}
use Rattle.octets.proofs.Lists.{pair_more, lent_next}
use Rattle.octets.proofs.Parts.{beside}
use Rattle.image.proofs.Fields.{length_shared}
use Rattle.image.proofs.Places.{length_head, length_records}

-- the loop that writes slots: the next two bytes
pub slots_more : (slots : List Capability) (bytes : List ℕ) (j : ℕ) → 2 * j + 1 < length bytes → take (2 * j) bytes ≡ slots_bytes slots j
    → take (2 * (j + 1)) (set (set bytes (2 * j) (get_or slots j empty_slot).target) (2 * j + 1) (get_or slots j empty_slot).rights) ≡ slots_bytes slots (j + 1)
unfolding slots_bytes
slots_more slots bytes j h e = pair_more bytes j _ _ h ∙ ap (λ (p : List ℕ). p ++ ((get_or slots j empty_slot).target ∷ (get_or slots j empty_slot).rights ∷ [])) e ∙ (rw add-one refl)

-- what the versions share of a record: two bytes, then three parts that were lent in turn
pub shared_left : (part : List ℕ) (s : Stored) (x y z : List ℕ) (m k : ℕ) → length part ≡ 30
    → m ≡ 4 → x ≡ bytes_of m s.object.word → k ≡ 8 → y ≡ bytes_of k s.object.stock → z ≡ slots_bytes s.slots 8
    → put_mid 14 16 (put_mid 6 8 (put_mid 2 4 (set (set part 0 s.object.status) 1 s.object.kind) x) y) z ≡ shared_bytes s
unfolding shared_bytes object_bytes
shared_left part s x y z m k l em ex ek ey ez =
    let p = s.object.status ∷ s.object.kind ∷ [] in
    let fx : x ≡ bytes_of 4 s.object.word = ex ∙ ap (λ (i : ℕ). bytes_of i s.object.word) em in
    let fy : y ≡ bytes_of 8 s.object.stock = ey ∙ ap (λ (i : ℕ). bytes_of i s.object.stock) ek in
    let lx : length x ≡ 4 = ap length fx ∙ length_bytes 4 s.object.word in
    let ly : length y ≡ 8 = ap length fy ∙ length_bytes 8 s.object.stock in
    let first = lent_next p part _ x 2 4 refl (sets-eq p part 0 (omega arith)) in
    let second = lent_next (p ++ x) part _ y 6 8 (omega (arith, length-append p x)) first in
    let third = lent_next ((p ++ x) ++ y) part _ z 14 16 (omega (arith, length-append p x, length-append (p ++ x) y)) second in
    third ∙ ap (λ (r : List ℕ). (((p ++ x) ++ y) ++ z) ++ r) (drop_of_length-le part {i = 30} (omega arith)) ∙ append-nil _
    ∙ beside (append_assoc p x y ∙ beside {a = p} refl (beside fx fy)) ez

-- a record: the thirty bytes were lent, and then the maker was stored where it has a place
pub stored_left : (v : Version) (part : List ℕ) (s : Stored) (x l : List ℕ) → length part ≡ record_length v → x ≡ shared_bytes s
    → l ≡ with_last v s.object.maker (put_mid 0 30 part x) → l ≡ stored_bytes v s
unfolding stored_bytes
stored_left One part s x l h e f =
    f ∙ lent_next [] part part x 0 30 refl refl ∙ beside e (drop_of_length-le part {i = 30} (omega arith))
stored_left Two part s x l h e f =
    let m = s.object.maker in
    let b = drop 30 part in
    let r : length x ≡ 30 = ap length e ∙ length_shared s in
    let n : length (x ++ b) ≡ 31 = omega (arith, length-append x b, length-drop 30 part) in
    f ∙ ap (λ (q : List ℕ). set q 30 m) (lent_next [] part part x 0 30 refl refl) ∙ set_split (x ++ b) 30 m (omega arith)
    ∙ beside (take_at x b 30 r ∙ e) (ap (λ (q : List ℕ). m ∷ q) (drop_of_length-le (x ++ b) {i = 31} (omega arith)))

-- object n with the eight slots that were copied out
pub stored_taken : (t : Table) (n : ℕ) (slots : List Capability) → n < 64 → length t.slots ≡ 512 → slots ≡ take (n * 8 + 8 - n * 8) (drop (n * 8) t.slots)
    → record { object = record_at t n; slots = slots } ≡ stored_at t n
unfolding stored_at
stored_taken t n slots h l e =
    let k : n * 8 + 8 - n * 8 ≡ 8 = omega arith in
    let f : slots ≡ take 8 (drop (n * 8) t.slots) = e ∙ ap (λ (i : ℕ). take i (drop (n * 8) t.slots)) k in
    let g = as_tabulate 8 (slot_at t n) empty_slot slots (ap length f ∙ length-take-le 8 (drop (n * 8) t.slots) (omega (arith, length-drop (n * 8) t.slots)))
    (λ j b. ap (λ (s : List Capability). get_or s j empty_slot) f ∙ get_or-take 8 (drop (n * 8) t.slots) j empty_slot b ∙ get_or-drop (n * 8) t.slots j empty_slot) in
    ap (λ (s : List Capability). record { object = record_at t n; slots = s }) g

-- the loop that writes records: behind the first three bytes stand n of them, and the rest is as it was
abbrev pub written_to : Version → Table → List ℕ → ℕ → List ℕ
written_to v t buffer n = (take 3 buffer ++ records_bytes v t n) ++ drop (place_of v n) buffer

module _ (v : Version) (t : Table) (buffer : List ℕ) where
  pub records_none : buffer ≡ written_to v t buffer 0
  unfolding records_bytes
  records_none =
      let z : place_of v 0 ≡ 3 = omega arith in
      sym (beside (append-nil (take 3 buffer)) (ap (λ (k : ℕ). drop k buffer) z) ∙ take-append-drop 3 buffer)

  -- `long` is the length of a record
  pub records_more : (n long : ℕ) (l ys : List ℕ) (s : Stored) → long ≡ record_length v → 3 ≤ length buffer → l ≡ written_to v t buffer n → s ≡ stored_at t n
      → ys ≡ stored_bytes v s → put_mid (3 + long * n) (3 + long * n + long - (3 + long * n)) l ys ≡ written_to v t buffer (n + 1)
  unfolding records_bytes
  records_more n long l ys s r h e f g =
      let p = take 3 buffer ++ records_bytes v t n in
      let z : length p ≡ place_of v n = omega (arith, length-append (take 3 buffer) (records_bytes v t n), length-take-le 3 buffer h, length_records v t n) in
      let k : place_of v n + (place_of v n + record_length v - place_of v n) ≡ place_of v (n + 1) = omega (arith, mul-suc (record_length v) n) in
      ap (λ (m : ℕ). put_mid (3 + m * n) (3 + m * n + m - (3 + m * n)) l ys) r ∙ lent_next p buffer l ys (place_of v n) _ z e ∙ beside (append_assoc (take 3 buffer) (records_bytes v t n) ys
      ∙ beside {a = take 3 buffer} refl (beside {a = records_bytes v t n} refl (g ∙ ap (stored_bytes v) f) ∙ (rw add-one refl))) (ap (λ (i : ℕ). drop i buffer) k)

  pub records_all : (n : ℕ) (l : List ℕ) → n ≡ 64 → l ≡ written_to v t buffer n → l ≡ take 3 buffer ++ (records_bytes v t 64 ++ drop (image_length v) buffer)
  records_all n l e h =
      let k : place_of v 64 ≡ image_length v = omega arith in
      h ∙ ap (written_to v t buffer) e ∙ append_assoc (take 3 buffer) (records_bytes v t 64) (drop (place_of v 64) buffer)
      ∙ ap (λ (i : ℕ). take 3 buffer ++ (records_bytes v t 64 ++ drop i buffer)) k

  -- the head was stored first
  pub image_left : (b l : List ℕ) → b ≡ head v ++ drop 3 buffer
      → l ≡ take 3 b ++ (records_bytes v t 64 ++ drop (image_length v) b) → l ≡ image_of v t ++ drop (image_length v) buffer
  unfolding image_of
  image_left b l e f =
      let at = drop_at (head v) (drop 3 buffer) 3 (length_head v) in
      f ∙ beside (ap (take 3) e ∙ take_at (head v) (drop 3 buffer) 3 (length_head v))
      (beside {a = records_bytes v t 64} refl (ap (drop (image_length v)) e ∙ sym (drop-drop (64 * record_length v) 3 (head v ++ drop 3 buffer))
      ∙ ap (drop (64 * record_length v)) at ∙ drop-drop (64 * record_length v) 3 buffer))
      ∙ sym (append_assoc (head v) (records_bytes v t 64) (drop (image_length v) buffer))
