-- Reading and writing are each other's way back, the claims of specs/Exactness.antt. Under them lie two equations in any version, `table_image`
-- and `image_is`: a table from its image, where the version has a place for its makers, and bytes from their table. The argument goes record
-- by record, by the laws of Fields.antt and Places.antt; the claims stand at the end. Assumes nothing.
use mathlib.Core.Path.{◌≡◌, refl, sym, ◌∙◌, ap, ap₂}
use mathlib.Core.Bool.{true, false, not}
use mathlib.Core.List.{List, ◌++◌, append-nil}
use Prim.Native.Nat.{ℕ, zero, suc, ◌+◌, ◌*◌, ◌/◌, ◌%◌, ◌≤◌, ◌<◌}
use native.Mathlib.Nat.{mul-suc}
use native.Mathlib.Omega.{arith}
use lib.ListN.{length, get_or, take, drop, take-append-drop, length-drop, drop_of_length-le}
use lib.Seq.{take_all, take_at, take-add, drop-drop}
use borrow.Author.Tests.{eq-eqb}
use Rattle.std.specs.Prelude.{Ok}
use Rattle.mask.specs.Sets.{any_below}
use Rattle.mask.proofs.Tests.{by_cases, clash}
use Rattle.mask.proofs.Below.{any_none, any_elim}
use Rattle.table.specs.declared.Capability.{Capability}
use Rattle.table.specs.declared.Record.{Record}
use Rattle.table.specs.declared.Table.{Table}
use Rattle.table.specs.Cells.{IsTable, no_maker, no_record, maker_at, slot_at, empty_slot}
use Rattle.table.specs.Lists.{tabulate}
use Rattle.table.specs.Soundness.{sound}
use Rattle.image.specs.declared.Version.{Version}
use Rattle.image.specs.declared.Version.TheVariants.{One, Two}
use Rattle.image.specs.Layout.{record_length, image_length, stored_at, stored_bytes, records_bytes, image_of, maker_lost, part_of, record_with, record_from, slot_from, stored_with, stored_from, table_from}
use Rattle.image.specs.Images.{read_of, number_loaded}
use Rattle.image_out.specs.Written.{some_lost, filled_by, written_of}
use Rattle.image_out.specs.Exactness.{IsRead, ReadByNumber, Unmade, TwoReadsBack, OneReadsBack, WritesBack, MovesUp, MovesBack, StoredAs, stored_as, ReadsExactly, DecidesBytes}
use Rattle.octets.specs.BigEndian.{Bytes}
use Rattle.table.proofs.Lists.{length_tabulate, get_d_tabulate}
use Rattle.table.proofs.Cells.{tables_same}
use Rattle.octets.proofs.Lists.{tabulate_is}
use Rattle.image.proofs.Load.{slot_place}
use Rattle.image.proofs.Replies.{Accepted, accepted, ReadBy, read_by, accepted_by, read_done, number_done}
use Rattle.image.proofs.Typed.{image_is_table}
use Rattle.image_out.proofs.Left.{write_done, written_done}
use Rattle.octets.proofs.Parts.{beside}
use Rattle.image.proofs.Fields.{record-stored, slot_stored, stored_part}
use Rattle.image.proofs.Places.{says_image, versed_image, head_read, length_image, part_image, length_part, bytes_part}

-- reading what was written ---------------------------------------------------------------
module _ (v : Version) (t : Table) (z : IsTable t) (kept : some_lost v t ≡ false) where
  placed : (n : ℕ) → n < 64 → maker_lost v (maker_at t n) ≡ false
  unfolding some_lost
  placed n h = any_none 64 (λ k. maker_lost v (maker_at t k)) kept n h

  table_image : table_from v (image_of v t) ≡ t
  unfolding table_from stored_at
  table_image = tables_same
      (tabulate_is 64 _ no_record t.records z.records
      (λ n h. ap (record_from v) (part_image v t n h) ∙ record-stored v (stored_at t n) (z.words n) (z.stocks n) (placed n h)))
      (tabulate_is 512 _ empty_slot t.slots z.slots
      (λ k h. ap (λ (p : List ℕ). slot_from p (k % 8)) (part_image v t (k / 8) (omega arith)) ∙ slot_stored v (stored_at t (k / 8)) (k % 8) (omega arith)
      ∙ get_d_tabulate 8 (slot_at t (k / 8)) (k % 8) empty_slot (omega arith) ∙ ap (λ (i : ℕ). get_or t.slots i empty_slot) (omega arith)))

  module _ (e : sound t ≡ true) where
    image_accepted : Accepted v (image_of v t)
    image_accepted = record { long = length_image v t; says = says_image v t; versed = versed_image v t; fine = ap sound table_image ∙ e }

    read_image : read_of (image_of v t) ≡ Ok t
    read_image = read_done v (image_of v t) image_accepted ∙ ap Ok table_image

    written : (buffer : List ℕ) → image_length v ≤ length buffer → written_of v t buffer ≡ filled_by v t buffer
    written buffer h = written_done v t buffer (write_done v t buffer e kept h)

    -- a buffer of exactly that length holds the image and nothing else
    written_exact : (buffer : List ℕ) → length buffer ≡ image_length v → written_of v t buffer ≡ image_of v t
    written_exact buffer h = written buffer (omega arith) ∙ ap (λ (r : List ℕ). image_of v t ++ r) (drop_of_length-le buffer {i = image_length v} (omega arith))
        ∙ append-nil (image_of v t)

    pub reads_back : (buffer : List ℕ) → image_length v ≤ length buffer → read_of (take (image_length v) (written_of v t buffer)) ≡ Ok t
    reads_back buffer h = ap read_of (ap (take (image_length v)) (written buffer h) ∙ take_at (image_of v t) _ (image_length v) (length_image v t)) ∙ read_image

-- version 2 has a place for every maker; version 1 for 64 alone
none_lost_two : (t : Table) → some_lost Two t ≡ false
unfolding some_lost
none_lost_two t = by_cases (any_below 64 (λ n. maker_lost Two (maker_at t n)))
    (λ e. any_elim 64 (λ n. maker_lost Two (maker_at t n)) e (λ n h f. clash f refl)) (λ e. e)

none_lost_one : (t : Table) → Unmade t → some_lost One t ≡ false
unfolding some_lost
none_lost_one t u = by_cases (any_below 64 (λ n. maker_lost One (maker_at t n)))
    (λ e. any_elim 64 (λ n. maker_lost One (maker_at t n)) e (λ n h f. clash f (ap not (eq-eqb _ no_maker (u n h))))) (λ e. e)

pub unmade_kept : (v : Version) (t : Table) → Unmade t → some_lost v t ≡ false
unmade_kept One t u = none_lost_one t u
unmade_kept Two t u = none_lost_two t

-- writing what was read ---------------------------------------------------------------------
-- object n of the table that was read is what its part says
stored_table : (v : Version) (bytes : List ℕ) (n : ℕ) → n < 64 → stored_at (table_from v bytes) n ≡ stored_from v (part_of v bytes n)
unfolding stored_at stored_with table_from
stored_table v bytes n h = ap₂ (λ (r : Record) (s : List Capability). record { object = r; slots = s })
    (get_d_tabulate 64 _ n no_record h)
    (tabulate_is 8 _ empty_slot (tabulate 8 (slot_from (part_of v bytes n))) (length_tabulate 8 _)
    (λ j g. get_d_tabulate 512 _ (n * 8 + j) empty_slot (omega arith) ∙ slot_place v bytes n j g ∙ sym (get_d_tabulate 8 _ j empty_slot g)))

-- a version 1 image comes in with 64 throughout
one_unmade : (bytes : List ℕ) → Unmade (table_from One bytes)
unfolding table_from record_with
one_unmade bytes n h = ap (λ (r : Record). r.maker) (get_d_tabulate 64 _ n no_record h)

-- so what was read can be written in its version
none_lost : (v : Version) (bytes : List ℕ) → some_lost v (table_from v bytes) ≡ false
none_lost One bytes = none_lost_one (table_from One bytes) (one_unmade bytes)
none_lost Two bytes = none_lost_two (table_from Two bytes)

module _ (v : Version) (bytes : List ℕ) (all : Bytes bytes) (a : Accepted v bytes) where
  -- part n within what follows the head
  within : (n : ℕ) → part_of v bytes n ≡ take (record_length v) (drop (record_length v * n) (drop 3 bytes))
  unfolding part_of
  within n = ap (take (record_length v)) (sym (drop-drop (record_length v * n) 3 bytes))

  records_read : (n : ℕ) → n ≤ 64 → records_bytes v (table_from v bytes) n ≡ take (record_length v * n) (drop 3 bytes)
  unfolding records_bytes
  records_read zero h = let z : 0 ≡ record_length v * 0 = omega arith in ap (λ (k : ℕ). take k (drop 3 bytes)) z
  records_read (suc n) h =
      beside (records_read n (omega arith))
      (ap (stored_bytes v) (stored_table v bytes n (omega arith))
      ∙ stored_part v (part_of v bytes n) (length_part v bytes n a.long (omega arith)) (bytes_part v bytes n all) ∙ within n)
      ∙ sym (take-add (record_length v * n) (record_length v) (drop 3 bytes)) ∙ ap (λ (k : ℕ). take k (drop 3 bytes)) (sym (mul-suc (record_length v) n))

  image_is : image_of v (table_from v bytes) ≡ bytes
  unfolding image_of
  image_is =
      let l = a.long in
      beside (sym (head_read v bytes all (omega arith) a.says a.versed))
      (records_read 64 (omega arith) ∙ take_all (record_length v * 64) (drop 3 bytes) (omega (arith, length-drop 3 bytes)))
      ∙ take-append-drop 3 bytes

-- of bytes that are read as an image of the version
module _ (v : Version) (bytes : List ℕ) (t : Table) (r : IsRead v bytes t) where
  was : Accepted v bytes
  was = accepted v bytes t r.versed r.done

  table_is : t ≡ table_from v bytes
  table_is = let z : Ok t ≡ Ok (table_from v bytes) = sym r.done ∙ read_done v bytes was in cc

  image_of_read : image_of v t ≡ bytes
  image_of_read = ap (image_of v) table_is ∙ image_is v bytes r.bits was

-- the claims --------------------------------------------------------------------------------
pub read_by_number : ReadByNumber
unfolding ReadByNumber
read_by_number v bytes b versed = (
  λ e. record { bits = b; versed = versed; done = number_done (read_of bytes) e },
  λ r. ap number_loaded r.done,
)

pub two_reads_back : TwoReadsBack
unfolding TwoReadsBack
two_reads_back t z e buffer h = reads_back Two t z (none_lost_two t) e buffer h

pub one_reads_back : OneReadsBack
unfolding OneReadsBack
one_reads_back t z e u buffer h = reads_back One t z (none_lost_one t u) e buffer h

pub writes_back : (v : Version) → WritesBack v
unfolding WritesBack
writes_back v bytes t r buffer h =
    let a = was v bytes t r in
    ap (λ (u : Table). written_of v u buffer) (table_is v bytes t r)
    ∙ written v (table_from v bytes) (image_is_table v bytes r.bits) (none_lost v bytes) a.fine buffer h
    ∙ ap (λ (x : List ℕ). x ++ drop (image_length v) buffer) (image_is v bytes r.bits a)

-- the table of a version 1 image, moved up
module _ (bytes : List ℕ) (t : Table) (r : IsRead One bytes t) (buffer : List ℕ) (h : length buffer ≡ image_length Two) where
  up : read_of (written_of Two t buffer) ≡ Ok t
  up =
      let u = table_from One bytes in
      let z = image_is_table One bytes r.bits in
      let a = was One bytes t r in
      ap (λ (x : Table). read_of (written_of Two x buffer)) (table_is One bytes t r) ∙ ap read_of (written_exact Two u z (none_lost_two u) a.fine buffer h)
      ∙ read_image Two u z (none_lost_two u) a.fine ∙ ap Ok (sym (table_is One bytes t r))

pub moves_up : MovesUp
unfolding MovesUp
moves_up bytes t r buffer h = (λ n k. ap (λ (u : Table). maker_at u n) (table_is One bytes t r) ∙ one_unmade bytes n k, up bytes t r buffer h)

pub moves_back : MovesBack
unfolding MovesBack WritesBack
moves_back bytes t r buffer older h g = (
  t,
  (
    up bytes t r buffer h,
    writes_back One bytes t r older (omega arith)
        ∙ ap (λ (x : List ℕ). bytes ++ x) (drop_of_length-le older {i = image_length One} (omega arith)) ∙ append-nil bytes,
  ),
)

-- what is read is the image of its table
as_stored : (bytes : List ℕ) (t : Table) → Bytes bytes → ReadBy bytes t → StoredAs t bytes
as_stored bytes t b (read_by v a q) =
    stored_as v (ap sound q ∙ a.fine) (ap (some_lost v) q ∙ none_lost v bytes) (sym (ap (image_of v) q ∙ image_is v bytes b a))

from_stored : (bytes : List ℕ) (t : Table) → IsTable t → StoredAs t bytes → read_of bytes ≡ Ok t
from_stored bytes t z (stored_as v e k q) = ap read_of q ∙ read_image v t z k e

pub reads_exactly : ReadsExactly
unfolding ReadsExactly
reads_exactly bytes t b z = (λ e. as_stored bytes t b (accepted_by bytes t e), from_stored bytes t z)

pub decides_bytes : DecidesBytes
unfolding DecidesBytes
decides_bytes v bytes other t r s = sym (image_of_read v bytes t r) ∙ image_of_read v other t s
