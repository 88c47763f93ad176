-- Where things stand in an image of any version: what the head says, the lengths of the pieces, and the part of each record.
-- Assumes nothing.
use mathlib.Core.Path.{◌≡◌, refl, sym, ◌∙◌, ap, ap₂}
use mathlib.Core.Bool.{true, false}
use mathlib.Core.Logic.{◌≢◌}
use mathlib.Core.List.{List, [], ◌∷◌, ◌++◌}
use Prim.Native.Nat.{ℕ, zero, suc, ◌+◌, ◌*◌, ◌^◌, ◌≤◌, ◌<◌}
use native.Mathlib.Nat.{mul-suc, mul-le-mul_left}
use native.Mathlib.Omega.{arith}
use lib.ListN.{length, take, drop, length-append, length-take, length-drop}
use Rattle.std.proofs.lemmas.List.{take-take}
use lib.Seq.{length-take-le, take_all, take-suc, drop_at, drop-drop, take-append-le, drop-append-le}
use Rattle.std.specs.Prelude.{nat_eq}
use Rattle.std.specs.List.{starts_with}
use Rattle.std.specs.Cmp.Lexicographic.{same_text, other_text}
use Rattle.mask.proofs.Tests.{by_eq}
use Rattle.table.specs.declared.Table.{Table}
use Rattle.octets.specs.BigEndian.{Bytes, byte_at, bytes_of, number_of}
use Rattle.octets.proofs.BigEndian.{number_written, bytes_read}
use Rattle.octets.proofs.Parts.{bytes_drop, bytes_take}
use Rattle.image.specs.declared.Version.{Version}
use Rattle.image.specs.declared.Version.TheVariants.{One, Two}
use Rattle.image.specs.Layout.{head, version_byte, record_length, image_length, place_of, stored_at, stored_bytes, records_bytes, image_of, part_of}
use Rattle.image.proofs.Fields.{length_stored}

-- the head -----------------------------------------------------------------------------
-- "length 1,923, all bytes counted", and "length 1,987"
pub length_one : image_length One ≡ 1923
length_one = refl

pub length_two : image_length Two ≡ 1987
length_two = refl

-- the length in two bytes, then the version
pub head_says : (v : Version) → head v ≡ bytes_of 2 (image_length v) ++ (version_byte v ∷ [])
unfolding bytes_of
head_says One = refl
head_says Two = refl

length_fits : (v : Version) → image_length v < 256 ^ 2
length_fits One = omega arith
length_fits Two = omega arith

pub length_head : (v : Version) → length (head v) ≡ 3
unfolding bytes_of
length_head v = ap length (head_says v)

head_two : (v : Version) → take 2 (head v) ≡ bytes_of 2 (image_length v)
unfolding bytes_of
head_two v = ap (take 2) (head_says v)

head_length : (v : Version) → number_of (take 2 (head v)) ≡ image_length v
head_length v = ap number_of (head_two v) ∙ number_written 2 (image_length v) (length_fits v)

-- what an image says
pub says_image : (v : Version) (t : Table) → number_of (take 2 (image_of v t)) ≡ image_length v
unfolding image_of
says_image v t = ap number_of (take-append-le 2 (head v) (records_bytes v t 64) (omega (arith, length_head v))) ∙ head_length v

pub versed_image : (v : Version) (t : Table) → byte_at (image_of v t) 2 ≡ version_byte v
unfolding bytes_of image_of
versed_image v t = ap (λ (h : List ℕ). byte_at (h ++ records_bytes v t 64) 2) (head_says v)

module _ (v : Version) (bytes : List ℕ) where
  -- bytes that say the length begin as the head does
  first_two : Bytes bytes → 2 ≤ length bytes → number_of (take 2 bytes) ≡ image_length v → take 2 bytes ≡ take 2 (head v)
  first_two b h e = sym (bytes_read (take 2 bytes) 2 (length-take-le 2 bytes h) (bytes_take 2 bytes b)) ∙ ap (bytes_of 2) e ∙ sym (head_two v)

  pub head_read : Bytes bytes → 3 ≤ length bytes → number_of (take 2 bytes) ≡ image_length v → byte_at bytes 2 ≡ version_byte v → take 3 bytes ≡ head v
  head_read b h e f =
      take-suc bytes 2 0 h ∙ ap₂ (λ (p : List ℕ) (x : ℕ). p ++ (x ∷ [])) (first_two b (omega arith) e ∙ head_two v) f ∙ sym (head_says v)

  -- bytes that begin with the head say the length, and no others do; `begins` is the head
  module _ (begins : List ℕ) (q : begins ≡ head v) where
    three : length begins ≡ 3
    three = ap length q ∙ length_head v

    pub starts_right : starts_with nat_eq bytes begins ≡ true → number_of (take 2 bytes) ≡ image_length v
    starts_right e =
        let same : head v ≡ take 3 bytes = sym q ∙ same_text begins (take (length begins) bytes) (sym e) ∙ ap (λ (k : ℕ). take k bytes) three in
        ap number_of (sym (take-take 2 3 bytes (omega arith)) ∙ ap (take 2) (sym same)) ∙ head_length v

    pub starts_wrong : Bytes bytes → 3 ≤ length bytes → byte_at bytes 2 ≡ version_byte v → starts_with nat_eq bytes begins ≡ false → number_of (take 2 bytes) ≢ image_length v
    starts_wrong b h f e n =
        other_text begins (take (length begins) bytes) (sym e) (q ∙ sym (head_read b h n f) ∙ ap (λ (k : ℕ). take k bytes) (sym three))

-- lengths ------------------------------------------------------------------------------
pub length_records : (v : Version) (t : Table) (n : ℕ) → length (records_bytes v t n) ≡ record_length v * n
unfolding records_bytes
length_records v t zero = omega arith
length_records v t (suc n) =
    length-append (records_bytes v t n) _ ∙ omega (arith, length_records v t n, length_stored v (stored_at t n), mul-suc (record_length v) n)

pub length_image : (v : Version) (t : Table) → length (image_of v t) ≡ image_length v
unfolding image_of
length_image v t = length-append (head v) (records_bytes v t 64) ∙ omega (arith, length_head v, length_records v t 64)

-- each record has its own part -----------------------------------------------------------
module _ (v : Version) where
  -- record k ends before record n begins
  record_ends : (n k : ℕ) → k < n → record_length v * k + record_length v ≤ record_length v * n
  record_ends n k h = rw mul-suc at (mul-le-mul_left (record_length v) h)

  -- and within the image, whose length is a small number; `long` is the length of a record
  pub part_ends : (n long : ℕ) → n < 64 → long ≡ record_length v → 3 + long * n + long ≤ image_length v
  part_ends n long h e = rw e (omega (arith, record_ends 64 n h))

  pub part_small : (n long : ℕ) → n < 64 → long ≡ record_length v → 3 + long * n + long < 256 ^ 2
  part_small n long h e = omega (arith, part_ends n long h e, length_fits v)

  part_records : (t : Table) (n k : ℕ) → k < n → take (record_length v) (drop (record_length v * k) (records_bytes v t n)) ≡ stored_bytes v (stored_at t k)
  unfolding records_bytes
  part_records t zero k h = absurd (omega arith)
  part_records t (suc n) k h =
      let l = length_records v t n in
      let r = records_bytes v t n in
      let b = stored_bytes v (stored_at t n) in
      let s = length_stored v (stored_at t n) in
      by_eq k n
      (λ e. rw (e, drop_at r b (record_length v * n) l) (take_all (record_length v) b (omega arith)))
      (λ e.
      let f = record_ends n k (omega arith) in
      let d = length-drop (record_length v * k) r in
      rw (drop-append-le (record_length v * k) r b (omega arith), take-append-le (record_length v) (drop (record_length v * k) r) b (omega arith))
      (part_records t n k (omega arith)))

  pub part_image : (t : Table) (k : ℕ) → k < 64 → part_of v (image_of v t) k ≡ stored_bytes v (stored_at t k)
  unfolding part_of image_of
  part_image t k h =
      let after = drop_at (head v) (records_bytes v t 64) 3 (length_head v) in
      ap (take (record_length v)) (sym (drop-drop (record_length v * k) 3 (image_of v t)) ∙ ap (drop (record_length v * k)) after) ∙ part_records t 64 k h

  pub length_part : (bytes : List ℕ) (k : ℕ) → length bytes ≡ image_length v → k < 64 → length (part_of v bytes k) ≡ record_length v
  unfolding part_of
  length_part bytes k e h = let f = record_ends 64 k h in simp (length-take, length-drop) (omega arith)

  pub bytes_part : (bytes : List ℕ) (k : ℕ) → Bytes bytes → Bytes (part_of v bytes k)
  unfolding part_of
  bytes_part bytes k h = bytes_take (record_length v) (drop (place_of v k) bytes) (bytes_drop (place_of v k) bytes h)
