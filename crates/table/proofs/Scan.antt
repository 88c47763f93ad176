-- The scan finds what soundness says. It goes by two sets: the born numbers, and those that no further stock may have. A stock
-- that shares no number with the second, at each record in turn, is the clause on stocks. Assumes nothing.
use mathlib.Core.Path.{◌≡◌, refl, sym, ◌∙◌, ap, ap₂}
use mathlib.Core.Bool.{Bool, true, false, ◌&&◌, ◌||◌}
use Prim.Native.Nat.{ℕ, zero, suc, ◌+◌, ◌≤◌, ◌<◌}
use native.Mathlib.Omega.{arith}
use native.Mathlib.Numerals.{add-one}
use lib.Dec.{ltb}
use lib.ListN.{length, get_or, get_or-eq_default}
use borrow.Author.Tests.{ltb-true, ltb-false}
use Rattle.mask.specs.Sets.{has, bits, all_below, union_of, disjoint_of}
use Rattle.mask.proofs.Tests.{by_cases, by_eq, clash, bool_ext, and_true, and_intro, and_false, or_none, apart_intro}
use Rattle.mask.proofs.Below.{all_at, all_intro, all_more, all_fails}
use Rattle.mask.proofs.UpTo.{up_to, up_all}
use Rattle.mask.proofs.Bits.{has_bits, bits_lt, has_union, has_high, disjoint_at}
use Rattle.table.specs.declared.Record.{Record}
use Rattle.table.specs.declared.Table.{Table}
use Rattle.table.specs.Cells.{record_at, slot_at, maker_at, stock_at, no_record, is_born, born_at}
use Rattle.table.specs.Soundness.{record_sound, maker_sound, idle_slot_sound, filled_sound, slot_sound, stock_sound, sound_at, sound}
use Rattle.table.proofs.SoundFacts.{record-fine, born_pos, pos_born, maker_sound_at, sound_at_lem, at_sound, fine_stock, stock_fine}

-- the born numbers -----------------------------------------------------------------------
unfoldable pub born_set : Table → ℕ
born_set t = bits 64 (born_at t)

pub born_all : (t : Table) (n : ℕ) → 64 ≤ n → up_to n (born_at t) ≡ born_set t
unfolding born_set
born_all t n h = up_all (born_at t) n h

pub born_is : (t : Table) (b : ℕ) → b ≡ bits 64 (λ n. is_born (get_or t.records n no_record)) → b ≡ born_set t
unfolding born_set
born_is t b e = e

pub has_born : (t : Table) (x : ℕ) → length t.records ≡ 64 → has x (born_set t) ≡ born_at t x
unfolding born_set
has_born t x long = by_cases (ltb x 64)
    (λ e. has_bits 64 x (born_at t) (ltb-true x 64 e))
    (λ e. let h = ltb-false x 64 e in has_high x (bits 64 (born_at t)) 64 (bits_lt 64 (born_at t)) h
    ∙ sym (ap is_born (get_or-eq_default t.records no_record (omega arith))))

-- the numbers that no further stock may have, when the scan is at n ---------------------
unfoldable pub taken_below : Table → ℕ → ℕ
taken_below t zero = born_set t
taken_below t (suc n) = union_of (taken_below t n) (stock_at t n)

pub taken_none : (t : Table) → born_set t ≡ taken_below t 0
unfolding taken_below
taken_none t = refl

pub taken_more : (t : Table) (n : ℕ) → union_of (taken_below t n) (stock_at t n) ≡ taken_below t (n + 1)
unfolding taken_below
taken_more t n = rw (add-one n) refl

free : (t : Table) (n k : ℕ) → k < 64 → born_at t k ≡ false → ((m : ℕ) → m < n → has k (stock_at t m) ≡ false) → has k (taken_below t n) ≡ false
unfolding taken_below born_set
free t zero k hk b f = has_bits 64 k (born_at t) hk ∙ b
free t (suc n) k hk b f = has_union k (taken_below t n) (stock_at t n) hk
    ∙ ap₂ (λ (x y : Bool). x || y) (free t n k hk b (λ m h. f m (omega arith))) (f n (omega arith))

free_born : (t : Table) (n k : ℕ) → k < 64 → has k (taken_below t n) ≡ false → born_at t k ≡ false
unfolding taken_below born_set
free_born t zero k hk e = sym (has_bits 64 k (born_at t) hk) ∙ e
free_born t (suc n) k hk e = free_born t n k hk (or_none _ _ (sym (has_union k (taken_below t n) (stock_at t n) hk) ∙ e)).0

free_at : (t : Table) (n k : ℕ) → k < 64 → has k (taken_below t n) ≡ false → (m : ℕ) → m < n → has k (stock_at t m) ≡ false
unfolding taken_below
free_at t zero k hk e m h = absurd (omega arith)
free_at t (suc n) k hk e m h =
    let p = or_none _ _ (sym (has_union k (taken_below t n) (stock_at t n) hk) ∙ e) in
    by_eq m n (λ q. ap (λ (i : ℕ). has k (stock_at t i)) q ∙ p.1) (λ q. free_at t n k hk p.0 m (omega arith))

-- what the scan has shown of a record that it has passed -----------------------------------
abbrev pub opens : Table → ℕ → Bool
opens t n = record_sound (record_at t n) && maker_sound_at t n && disjoint_of (stock_at t n) (taken_below t n)

unfoldable pub good_at : Table → ℕ → Bool
good_at t n = opens t n && all_below 8 (slot_sound t n)

record Good (t : Table) (n : ℕ) : Type 0 where
  alone : record_sound (record_at t n) ≡ true
  maker : maker_sound_at t n ≡ true
  fresh : (k : ℕ) → k < 64 → has k (stock_at t n) ≡ true → has k (taken_below t n) ≡ false
  slots : all_below 8 (slot_sound t n) ≡ true

good_facts : (t : Table) (n : ℕ) → good_at t n ≡ true → Good t n
unfolding good_at
good_facts t n e =
    let p = and_true (opens t n) (all_below 8 (slot_sound t n)) e in
    let q = and_true (record_sound (record_at t n) && maker_sound_at t n) (disjoint_of (stock_at t n) (taken_below t n)) p.0 in
    let r = and_true (record_sound (record_at t n)) (maker_sound_at t n) q.0 in
    record { alone = r.0; maker = r.1; fresh = λ k. disjoint_at (stock_at t n) (taken_below t n) k q.1; slots = p.1 }

facts_good : (t : Table) (n : ℕ) → Good t n → good_at t n ≡ true
unfolding good_at disjoint_of
facts_good t n g = and_intro (opens t n) (all_below 8 (slot_sound t n))
    (and_intro (record_sound (record_at t n) && maker_sound_at t n) (disjoint_of (stock_at t n) (taken_below t n))
    (and_intro (record_sound (record_at t n)) (maker_sound_at t n) g.alone g.maker)
    (all_intro 64 _ (λ k hk. apart_intro (has k (stock_at t n)) (has k (taken_below t n)) (g.fresh k hk))))
    g.slots

-- not born, with a status that the scan lets through, is unborn
unborn : (r : Record) → record_sound r ≡ true → is_born r ≡ false → r.status ≡ 0
unborn r e f = by_eq r.status 0 (λ q. q) (λ q. clash (pos_born r (record-fine r e).low (omega arith)) f)

not_born : (r : Record) → r.status ≡ 0 → is_born r ≡ false
not_born r e = by_cases (is_born r) (λ q. absurd (omega (arith, born_pos r q))) (λ q. q)

scan_is : (t : Table) → all_below 64 (good_at t) ≡ sound t
unfolding sound
scan_is t = bool_ext (all_below 64 (good_at t)) (all_below 64 (sound_at t))
    (λ e. let g : (n : ℕ) → n < 64 → Good t n = λ n h. good_facts t n (all_at 64 (good_at t) e n h) in
    all_intro 64 (sound_at t) (λ n h. at_sound t n (record {
      alone = (g n h).alone;
      maker = (g n h).maker;
      slots = (g n h).slots;
      stock = all_intro 64 (stock_sound t n) (λ k hk. fine_stock t n k
          (λ q. unborn (record_at t k) (g k hk).alone (free_born t n k hk ((g n h).fresh k hk q)))
          (λ m hm d q. by_cases (ltb m n)
          (λ l. free_at t n k hk ((g n h).fresh k hk q) m (ltb-true m n l))
          (λ l. by_cases (has k (stock_at t m))
          (λ f. let o = ltb-false m n l in clash q (free_at t m k hk ((g m hm).fresh k hk f) n (omega arith)))
          (λ f. f))));
    })))
    (λ e. all_intro 64 (good_at t) (λ n h. let s = sound_at_lem t n (all_at 64 (sound_at t) e n h) in
    facts_good t n (record {
      alone = s.alone;
      maker = s.maker;
      fresh = λ k hk q. let f = stock_fine t n k (all_at 64 (stock_sound t n) s.stock k hk) q in
          free t n k hk (not_born (record_at t k) f.0) (λ m l. f.1 m (omega arith) (omega arith));
      slots = s.slots;
    })))

-- the scan's ways out --------------------------------------------------------------------------
pub scanned : (t : Table) (n : ℕ) → n ≤ 64 → 64 ≤ n → all_below n (good_at t) ≡ true → true ≡ sound t
scanned t n h l e = let q : n ≡ 64 = omega arith in sym (rw q at e) ∙ scan_is t

stopped : (t : Table) (n : ℕ) → n < 64 → good_at t n ≡ false → false ≡ sound t
stopped t n h e = sym (all_fails 64 (good_at t) n h e) ∙ scan_is t

pub stopped_at_record : (t : Table) (n : ℕ) → n < 64 → opens t n ≡ false → false ≡ sound t
unfolding good_at
stopped_at_record t n h e = stopped t n h (ap (λ (b : Bool). b && all_below 8 (slot_sound t n)) e)

pub stopped_at_slot : (t : Table) (n j : ℕ) → n < 64 → j < 8 → slot_sound t n j ≡ false → false ≡ sound t
unfolding good_at
stopped_at_slot t n j h l e = stopped t n h (ap (λ (b : Bool). opens t n && b) (all_fails 8 (slot_sound t n) j l e) ∙ and_false (opens t n))

pub good_more : (t : Table) (n j : ℕ) → all_below n (good_at t) ≡ true → opens t n ≡ true → j ≤ 8 → 8 ≤ j → all_below j (slot_sound t n) ≡ true → all_below (n + 1) (good_at t) ≡ true
unfolding good_at
good_more t n j e o h l s = let q : j ≡ 8 = omega arith in all_more n (good_at t) e (and_intro (opens t n) (all_below 8 (slot_sound t n)) o (rw q at s))

-- what the calls of a turn found ---------------------------------------------------------------------
module _ (t : Table) (long : length t.records ≡ 64) where
  -- a number is born by the set that the scan goes by
  is_born_lem : (m born : ℕ) → born ≡ born_set t → has m born ≡ born_at t m
  is_born_lem m born p = ap (has m) p ∙ has_born t m long

  pub opens_is : (n born taken : ℕ) (a m b : Bool) → born ≡ born_set t → taken ≡ taken_below t n → a ≡ record_sound (record_at t n)
      → m ≡ maker_sound (record_at t n) (has (maker_at t n) born) → b ≡ disjoint_of (stock_at t n) taken → (a && m && b) ≡ opens t n
  opens_is n born taken a m b s p q f r =
      ap₂ (λ (x y : Bool). x && y) (ap₂ (λ (x y : Bool). x && y) q (f ∙ ap (maker_sound (record_at t n)) (is_born_lem (maker_at t n) born s)))
      (r ∙ ap (disjoint_of (stock_at t n)) p)

  pub slot_is : (n j born : ℕ) (h b : Bool) → born ≡ born_set t → h ≡ has (slot_at t n j).target born
      → b ≡ (idle_slot_sound (record_at t n) (slot_at t n j) && filled_sound h (slot_at t n j)) → b ≡ slot_sound t n j
  slot_is n j born h b p q r = r ∙ ap (λ (x : Bool). idle_slot_sound (record_at t n) (slot_at t n j) && filled_sound x (slot_at t n j))
      (q ∙ is_born_lem (slot_at t n j).target born p)
