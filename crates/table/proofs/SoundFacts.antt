-- Soundness as facts about every number, and that they are exactly the test of specs/Soundness.antt. Proofs about steps use the
-- facts; contracts use the test. Assumes nothing.
use mathlib.Core.Path.{◌≡◌, refl, sym, ◌∙◌, ap}
use mathlib.Core.Logic.{◌≢◌}
use mathlib.Core.Bool.{Bool, true, false, not, ◌&&◌}
use Prim.Native.Nat.{ℕ, ◌≤◌, ◌<◌}
use native.Mathlib.Omega.{arith}
use lib.Dec.{leb, ltb, eqb}
use borrow.Author.Tests.{ltb-true, ltb-false, leb-true, eqb-true, le-leb, eq-eqb, not-true}
use Rattle.mask.specs.Sets.{has, all_below}
use Rattle.mask.proofs.Tests.{by_cases, by_eq, clash, and_true, and_intro, or_cases, or_left, or_right, imply_intro, imply_use}
use Rattle.mask.proofs.Below.{all_at, all_intro}
use Rattle.mask.proofs.Bits.{has_zero}
use Rattle.table.specs.declared.Capability.{Capability}
use Rattle.table.specs.declared.Record.{Record}
use Rattle.table.specs.declared.Table.{Table}
use Rattle.table.specs.Cells.{no_maker, record_at, slot_at, status_at, maker_at, stock_at, empty_slot, is_alive, is_dead, is_unborn, is_born, born_at, is_empty}
use Rattle.table.specs.Soundness.{values_sound, unborn_sound, idle_sound, idle_slot_sound, record_sound, maker_sound, filled_sound, slot_sound, stock_sound, sound_at, sound}
use Rattle.table.proofs.Cells.{Sized, record-high, slot_high}

pub record RecordFine (r : Record) : Type 0 where
  pub low : r.status ≤ 2
  pub sort : r.kind ≤ 1
  pub still : r.status ≢ 1 → (r.word ≡ 0) × (r.stock ≡ 0)
  pub plain : r.status ≡ 0 → r.kind ≡ 0

-- the maker of a record with the status a; the maker itself has the status b
pub record MakerFine (a b m : ℕ) : Type 0 where
  pub alone : a ≡ 0 → m ≡ no_maker
  pub born : m ≢ no_maker → 1 ≤ b

-- a slot whose holder has the status a and whose target has the status b
pub record SlotFine (a b : ℕ) (c : Capability) : Type 0 where
  pub blank : c.rights ≡ 0 → c.target ≡ 0
  pub held : 1 ≤ c.rights → a ≡ 1
  pub named : 1 ≤ c.rights → 1 ≤ b
  pub high : c.rights ≤ 15

pub record Sound (t : Table) : Type 0 where
  pub size : Sized t
  pub records : (n : ℕ) → RecordFine (record_at t n)
  pub makers : (n : ℕ) → n < 64 → MakerFine (status_at t n) (status_at t (maker_at t n)) (maker_at t n)
  pub slots : (n j : ℕ) → j < 8 → SlotFine (status_at t n) (status_at t (slot_at t n j).target) (slot_at t n j)
  pub stocks : (n k : ℕ) → k < 64 → has k (stock_at t n) ≡ true → status_at t k ≡ 0
  pub apart : (n m k : ℕ) → k < 64 → has k (stock_at t n) ≡ true → has k (stock_at t m) ≡ true → n ≡ m

-- born, by the status ------------------------------------------------------------
pub born_pos : (r : Record) → is_born r ≡ true → 1 ≤ r.status
born_pos r e = or_cases (is_alive r) (is_dead r) e
    (λ a. omega (arith, eqb-true r.status 1 a)) (λ a. omega (arith, eqb-true r.status 2 a))

pub pos_born : (r : Record) → r.status ≤ 2 → 1 ≤ r.status → is_born r ≡ true
pos_born r l p = by_eq r.status 1
    (λ e. or_left (is_alive r) (is_dead r) (eq-eqb _ 1 e))
    (λ e. or_right (is_alive r) (is_dead r) (eq-eqb r.status 2 (omega arith)))

-- a record ---------------------------------------------------------------------------
pub record-fine : (r : Record) → record_sound r ≡ true → RecordFine r
record-fine r e =
    let p = and_true (values_sound r && unborn_sound r) (idle_sound r) e in
    let q = and_true (values_sound r) (unborn_sound r) p.0 in
    let v = and_true (leb r.status 2) (leb r.kind 1) q.0 in
    record {
      low = leb-true _ 2 v.0;
      sort = leb-true _ 1 v.1;
      still = λ n. or_cases (is_alive r) _ p.1 (λ a. absurd (n (eqb-true _ 1 a)))
          (λ a. let w = and_true (eqb r.word 0) (eqb r.stock 0) a in (eqb-true _ 0 w.0, eqb-true _ 0 w.1));
      plain = λ n. eqb-true _ 0 (imply_use (is_unborn r) (eqb r.kind 0) q.1 (eq-eqb _ 0 n));
    }

pub fine_record : (r : Record) → RecordFine r → record_sound r ≡ true
fine_record r f = and_intro (values_sound r && unborn_sound r) (idle_sound r)
    (and_intro (values_sound r) (unborn_sound r)
    (and_intro (leb r.status 2) (leb r.kind 1) (le-leb _ 2 f.low) (le-leb _ 1 f.sort))
    (imply_intro (is_unborn r) (eqb r.kind 0) (λ e. eq-eqb _ 0 (f.plain (eqb-true _ 0 e)))))
    (by_eq r.status 1
    (λ e. or_left (is_alive r) _ (eq-eqb _ 1 e))
    (λ e. or_right (is_alive r) _ (and_intro (eqb r.word 0) (eqb r.stock 0) (eq-eqb _ 0 (f.still e).0) (eq-eqb _ 0 (f.still e).1))))

-- a maker ---------------------------------------------------------------------------------
pub maker_fine : (r s : Record) → maker_sound r (is_born s) ≡ true → MakerFine r.status s.status r.maker
maker_fine r s e =
    let p : r.maker ≢ no_maker → (not (is_unborn r) && is_born s) ≡ true
    = λ n. or_cases (eqb r.maker no_maker) _ e (λ q. absurd (n (eqb-true _ no_maker q))) (λ q. q) in
    record {
      alone = λ u. by_eq r.maker no_maker (λ q. q) (λ q. clash (eq-eqb _ 0 u) (not-true _ (and_true (not (is_unborn r)) (is_born s) (p q)).0));
      born = λ n. born_pos s (and_true (not (is_unborn r)) (is_born s) (p n)).1;
    }

fine_maker : (r s : Record) → s.status ≤ 2 → MakerFine r.status s.status r.maker → maker_sound r (is_born s) ≡ true
fine_maker r s l f = by_eq r.maker no_maker
    (λ e. or_left (eqb r.maker no_maker) _ (eq-eqb _ no_maker e))
    (λ e. or_right (eqb r.maker no_maker) _ (and_intro (not (is_unborn r)) (is_born s)
    (by_cases (is_unborn r) (λ u. absurd (e (f.alone (eqb-true _ 0 u)))) (λ u. ap not u)) (pos_born s l (f.born e))))

-- a slot --------------------------------------------------------------------------------
empty_fine : (a b : ℕ) (c : Capability) → is_empty c ≡ true → SlotFine a b c
empty_fine a b c e =
    let p = and_true (eqb c.target 0) (eqb c.rights 0) e in
    let q = eqb-true c.rights 0 p.1 in
    record { blank = λ h. eqb-true _ 0 p.0; held = λ h. absurd (omega arith); named = λ h. absurd (omega arith); high = omega arith }

fine_empty : (a b : ℕ) (c : Capability) → SlotFine a b c → c.rights ≡ 0 → is_empty c ≡ true
fine_empty a b c f e = and_intro (eqb c.target 0) (eqb c.rights 0) (eq-eqb _ 0 (f.blank e)) (eq-eqb _ 0 e)

pub slot_fine : (r s : Record) (c : Capability) → (idle_slot_sound r c && filled_sound (is_born s) c) ≡ true → SlotFine r.status s.status c
slot_fine r s c e =
    let p = and_true (idle_slot_sound r c) (filled_sound (is_born s) c) e in
    or_cases (is_empty c) (is_born s && leb 1 c.rights && leb c.rights 15) p.1
    (λ a. empty_fine _ _ c a)
    (λ a.
    let q = and_true (is_born s && leb 1 c.rights) (leb c.rights 15) a in
    let w = and_true (is_born s) (leb 1 c.rights) q.0 in
    let l = leb-true 1 c.rights w.1 in
    record {
      blank = λ h. absurd (omega arith);
      held = λ h. or_cases (is_alive r) (is_empty c) p.0 (λ b. eqb-true _ 1 b)
          (λ b. absurd (omega (arith, eqb-true c.rights 0 (and_true (eqb c.target 0) (eqb c.rights 0) b).1)));
      named = λ h. born_pos s w.0;
      high = leb-true _ 15 q.1;
    })

pub fine_slot : (r s : Record) (c : Capability) → s.status ≤ 2 → SlotFine r.status s.status c → (idle_slot_sound r c && filled_sound (is_born s) c) ≡ true
fine_slot r s c l f = by_eq c.rights 0
    (λ z. let e = fine_empty _ _ c f z in
    and_intro (idle_slot_sound r c) (filled_sound (is_born s) c) (or_right (is_alive r) (is_empty c) e) (or_left (is_empty c) _ e))
    (λ z. and_intro (idle_slot_sound r c) (filled_sound (is_born s) c)
    (or_left (is_alive r) (is_empty c) (eq-eqb _ 1 (f.held (omega arith))))
    (or_right (is_empty c) _ (and_intro (is_born s && leb 1 c.rights) (leb c.rights 15)
    (and_intro (is_born s) (leb 1 c.rights) (pos_born s l (f.named (omega arith))) (le-leb 1 c.rights (omega arith)))
    (le-leb _ 15 f.high))))

-- a table -------------------------------------------------------------------------------------
pub fine_stock : (t : Table) (n k : ℕ) → (has k (stock_at t n) ≡ true → status_at t k ≡ 0) → ((m : ℕ) → m < 64 → m ≢ n → has k (stock_at t n) ≡ true → has k (stock_at t m) ≡ false)
    → stock_sound t n k ≡ true
unfolding stock_sound
fine_stock t n k f g = imply_intro (has k (stock_at t n)) _ (λ e. and_intro (is_unborn (record_at t k)) _ (eq-eqb _ 0 (f e))
    (all_intro 64 _ (λ m h. by_eq m n
    (λ q. or_left (eqb m n) _ (eq-eqb m n q))
    (λ q. or_right (eqb m n) _ (ap not (g m h q e))))))

pub stock_fine : (t : Table) (n k : ℕ) → stock_sound t n k ≡ true → has k (stock_at t n) ≡ true
    → (status_at t k ≡ 0) × ((m : ℕ) → m < 64 → m ≢ n → has k (stock_at t m) ≡ false)
unfolding stock_sound
stock_fine t n k e h =
    let p = and_true (is_unborn (record_at t k)) _ (imply_use (has k (stock_at t n)) _ e h) in
    (eqb-true _ 0 p.0, λ m l d. or_cases (eqb m n) _ (all_at 64 _ p.1 m l) (λ q. absurd (d (eqb-true m n q))) (λ q. not-true _ q))

abbrev pub maker_sound_at : Table → ℕ → Bool
maker_sound_at t n = maker_sound (record_at t n) (born_at t (maker_at t n))

pub record SoundAt (t : Table) (n : ℕ) : Type 0 where
  pub alone : record_sound (record_at t n) ≡ true
  pub maker : maker_sound_at t n ≡ true
  pub slots : all_below 8 (slot_sound t n) ≡ true
  pub stock : all_below 64 (stock_sound t n) ≡ true

pub sound_at_lem : (t : Table) (n : ℕ) → sound_at t n ≡ true → SoundAt t n
unfolding sound_at
sound_at_lem t n e =
    let p = and_true (record_sound (record_at t n) && maker_sound_at t n && all_below 8 (slot_sound t n)) (all_below 64 (stock_sound t n)) e in
    let q = and_true (record_sound (record_at t n) && maker_sound_at t n) (all_below 8 (slot_sound t n)) p.0 in
    let r = and_true (record_sound (record_at t n)) (maker_sound_at t n) q.0 in
    record { alone = r.0; maker = r.1; slots = q.1; stock = p.1 }

pub at_sound : (t : Table) (n : ℕ) → SoundAt t n → sound_at t n ≡ true
unfolding sound_at
at_sound t n s = and_intro (record_sound (record_at t n) && maker_sound_at t n && all_below 8 (slot_sound t n)) (all_below 64 (stock_sound t n))
    (and_intro (record_sound (record_at t n) && maker_sound_at t n) (all_below 8 (slot_sound t n))
    (and_intro (record_sound (record_at t n)) (maker_sound_at t n) s.alone s.maker) s.slots) s.stock

pub sound_true : (t : Table) → Sound t → sound t ≡ true
unfolding sound
sound_true t d = all_intro 64 (sound_at t) (λ n h. at_sound t n (record {
  alone = fine_record _ (d.records n);
  maker = fine_maker (record_at t n) (record_at t (maker_at t n)) (d.records (maker_at t n)).low (d.makers n h);
  slots = all_intro 8 _ (λ j g. let y = (slot_at t n j).target in fine_slot (record_at t n) (record_at t y) (slot_at t n j) (d.records y).low (d.slots n j g));
  stock = all_intro 64 _ (λ k g. fine_stock t n k (d.stocks n k g)
      (λ m l q e. by_cases (has k (stock_at t m)) (λ w. absurd (q (d.apart m n k g w e))) (λ w. w)));
}))

module _ (t : Table) (z : Sized t) (e : sound t ≡ true) where
  each : (n : ℕ) → n < 64 → SoundAt t n
  unfolding sound
  each n h = sound_at_lem t n (all_at 64 (sound_at t) e n h)

  -- a fact of every number, from the numbers below 64 and the default
  below_or : {P : Type 0} (n : ℕ) → (n < 64 → P) → (64 ≤ n → P) → P
  below_or n f g = by_cases (ltb n 64) (λ q. f (ltb-true n 64 q)) (λ q. g (ltb-false n 64 q))

  low_stock : (n k : ℕ) → has k (stock_at t n) ≡ true → n < 64
  low_stock n k h = below_or n (λ l. l) (λ l. clash h (ap (λ (r : Record). has k r.stock) (record-high t n z l) ∙ has_zero k))

  pub sound_facts : Sound t
  sound_facts = record {
    size = z;
    records = λ n. below_or n (λ h. record-fine _ (each n h).alone)
        (λ h. rw (record-high t n z h) (record { low = omega arith; sort = omega arith; still = λ q. (refl, refl); plain = λ q. refl }));
    makers = λ n h. maker_fine (record_at t n) (record_at t (maker_at t n)) (each n h).maker;
    slots = λ n j hj. below_or n (λ h. slot_fine (record_at t n) (record_at t (slot_at t n j).target) (slot_at t n j) (all_at 8 (slot_sound t n) (each n h).slots j hj))
        (λ h. rw (slot_high t n j z h) (empty_fine _ _ empty_slot refl));
    stocks = λ n k hk h. (stock_fine t n k (all_at 64 _ (each n (low_stock n k h)).stock k hk) h).0;
    apart = λ n m k hk h g. by_eq m n (λ q. sym q) (λ q.
        clash g ((stock_fine t n k (all_at 64 _ (each n (low_stock n k h)).stock k hk) h).1 m (low_stock m k g) q));
  }

-- an unborn object's slots are empty
pub bare : (t : Table) (n : ℕ) → Sound t → status_at t n ≡ 0 → (j : ℕ) → j < 8 → (slot_at t n j).rights ≡ 0
bare t n d z j hj = by_eq (slot_at t n j).rights 0 (λ e. e) (λ e. absurd (omega (arith, (d.slots n j hj).held (omega arith))))

pub bare_slot : (t : Table) (n : ℕ) → Sound t → status_at t n ≡ 0 → (j : ℕ) → j < 8 → slot_at t n j ≡ empty_slot
bare_slot t n d z j hj = let p = bare t n d z j hj in let q = (d.slots n j hj).blank p in λ x. record { target = q x; rights = p x }
