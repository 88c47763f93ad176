-- A glance that clears the slots of a record is right: each of them passes the test of soundness. A slot that is not odd has a
-- number of the table for its target and rights 0 to 15, and its target is among those that were noted. Assumes nothing.
use mathlib.Core.Path.{◌≡◌, refl, sym, ◌∙◌, ap, subst}
use mathlib.Core.Bool.{Bool, true, false, not, ◌&&◌, ◌||◌}
use Prim.Native.Nat.{ℕ, zero, suc, ◌+◌, ◌%◌, ◌≤◌, ◌<◌}
use native.Mathlib.Omega.{arith}
use native.Mathlib.Numerals.{add-one}
use lib.Dec.{leb, eqb}
use lib.ListN.{length}
use borrow.Author.Tests.{leb-false, le-leb, eq-eqb, ne_eqb, not-true, not-false}
use Rattle.mask.specs.Sets.{has, all_below, subset_of}
use Rattle.mask.proofs.Tests.{by_eq, clash, and_true, and_intro, or_cases, or_left, or_right, or_none}
use Rattle.mask.proofs.Below.{all_intro}
use Rattle.mask.proofs.Bits.{has_including, subset_at}
use Rattle.table.specs.declared.Capability.{Capability}
use Rattle.table.specs.declared.Glance.{Glance}
use Rattle.table.specs.declared.Table.{Table}
use Rattle.table.specs.Cells.{record_at, slot_at, is_alive, born_at, is_empty}
use Rattle.table.specs.Soundness.{idle_slot_sound, filled_sound, slot_sound}
use Rattle.table.specs.Helpers.{odd_slot, glance_more, clear_of}
use Rattle.table.proofs.Scan.{born_set, has_born}

-- what the glance has noted of the first k slots of n
unfoldable pub glance_over : Table → ℕ → ℕ → Glance
glance_over t n zero = record { filled = false; odd = false; named = 0 }
glance_over t n (suc k) = glance_more (glance_over t n k) (slot_at t n k).target (slot_at t n k).rights

pub over_none : (t : Table) (n : ℕ) → record { filled = false; odd = false; named = 0 } ≡ glance_over t n 0
unfolding glance_over
over_none t n = refl

pub over_more : (t : Table) (n k : ℕ) (g h : Glance) → g ≡ glance_over t n k → h ≡ glance_more g (slot_at t n k).target (slot_at t n k).rights → h ≡ glance_over t n (k + 1)
unfolding glance_over
over_more t n k g h p q = rw add-one (q ∙ ap (λ (x : Glance). glance_more x (slot_at t n k).target (slot_at t n k).rights) p)

-- what was noted of each slot
module _ (t : Table) (n : ℕ) where
  none_filled : (k i : ℕ) → i < k → (glance_over t n k).filled ≡ false → is_empty (slot_at t n i) ≡ true
  unfolding glance_over
  none_filled zero i h e = absurd (omega arith)
  none_filled (suc k) i h e =
      let p = or_none (glance_over t n k).filled (not (is_empty (slot_at t n k))) e in
      by_eq i k (λ q. rw q (not-false _ p.1)) (λ q. none_filled k i (omega arith) p.0)

  none_odd : (k i : ℕ) → i < k → (glance_over t n k).odd ≡ false → odd_slot (slot_at t n i).target (slot_at t n i).rights ≡ false
  unfolding glance_over
  none_odd zero i h e = absurd (omega arith)
  none_odd (suc k) i h e =
      let p = or_none (glance_over t n k).odd (odd_slot (slot_at t n k).target (slot_at t n k).rights) e in
      by_eq i k (λ q. rw q p.1) (λ q. none_odd k i (omega arith) p.0)

  all_named : (k i : ℕ) → i < k → has ((slot_at t n i).target % 64) (glance_over t n k).named ≡ true
  unfolding glance_over
  all_named zero i h = absurd (omega arith)
  all_named (suc k) i h =
      let x = (slot_at t n i).target % 64 in
      let y = (slot_at t n k).target % 64 in
      let m = (glance_over t n k).named in
      has_including x y m (omega arith)
      ∙ by_eq i k
      (λ q. or_right (has x m) (eqb x y) (eq-eqb x y (ap (λ (j : ℕ). (slot_at t n j).target % 64) q)))
      (λ q. or_left (has x m) (eqb x y) (all_named k i (omega arith)))

-- a slot that is not odd
pub record Even (c : Capability) : Type 0 where
  pub near : c.target < 64
  pub high : c.rights ≤ 15
  pub blank : c.rights ≡ 0 → c.target ≡ 0

pub even : (c : Capability) → odd_slot c.target c.rights ≡ false → Even c
even c e =
    let p = or_none (leb 64 c.target || leb 16 c.rights) (not (eqb c.target 0) && eqb c.rights 0) e in
    let q = or_none (leb 64 c.target) (leb 16 c.rights) p.0 in
    record {
      near = leb-false 64 c.target q.0;
      high = omega (arith, leb-false 16 c.rights q.1);
      blank = λ z. by_eq c.target 0 (λ w. w) (λ w. clash (and_intro (not (eqb c.target 0)) (eqb c.rights 0) (ap not (ne_eqb _ 0 w)) (eq-eqb _ 0 z)) p.1);
    }

-- an empty slot passes, and so does a filled one that is not odd, of a record that is alive
pub empty_sound : (t : Table) (n j : ℕ) → is_empty (slot_at t n j) ≡ true → slot_sound t n j ≡ true
empty_sound t n j e = and_intro (idle_slot_sound (record_at t n) (slot_at t n j)) (filled_sound (born_at t (slot_at t n j).target) (slot_at t n j))
    (or_right (is_alive (record_at t n)) (is_empty (slot_at t n j)) e) (or_left (is_empty (slot_at t n j)) _ e)

pub even_sound : (t : Table) (n j : ℕ) → is_alive (record_at t n) ≡ true → Even (slot_at t n j) → born_at t (slot_at t n j).target ≡ true → slot_sound t n j ≡ true
even_sound t n j a f b = let c = slot_at t n j in by_eq c.rights 0
    (λ z. empty_sound t n j (and_intro (eqb c.target 0) (eqb c.rights 0) (eq-eqb _ 0 (f.blank z)) (eq-eqb _ 0 z)))
    (λ z. and_intro (idle_slot_sound (record_at t n) c) (filled_sound (born_at t c.target) c) (or_left (is_alive (record_at t n)) (is_empty c) a)
    (or_right (is_empty c) _ (and_intro (born_at t c.target && leb 1 c.rights) (leb c.rights 15)
    (and_intro (born_at t c.target) (leb 1 c.rights) b (le-leb 1 c.rights (omega arith))) (le-leb c.rights 15 f.high))))

-- what a cleared glance says
pub cleared : (t : Table) (n k born : ℕ) (g : Glance) (b : Bool) → length t.records ≡ 64 → born ≡ born_set t → 8 ≤ k → g ≡ glance_over t n k → b ≡ clear_of g (record_at t n) born → b ≡ true
    → all_below 8 (slot_sound t n) ≡ true
cleared t n k born g b long p l q r e =
    let s = glance_over t n k in
    let z : clear_of s (record_at t n) (born_set t) ≡ true = ap (λ (x : Glance). clear_of x (record_at t n) (born_set t)) (sym q) ∙ ap (clear_of g (record_at t n)) (sym p) ∙ sym r ∙ e in
    or_cases (not s.filled) _ z
    (λ w. all_intro 8 (slot_sound t n) (λ j h. empty_sound t n j (none_filled t n k j (omega arith) (not-true _ w))))
    (λ w.
    let u = and_true (is_alive (record_at t n) && not s.odd) (subset_of s.named (born_set t)) w in
    let v = and_true (is_alive (record_at t n)) (not s.odd) u.0 in
    all_intro 8 (slot_sound t n) (λ j h.
    let f = even (slot_at t n j) (none_odd t n k j (omega arith) (not-true _ v.1)) in
    let x = (slot_at t n j).target in
    let low = f.near in
    let m : x % 64 ≡ x = omega arith in
    even_sound t n j v.0 f (sym (has_born t x long) ∙ subset_at s.named (born_set t) x u.1 low (subst (λ (i : ℕ). has i s.named ≡ true) m (all_named t n k j (omega arith))))))
