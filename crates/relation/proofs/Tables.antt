-- The table's holding: who takes part, and which right in which slot is held. Assumes nothing.
use mathlib.Core.Path.{◌≡◌, refl, ap, subst⁻¹}
use mathlib.Core.Bool.{true, ◌&&◌}
use Prim.Native.Nat.{ℕ, ◌+◌, ◌*◌, ◌/◌, ◌%◌, ◌≤◌, ◌<◌}
use native.Mathlib.Omega.{arith}
use lib.Dec.{ltb, eqb}
use borrow.Author.Tests.{ltb-true, ltb-false, eqb-true, eq-eqb}
use Rattle.mask.specs.Sets.{has}
use Rattle.mask.proofs.Tests.{by_cases, and_true, and_intro}
use Rattle.mask.proofs.Below.{any_intro, any_elim}
use Rattle.table.specs.declared.Record.{Record}
use Rattle.table.specs.declared.Table.{Table}
use Rattle.table.specs.Cells.{record_at, slot_at, slot_of, status_at, is_born, born_at}
use Rattle.table.proofs.Cells.{record-high}
use Rattle.table.proofs.SoundFacts.{Sound, born_pos, pos_born}
use Rattle.relation.specs.Relation.{Right, bit_at, takes_part, holds_in}

-- who takes part -----------------------------------------------------------------------
pub part_low : (t : Table) (n : ℕ) → takes_part t n ≡ true → (n < 64) × (1 ≤ status_at t n)
unfolding takes_part
part_low t n e = let p = and_true (ltb n 64) (born_at t n) e in (ltb-true n 64 p.0, born_pos (record_at t n) p.1)

pub takes_part_lem : (t : Table) → Sound t → (n : ℕ) → 1 ≤ status_at t n → takes_part t n ≡ true
unfolding takes_part
takes_part_lem t d n h = and_intro (ltb n 64) (born_at t n)
    (by_cases (ltb n 64) (λ e. e) (λ e. absurd (omega (arith, ap (λ (r : Record). r.status) (record-high t n d.size (ltb-false n 64 e))))))
    (pos_born (record_at t n) (d.records n).low h)

-- that goes by the record
pub part_same : (t u : Table) (n : ℕ) → (n < 64 → record_at t n ≡ record_at u n) → takes_part t n ≡ takes_part u n
unfolding takes_part
part_same t u n f = by_cases (ltb n 64)
    (λ l. ap (λ (r : Record). ltb n 64 && is_born r) (f (ltb-true n 64 l)))
    (λ l. rw l refl)

-- a right in a slot is held, and a held right is in a slot -----------------------------
pub slot_held_lem : (t : Table) (b : Right) (k : ℕ) → has (bit_at b) (slot_of t.slots k).rights ≡ true → holds_in t b (k / 8) (slot_of t.slots k).target ≡ true
unfolding holds_in
slot_held_lem t b k e =
    let at : k / 8 * 8 + k % 8 ≡ k = omega arith in
    any_intro 8 _ (k % 8) (omega arith) (subst⁻¹ (λ (i : ℕ). (eqb (slot_of t.slots i).target (slot_of t.slots k).target && has (bit_at b) (slot_of t.slots i).rights) ≡ true) at
    (and_intro _ _ (eq-eqb (slot_of t.slots k).target (slot_of t.slots k).target refl) e))

pub held_slot : {P : Type 0} (t : Table) (b : Right) (x y : ℕ) → holds_in t b x y ≡ true → x < 64
    → ((k : ℕ) → k < 512 → k / 8 ≡ x → (slot_of t.slots k).target ≡ y → has (bit_at b) (slot_of t.slots k).rights ≡ true → P) → P
unfolding holds_in
held_slot t b x y e hx f = any_elim 8 _ e (λ j hj q.
    let p = and_true (eqb (slot_at t x j).target y) _ q in
    f (x * 8 + j) (omega arith) (omega arith) (eqb-true (slot_at t x j).target y p.0) p.1)
