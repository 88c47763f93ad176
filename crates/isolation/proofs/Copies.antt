-- Slots that are copied, answered or emptied: each keeps the invariant, leaves the clean objects alone where the destination is
-- not clean, and keeps two tables in agreement where the copies are equal. Assumes nothing.
use mathlib.Core.Path.{◌≡◌, refl, sym, ◌∙◌, ap₂}
use mathlib.Core.Bool.{true, false}
use mathlib.Core.List.{List}
use Prim.Native.Nat.{ℕ, zero, suc, ◌≤◌, ◌<◌}
use native.Mathlib.Omega.{arith}
use lib.Dec.{ltb}
use borrow.Author.Tests.{ltb-true}
use Rattle.mask.proofs.Tests.{by_cases, by_eq}
use Rattle.table.specs.declared.Capability.{Capability}
use Rattle.table.specs.declared.Table.{Table}
use Rattle.table.specs.Cells.{empty_slot, slot_at, status_at, put_slot}
use Rattle.table.proofs.Cells.{Sized, sized_put_slot, slot_same, slot_beside}
use Rattle.requests.specs.declared.Pair.{Pair}
use Rattle.effects.specs.Effects.{answer_slot, clear_slots}
use Rattle.copies.specs.Copies.{landed, copy_to, copy_pairs}
use Rattle.copies.proofs.Landing.{landed_elim}
use Rattle.isolation.specs.Clean.{Clean}
use Rattle.isolation.specs.Demand.{AgreeOn}
use Rattle.isolation.proofs.Invariant.{Isolated, SlotFits, put_slot_isolated, agree_slot_out, agree_refl, agree_trans, agree_slot}
use Rattle.steps.proofs.Granted.{Ranged, none, more}

-- slots that fit -----------------------------------------------------------------
pub fits_empty : (t : Table) (C : Clean) (n : ℕ) → SlotFits t C n empty_slot
fits_empty t C n = record {
  fine = record { blank = λ h. refl; held = λ h. absurd (omega arith); named = λ h. absurd (omega arith); high = omega arith };
  in_clean = λ h g. absurd (omega arith);
  out_clean = λ h g. absurd (omega arith);
}

-- a slot of x in the hands of y, on the same side
pub fits_moved : (t : Table) (C : Clean) (v : Isolated t C) (x y i : ℕ) → i < 8 → status_at t y ≡ 1 → C y ≡ C x → SlotFits t C y (slot_at t x i)
fits_moved t C v x y i hi l side = let f = v.sound.slots x i hi in record {
  fine = record { blank = f.blank; held = λ h. l; named = f.named; high = f.high };
  in_clean = λ c. v.inside x i hi (sym side ∙ c);
  out_clean = λ c. v.outside x i hi (sym side ∙ c);
}

landed_same : (a b c d : Capability) → a ≡ b → c ≡ d → landed a c ≡ landed b d
landed_same a b c d p q = ap₂ landed p q

-- one copy ------------------------------------------------------------------------
pub copy_isolated : (t : Table) (C : Clean) (n j : ℕ) (c : Capability) → Isolated t C → n < 64 → j < 8 → status_at t n ≡ 1 → SlotFits t C n c → Isolated (copy_to t n j c) C
copy_isolated t C n j c v hn hj l f = put_slot_isolated t C n j _ v hn hj (landed_elim (SlotFits t C n) _ c (fits_moved t C v n n j hj l refl) (λ e. f))

pub copy_out : (t : Table) (C : Clean) (n j : ℕ) (c : Capability) → C n ≡ false → j < 8 → AgreeOn C t (copy_to t n j c)
copy_out t C n j c out hj = agree_slot_out C t n out j _ hj

pub copy_both : (t u : Table) (C : Clean) (n j : ℕ) (c d : Capability) → Sized t → Sized u → AgreeOn C t u → n < 64 → j < 8 → C n ≡ true → c ≡ d
    → AgreeOn C (copy_to t n j c) (copy_to u n j d)
copy_both t u C n j c d zt zu ag hn hj h e = agree_slot C t u zt zu ag n hn j _ _ hj (landed_same _ _ c d (ag.slots n j hj h) e)

-- pairs --------------------------------------------------------------------------------
fits_kept : (t : Table) (C : Clean) (n j : ℕ) (x : Capability) (y : ℕ) (c : Capability) → SlotFits t C y c → SlotFits (put_slot t n j x) C y c
fits_kept t C n j x y c f = record { fine = f.fine; in_clean = f.in_clean; out_clean = f.out_clean }

pub copies_isolated : {ps : List Pair} → Ranged ps → (t : Table) (C : Clean) (src : ℕ → Capability) (y : ℕ) → Isolated t C → y < 64 → status_at t y ≡ 1
    → ((i : ℕ) → i < 8 → SlotFits t C y (src i)) → Isolated (copy_pairs t src y ps) C
unfolding copy_pairs
copies_isolated none t C src y v hy l f = v
copies_isolated (more {p = p} hf ht r) t C src y v hy l f =
    copies_isolated r (copy_to t y p.to (src p.from)) C src y (copy_isolated t C y _ _ v hy ht l (f _ hf)) hy l (λ i hi. fits_kept t C y _ _ y (src i) (f i hi))

pub copies_out : {ps : List Pair} → Ranged ps → (t : Table) (C : Clean) (src : ℕ → Capability) (y : ℕ) → C y ≡ false → AgreeOn C t (copy_pairs t src y ps)
unfolding copy_pairs
copies_out none t C src y c = agree_refl C t
copies_out (more hf ht r) t C src y c = agree_trans (copy_out t C y _ _ c ht) (copies_out r _ C src y c)

pub copies_both : {ps : List Pair} → Ranged ps → (t u : Table) (C : Clean) (src dst : ℕ → Capability) (y : ℕ) → Sized t → Sized u → AgreeOn C t u → y < 64 → C y ≡ true
    → ((i : ℕ) → i < 8 → src i ≡ dst i) → AgreeOn C (copy_pairs t src y ps) (copy_pairs u dst y ps)
unfolding copy_pairs
copies_both none t u C src dst y zt zu ag hy c f = ag
copies_both (more hf ht r) t u C src dst y zt zu ag hy c f =
    copies_both r _ _ C src dst y (sized_put_slot t y _ _ zt) (sized_put_slot u y _ _ zu) (copy_both t u C y _ _ _ zt zu ag hy ht c (f _ hf)) hy c f

-- the reply slot --------------------------------------------------------------------------
pub answer_isolated : (t : Table) (C : Clean) (n y a : ℕ) → Isolated t C → n < 64 → SlotFits t C n (record { target = a; rights = 8 }) → Isolated (answer_slot t n y a) C
unfolding answer_slot
answer_isolated t C n y a v hn f = by_cases (ltb y 8)
    (λ e. rw (e, answer_slot) (put_slot_isolated t C n y _ v hn (ltb-true y 8 e) f)) (λ e. rw (e, answer_slot) v)

pub answer_out : (t : Table) (C : Clean) (n y a : ℕ) → C n ≡ false → AgreeOn C t (answer_slot t n y a)
unfolding answer_slot
answer_out t C n y a c = by_cases (ltb y 8)
    (λ e. rw (e, answer_slot) (agree_slot_out C t n c y _ (ltb-true y 8 e))) (λ e. rw (e, answer_slot) (agree_refl C t))

pub answer_both : (t u : Table) (C : Clean) (n y a : ℕ) → Sized t → Sized u → AgreeOn C t u → n < 64 → AgreeOn C (answer_slot t n y a) (answer_slot u n y a)
unfolding answer_slot
answer_both t u C n y a zt zu ag hn = by_cases (ltb y 8)
    (λ e. rw (e, answer_slot) (agree_slot C t u zt zu ag n hn y _ _ (ltb-true y 8 e) refl)) (λ e. rw (e, answer_slot) ag)

-- slots emptied -------------------------------------------------------------------------------
pub clear_isolated : (t : Table) (C : Clean) (y k : ℕ) → Isolated t C → y < 64 → k ≤ 8 → Isolated (clear_slots t y k) C
unfolding clear_slots
clear_isolated t C y zero v hy hk = v
clear_isolated t C y (suc k) v hy hk = put_slot_isolated _ C y k empty_slot (clear_isolated t C y k v hy (omega arith)) hy (omega arith) (fits_empty _ C y)

pub clear_sized : (t : Table) (y k : ℕ) → Sized t → Sized (clear_slots t y k)
unfolding clear_slots
clear_sized t y zero z = z
clear_sized t y (suc k) z = sized_put_slot _ y k empty_slot (clear_sized t y k z)

pub clear_bare : (t : Table) (y k j : ℕ) → Sized t → y < 64 → k ≤ 8 → j < k → (slot_at (clear_slots t y k) y j).rights ≡ 0
unfolding clear_slots
clear_bare t y zero j z hy hk h = absurd (omega arith)
clear_bare t y (suc k) j z hy hk h = by_eq j k
    (λ e. rw (e, slot_same (clear_slots t y k) y k empty_slot (clear_sized t y k z) hy (omega arith)) refl)
    (λ e. rw (slot_beside (clear_slots t y k) y k y j empty_slot e (omega arith) (omega arith)) (clear_bare t y k j z hy (omega arith) (omega arith)))

pub clear_out : (t : Table) (C : Clean) (y k : ℕ) → C y ≡ false → k ≤ 8 → AgreeOn C t (clear_slots t y k)
unfolding clear_slots
clear_out t C y zero c hk = agree_refl C t
clear_out t C y (suc k) c hk = agree_trans (clear_out t C y k c (omega arith)) (agree_slot_out C _ y c k empty_slot (omega arith))

pub clear_both : (t u : Table) (C : Clean) (y k : ℕ) → Sized t → Sized u → AgreeOn C t u → y < 64 → k ≤ 8 → AgreeOn C (clear_slots t y k) (clear_slots u y k)
unfolding clear_slots
clear_both t u C y zero zt zu ag hy hk = ag
clear_both t u C y (suc k) zt zu ag hy hk = agree_slot C _ _ (clear_sized t y k zt) (clear_sized u y k zu) (clear_both t u C y k zt zu ag hy (omega arith)) y hy k _ _ (omega arith) refl
