-- What is read where a number is forgotten: of each slot and of each record what becomes of it. By the laws of lists. Assumes nothing.
use mathlib.Core.Path.{◌≡◌, refl, sym, ◌∙◌, ap}
use mathlib.Core.Logic.{◌≢◌}
use mathlib.Core.List.{List, [], ◌∷◌, map}
use Prim.Native.Nat.{ℕ, zero, suc, ◌+◌, ◌*◌, ◌<◌}
use native.Mathlib.Omega.{arith}
use lib.ListN.{length, get_or, length-map, get_or-map}
use borrow.Author.Tests.{eq-eqb, ne_eqb}
use Rattle.mask.proofs.Tests.{by_eq}
use Rattle.table.specs.declared.Capability.{Capability}
use Rattle.table.specs.declared.Record.{Record}
use Rattle.table.specs.declared.Table.{Table}
use Rattle.table.specs.Cells.{empty_slot, no_maker, no_record, record_at, slot_at, slot_of}
use Rattle.table.proofs.Cells.{Sized}
use Rattle.forgetting.specs.Forgetting.{unnamed, maker_left, unmade, slots_forgotten, makers_forgotten, forgotten}

-- a slot that names the number, one that does not; a fact of what becomes of either
pub unnamed_named : (g : ℕ) (c : Capability) → c.target ≡ g → unnamed g c ≡ empty_slot
unfolding unnamed
unnamed_named g c e = rw (eq-eqb _ g e, unnamed) refl

pub unnamed_other : (g : ℕ) (c : Capability) → c.target ≢ g → unnamed g c ≡ c
unfolding unnamed
unnamed_other g c e = rw (ne_eqb _ g e, unnamed) refl

pub unnamed_elim : (P : Capability → Type 0) (g : ℕ) (c : Capability) → P empty_slot → (c.target ≢ g → P c) → P (unnamed g c)
unnamed_elim P g c empty other = by_eq c.target g (λ e. rw (unnamed_named g c e) empty) (λ e. rw (unnamed_other g c e) (other e))

pub unnamed_empty : (g : ℕ) → unnamed g empty_slot ≡ empty_slot
unnamed_empty g = unnamed_elim (λ c. c ≡ empty_slot) g empty_slot refl (λ e. refl)

-- the same of a maker byte
pub left_named : (g m : ℕ) → m ≡ g → maker_left g m ≡ no_maker
unfolding maker_left
left_named g m e = rw (eq-eqb m g e, maker_left) refl

pub left_other : (g m : ℕ) → m ≢ g → maker_left g m ≡ m
unfolding maker_left
left_other g m e = rw (ne_eqb m g e, maker_left) refl

pub left_elim : (P : ℕ → Type 0) (g m : ℕ) → (m ≡ g → P no_maker) → (m ≢ g → P m) → P (maker_left g m)
left_elim P g m named other = by_eq m g (λ e. rw (left_named g m e) (named e)) (λ e. rw (left_other g m e) (other e))

-- in the table
pub forgotten_place : (t : Table) (g k : ℕ) → slot_of (forgotten t g).slots k ≡ unnamed g (slot_of t.slots k)
unfolding slots_forgotten makers_forgotten
forgotten_place t g k =
    ap (λ (d : Capability). get_or (map (unnamed g) t.slots) k d) (sym (unnamed_empty g)) ∙ get_or-map (unnamed g) t.slots k empty_slot

pub forgotten_slot : (t : Table) (g n j : ℕ) → slot_at (forgotten t g) n j ≡ unnamed g (slot_at t n j)
forgotten_slot t g n j = forgotten_place t g (n * 8 + j)

-- past the end there is no record, and nothing to be forgotten
map_inside : {A : Type 0} (f : A → A) (l : List A) (n : ℕ) (d : A) → n < length l → get_or (map f l) n d ≡ f (get_or l n d)
map_inside f [] n d h = absurd (omega arith)
map_inside f (x ∷ xs) zero d h = refl
map_inside f (x ∷ xs) (suc n) d h = map_inside f xs n d (omega arith)

pub forgotten_record : (t : Table) (g n : ℕ) → Sized t → n < 64 → record_at (forgotten t g) n ≡ unmade g (record_at t n)
unfolding slots_forgotten makers_forgotten
forgotten_record t g n z h = map_inside (unmade g) t.records n no_record (omega (arith, z.records))

pub forgotten_sized : (t : Table) (g : ℕ) → Sized t → Sized (forgotten t g)
unfolding slots_forgotten makers_forgotten
forgotten_sized t g z = record { records = length-map t.records (unmade g) ∙ z.records; slots = length-map t.slots (unnamed g) ∙ z.slots }

-- a fact of the record at any place, of any table: of what becomes of it, or of nothing
map_any : {A : Type 0} (P : A → Type 0) (f : A → A) (l : List A) (n : ℕ) (d : A) → P (f (get_or l n d)) → (get_or l n d ≡ d → P d) → P (get_or (map f l) n d)
map_any P f [] n d new end = end refl
map_any P f (x ∷ xs) zero d new end = new
map_any P f (x ∷ xs) (suc n) d new end = map_any P f xs n d new end

pub forgotten_any : (P : Record → Type 0) (t : Table) (g n : ℕ) → P (unmade g (record_at t n)) → (record_at t n ≡ no_record → P no_record) → P (record_at (forgotten t g) n)
unfolding slots_forgotten makers_forgotten
forgotten_any P t g n new end = map_any P (unmade g) t.records n no_record new end
