-- Where a copy lands: an empty one leaves the table as it was, a filled one is there, and none empties a slot. By the one test of
-- the rule. Assumes nothing.
use mathlib.Core.Path.{◌≡◌, refl}
use mathlib.Core.Bool.{true, false}
use Prim.Native.Nat.{◌+◌, ◌*◌}
use lib.Seq.{set-get_or}
use Rattle.mask.proofs.Tests.{by_cases}
use Rattle.table.specs.declared.Capability.{Capability}
use Rattle.table.specs.Cells.{empty_slot, slot_at, is_empty}
use Rattle.table.proofs.Cells.{tables_same, slot_put_at}
use Rattle.copies.specs.Copies.{landed}
use Rattle.copies.specs.Exactness.{EmptyCopyNothing, CopyEmptiesNone}

-- the two cases of the rule
pub landed_empty : (old copy : Capability) → is_empty copy ≡ true → landed old copy ≡ old
unfolding landed
landed_empty old copy e = rw (e, landed) refl

pub landed_filled : (old copy : Capability) → is_empty copy ≡ false → landed old copy ≡ copy
unfolding landed
landed_filled old copy e = rw (e, landed) refl

-- a fact of what a slot then holds: of what it held, and of a copy that is not empty
pub landed_elim : (P : Capability → Type 0) (old copy : Capability) → P old → (is_empty copy ≡ false → P copy) → P (landed old copy)
landed_elim P old copy p q = by_cases (is_empty copy) (λ e. rw (landed_empty old copy e) p) (λ e. rw (landed_filled old copy e) (q e))

-- one copy ---------------------------------------------------------------------------------------------
pub empty_copy_nothing : EmptyCopyNothing
unfolding EmptyCopyNothing
empty_copy_nothing t n j c e = rw (landed_empty (slot_at t n j) c e) (tables_same refl (set-get_or t.slots (n * 8 + j) empty_slot))

pub copy_empties_none : CopyEmptiesNone
unfolding CopyEmptiesNone
copy_empties_none t n j c m k full = slot_put_at (λ x. is_empty x ≡ false) t n j m k _
    (λ e. landed_elim (λ x. is_empty x ≡ false) (slot_at t n j) c (rw (← e) full) (λ f. f)) full
