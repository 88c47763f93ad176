-- Which slots an effect empties: fetch, store, send and allocate none, revoke the one that it names, destroy those of an object that is
-- dead then. By the laws of a copy and of a put, whatever the size of the table. Assumes nothing.
use mathlib.Core.Path.{◌≡◌, refl, ◌∙◌}
use mathlib.Core.Logic.{◌≢◌}
use mathlib.Core.Bool.{true, false}
use mathlib.Core.List.{List}
use Prim.Native.Nat.{ℕ, zero, suc, ◌+◌, ◌*◌, ◌≤◌, ◌<◌}
use native.Mathlib.Omega.{arith}
use lib.Dec.{ltb, eqb}
use Rattle.mask.proofs.Tests.{by_cases, and_false}
use Rattle.table.specs.declared.Record.{Record}
use Rattle.table.specs.declared.Table.{Table}
use Rattle.table.specs.Cells.{empty_slot, no_record, record_at, slot_at, put_record, put_slot, is_empty, is_alive}
use Rattle.table.proofs.Lists.{put_there}
use Rattle.table.proofs.Cells.{record-other, slot_other, slot_put_at}
use Rattle.requests.specs.declared.Pair.{Pair}
use Rattle.requests.specs.Asks.{fetch, store, revoke}
use Rattle.refusals.specs.Refusals.{target_of, rights_of}
use Rattle.copies.specs.Copies.{fetched, copy_pairs}
use Rattle.copies.specs.Exactness.{EmptyCopyNothing}
use Rattle.copies.proofs.Landing.{empty_copy_nothing}
use Rattle.copies.proofs.Pairs.{copies_empty_none}
use Rattle.effects.specs.Effects.{answer_slot, clear_slots, died, full_over, sent, allocated, destroyed, effect}

-- a copy that comes out empty ------------------------------------------------------------------------
pub fetch_nothing : (t : Table) (a s i j : ℕ) → is_empty (fetched (rights_of t a s) (slot_at t (target_of t a s) i)) ≡ true → effect t (fetch a s i j) ≡ t
unfolding effect EmptyCopyNothing
fetch_nothing t a s i j e = empty_copy_nothing t a j _ e

pub store_nothing : (t : Table) (a s i j : ℕ) → is_empty (slot_at t a i) ≡ true → effect t (store a s i j) ≡ t
unfolding effect EmptyCopyNothing
store_nothing t a s i j e = empty_copy_nothing t (target_of t a s) j _ e

-- slots that stay filled: send and allocate ------------------------------------------------------------
module _ (t : Table) (m k : ℕ) (full : is_empty (slot_at t m k) ≡ false) where
  answer_full : (n y a : ℕ) → is_empty (slot_at (answer_slot t n y a) m k) ≡ false
  unfolding answer_slot
  answer_full n y a = by_cases (ltb y 8)
      (λ e. rw (e, answer_slot) (slot_put_at (λ x. is_empty x ≡ false) t n y m k _ (λ q. and_false (eqb a 0)) full))
      (λ e. rw (e, answer_slot) full)

module _ (t : Table) (m k : ℕ) (full : is_empty (slot_at t m k) ≡ false) where
  pub sent_full : (a g w : ℕ) (l : List Pair) (y : ℕ) → is_empty (slot_at (sent t a g w l y) m k) ≡ false
  unfolding sent
  sent_full a g w l y = answer_full _ m k (copies_empty_none _ (slot_at t a) g l m k full) g y a

  -- whatever the actor's record and the new one are
  made_full : (less new : Record) (a n i : ℕ) (l : List Pair)
      → is_empty (slot_at (put_slot (copy_pairs (put_record (put_record t a less) n new) (slot_at t a) n l) a i (full_over n)) m k) ≡ false
  made_full less new a n i l =
      let born = put_record (put_record t a less) n new in
      slot_put_at (λ x. is_empty x ≡ false) (copy_pairs born (slot_at t a) n l) a i m k (full_over n) (λ q. and_false (eqb n 0))
      (copies_empty_none born (slot_at t a) n l m k full)

  pub allocated_full : (a n kind part i : ℕ) (l : List Pair) → is_empty (slot_at (allocated t a n kind part i l) m k) ≡ false
  unfolding allocated
  allocated_full a n kind part i l = made_full _ _ a n i l

-- revoke ---------------------------------------------------------------------------------------------------
pub revoked_empty : (t : Table) (a s j : ℕ) → slot_at (effect t (revoke a s j)) (target_of t a s) j ≡ empty_slot
unfolding effect
revoked_empty t a s j = put_there (λ c. c ≡ empty_slot) t.slots (target_of t a s * 8 + j) empty_slot empty_slot refl refl

-- destroy --------------------------------------------------------------------------------------------------
clear_other : (t : Table) (g k m j : ℕ) → m ≢ g → k ≤ 8 → j < 8 → slot_at (clear_slots t g k) m j ≡ slot_at t m j
unfolding clear_slots
clear_other t g zero m j ne hk hj = refl
clear_other t g (suc k) m j ne hk hj = slot_other (clear_slots t g k) g k m j empty_slot (omega arith) hj ne ∙ clear_other t g k m j ne (omega arith) hj

-- the slots of everybody else are as they were
pub destroyed_other : (t : Table) (a g m j : ℕ) → m ≢ g → j < 8 → slot_at (destroyed t a g) m j ≡ slot_at t m j
unfolding destroyed
destroyed_other t a g m j ne hj = clear_other t g 8 m j ne (omega arith) hj

pub destroyed_dead : (t : Table) (a g : ℕ) → g ≢ a → is_alive (record_at (destroyed t a g) g) ≡ false
unfolding destroyed
destroyed_dead t a g ne = rw (record-other (put_record (clear_slots t g 8) g (died (record_at t g))) a g _ ne)
    (put_there (λ r. is_alive r ≡ false) (clear_slots t g 8).records g (died (record_at t g)) no_record refl refl)
