-- Only revoke and reclaim empty a slot of an alive object; copies that come out empty change nothing. By the cases of the request, the laws of
-- its effect, and what its checks leave. Assumes nothing.
use mathlib.Core.Path.{◌≡◌, refl, sym, ◌∙◌, ap}
use mathlib.Core.Logic.{◌⊎◌, inl, inr}
use mathlib.Core.Bool.{true, false, ◌||◌}
use mathlib.Core.List.{List}
use Prim.Native.Nat.{ℕ, ◌+◌, ◌*◌, ◌≤◌, ◌<◌}
use native.Mathlib.Omega.{arith}
use lib.Dec.{ltb}
use lib.ListN.{length}
use lib.Seq.{get_or-set_other}
use borrow.Author.Tests.{ltb-false, le-ltb}
use Rattle.mask.proofs.Tests.{by_cases, by_eq, clash, or_none}
use Rattle.table.specs.declared.Capability.{Capability}
use Rattle.table.specs.declared.Table.{Table}
use Rattle.table.specs.Cells.{empty_slot, record_at, slot_at, put_slot, is_empty, is_alive}
use Rattle.rights.proofs.Sentences.{needs_are_the_sentences}
use Rattle.rights.proofs.Weakening.{weaken_unable}
use Rattle.requests.specs.declared.Pair.{Pair}
use Rattle.requests.specs.Asks.{Ask, read, write, fetch, store, revoke, send, allocate, destroy, reclaim, unknown}
use Rattle.refusals.specs.Replies.{is_done}
use Rattle.refusals.specs.Refusals.{no_slot, bad_slots, bad_list, bad_field, later_rows, refusal, target_of, rights_of}
use Rattle.effects.specs.Effects.{answer_slot, full_over, effect, sent, allocated}
use Rattle.effects.proofs.Emptied.{fetch_nothing, store_nothing, sent_full, allocated_full, revoked_empty, destroyed_other, destroyed_dead}
use Rattle.effects.proofs.Reclaims.{reclaimed_slot}
use Rattle.forgetting.proofs.Left.{unnamed_other}
use Rattle.copies.specs.Exactness.{CopyEmptiesNone, LeftOut, none, kept, left, LeftOutSame}
use Rattle.copies.proofs.Landing.{copy_empties_none}
use Rattle.copies.proofs.Pairs.{left_out_same}
use Rattle.copies.proofs.Fetches.{fetched_weakened}
use Rattle.steps.specs.Steps.{after, step_of}
use Rattle.steps.specs.Exactness.{RevokeDone, ReclaimDone, OnlyRevokeOrReclaimEmpties, RevokeEmpties, EmptyFetchKeeps, EmptyStoreKeeps, WeakenedFetchKeeps, EmptyPairsFree}
use Rattle.steps.proofs.Refused.{refused_keeps, done_effects, step_done}
use Rattle.steps.proofs.Granted.{past_checks, not_itself, list_in_lem, revoke_slot, send_list, made_facts}

-- only revoke and reclaim ------------------------------------------------------------------------------------
emptied : (t : Table) (q : Ask) (n j : ℕ) → j < 8 → is_done (refusal t q) ≡ true → is_empty (slot_at t n j) ≡ false
    → is_empty (slot_at (effect t q) n j) ≡ true → is_alive (record_at (effect t q) n) ≡ true → RevokeDone t q n j ⊎ ReclaimDone t q (slot_at t n j).target
unfolding effect CopyEmptiesNone
emptied t (read a s) n j hj d full bare live = clash bare full
emptied t (write a s w) n j hj d full bare live = clash bare full
emptied t (fetch a s i k) n j hj d full bare live = clash bare (copy_empties_none t a k _ n j full)
emptied t (store a s i k) n j hj d full bare live = clash bare (copy_empties_none t (target_of t a s) k _ n j full)
emptied t (revoke a s k) n j hj d full bare live =
    let hk = (revoke_slot a s k (past_checks t (revoke a s k) d).fields).1 in
    by_eq (n * 8 + j) (target_of t a s * 8 + k)
    (λ e. inl (record { actor = a; through = s; asked = ap (λ (x : ℕ). revoke a s x) (omega arith); target = omega arith; done = d }))
    (λ e. clash bare (rw (get_or-set_other t.slots (target_of t a s * 8 + k) (n * 8 + j) empty_slot empty_slot e) full))
emptied t (send a s w l y) n j hj d full bare live = clash bare (sent_full t n j full a (target_of t a s) w l y)
emptied t (allocate a m k p i l) n j hj d full bare live = clash bare (allocated_full t n j full a m k p i l)
emptied t (destroy a s) n j hj d full bare live =
    let g = target_of t a s in
    by_eq n g
    (λ e. clash live (rw e (destroyed_dead t a g (not_itself t a s d))))
    (λ e. clash bare (rw (destroyed_other t a g n j e hj) full))
emptied t (reclaim a s) n j hj d full bare live = by_eq (slot_at t n j).target (target_of t a s)
    (λ e. inr (record { actor = a; through = s; asked = refl; target = sym e; done = d }))
    (λ e. clash bare (rw (reclaimed_slot t a (target_of t a s) n j, unnamed_other (target_of t a s) (slot_at t n j) e) full))
emptied t (unknown c a) n j hj d full bare live = clash bare full

pub only_revoke_or_reclaim_empties : OnlyRevokeOrReclaimEmpties
unfolding OnlyRevokeOrReclaimEmpties
only_revoke_or_reclaim_empties t q n j hj full bare live = by_cases (is_done (refusal t q))
    (λ d. emptied t q n j hj d full (rw (done_effects t q d) at bare) (rw (done_effects t q d) at live))
    (λ d. clash bare (rw (refused_keeps t q d) full))

pub revoke_empties : RevokeEmpties
unfolding RevokeEmpties
revoke_empties t q n j r = rw (done_effects t q r.done, r.asked, ← r.target, revoked_empty t r.actor r.through j) refl

-- a copy that comes out empty ----------------------------------------------------------------------------------
-- an effect that changes nothing, refused or done
unchanged : (t : Table) (q : Ask) → effect t q ≡ t → after t q ≡ t
unchanged t q e = by_cases (is_done (refusal t q)) (λ d. done_effects t q d ∙ e) (λ d. refused_keeps t q d)

pub empty_fetch_keeps : EmptyFetchKeeps
unfolding EmptyFetchKeeps
empty_fetch_keeps t a s i j e = unchanged t (fetch a s i j) (fetch_nothing t a s i j e)

pub empty_store_keeps : EmptyStoreKeeps
unfolding EmptyStoreKeeps
empty_store_keeps t a s i j e = unchanged t (store a s i j) (store_nothing t a s i j e)

pub weakened_fetch_keeps : WeakenedFetchKeeps
unfolding WeakenedFetchKeeps EmptyFetchKeeps
weakened_fetch_keeps t a s i j e f g =
    let c = slot_at t (target_of t a s) i in
    empty_fetch_keeps t a s i j (ap (λ (x : Capability). is_empty x) (fetched_weakened (rights_of t a s) c e ∙ weaken_unable c (needs_are_the_sentences.read_or_weak c.rights ∙ rw (f, g) refl)))

-- pairs left out ---------------------------------------------------------------------------------------------------
module _ {source : ℕ → Capability} where
  left_length : {list shorter : List Pair} → LeftOut source list shorter → length shorter ≤ length list
  left_length none = omega arith
  left_length (kept p r) = omega (arith, left_length r)
  left_length (left p e r) = omega (arith, left_length r)

  left_slots : {list shorter : List Pair} → LeftOut source list shorter → bad_slots list ≡ false → bad_slots shorter ≡ false
  unfolding bad_slots
  left_slots none b = b
  left_slots (kept p {list} r) b = let h = or_none (no_slot p.from || no_slot p.to) (bad_slots list) b in rw h.0 (left_slots r h.1)
  left_slots (left p {list} e r) b = left_slots r (or_none (no_slot p.from || no_slot p.to) (bad_slots list) b).1

  left_list : {list shorter : List Pair} → LeftOut source list shorter → bad_list list ≡ false → bad_list shorter ≡ bad_list list
  unfolding bad_list
  left_list {list} {shorter} r b =
      let h = list_in_lem list b in
      let s : ltb 4 (length shorter) ≡ false = le-ltb 4 (length shorter) (omega (arith, left_length r, ltb-false 4 (length list) h.0)) in
      rw (s, h.0, h.1, left_slots r h.1) refl

-- a request that is done, and another with the same answer and effect
same_step : (t : Table) (p q : Ask) → is_done (refusal t q) ≡ true → refusal t p ≡ refusal t q → effect t p ≡ effect t q → step_of t p ≡ step_of t q
same_step t p q d e f = sym (step_done t p (refusal t q) (effect t q) e d (sym f)) ∙ step_done t q (refusal t q) (effect t q) refl d refl

module _ (t : Table) (a : ℕ) {list shorter : List Pair} (r : LeftOut (slot_at t a) list shorter) where
  send_left : (s w y : ℕ) → is_done (refusal t (send a s w list y)) ≡ true → step_of t (send a s w shorter y) ≡ step_of t (send a s w list y)
  unfolding refusal bad_field later_rows effect sent LeftOutSame
  send_left s w y d =
      let l = left_list r (send_list a s w list y (past_checks t (send a s w list y) d).fields).1 in
      same_step t (send a s w shorter y) (send a s w list y) d (rw l refl)
      (ap (λ (v : Table). answer_slot v (target_of t a s) y a) (left_out_same _ (slot_at t a) (target_of t a s) list shorter r))

  allocate_left : (n k p i : ℕ) → is_done (refusal t (allocate a n k p i list)) ≡ true → step_of t (allocate a n k p i shorter) ≡ step_of t (allocate a n k p i list)
  unfolding refusal bad_field later_rows effect allocated LeftOutSame
  allocate_left n k p i d =
      let l = left_list r (made_facts t list a n k p i d).list in
      same_step t (allocate a n k p i shorter) (allocate a n k p i list) d (rw l refl)
      (ap (λ (v : Table). put_slot v a i (full_over n)) (left_out_same _ (slot_at t a) n list shorter r))

pub empty_pairs_free : EmptyPairsFree
unfolding EmptyPairsFree
empty_pairs_free t a list shorter r = (send_left t a r, allocate_left t a r)
