-- A run of any list from a sound table never answers 1 and ends with a sound table. Assumes nothing.
use mathlib.Core.Path.{◌≡◌}
use mathlib.Core.Logic.{◌≢◌}
use mathlib.Core.Bool.{Bool, true, false, not}
use mathlib.Core.List.{List, [], ◌∷◌}
use Prim.Native.Nat.{ℕ, zero, suc}
use native.Mathlib.Omega.{arith}
use lib.Dec.{eqb}
use lib.ListN.{get_or}
use Rattle.mask.proofs.Tests.{by_cases}
use Rattle.table.specs.declared.Capability.{Capability}
use Rattle.table.specs.declared.Record.{Record}
use Rattle.table.specs.declared.Table.{Table}
use Rattle.table.specs.Cells.{record_at, stock_at, is_active, is_empty}
use Rattle.table.specs.Soundness.{sound}
use Rattle.table.proofs.Cells.{Sized}
use Rattle.table.proofs.SoundFacts.{Sound, sound_facts, sound_true}
use Rattle.std.specs.Prelude.{Err}
use Rattle.refusals.specs.declared.Refusal.TheVariants.{FieldInvalid, ActorUnfit, SlotEmpty, RightAbsent, TargetPassive, ActorItself, NotInStock}
use Rattle.refusals.specs.Replies.{Reply, Done, number}
use Rattle.requests.specs.Asks.{Ask, read, write, fetch, store, revoke, send, allocate, destroy, reclaim, unknown, actor_of}
use Rattle.refusals.specs.Refusals.{refuse, bad_field, unfit, not_in_stock, target_of, target_record, alive, other_status, wrong_status, through, through_slot, later_rows, refusal}
use Rattle.steps.specs.Steps.{after, run_table, run_replies}
use Rattle.isolation.proofs.Others.{sound_step}

refuse_not : (cause : Bool) (why rest : Reply) → number why ≢ 1 → number rest ≢ 1 → number (refuse cause why rest) ≢ 1
refuse_not true why rest p q = p
refuse_not false why rest p q = q

wrong_not : (wanted : ℕ) → number (wrong_status wanted) ≢ 1
unfolding wrong_status
wrong_not wanted = by_cases (eqb wanted alive) (λ q. rw (q, wrong_status) (λ e. omega arith)) (λ q. rw (q, wrong_status) (λ e. omega arith))

through_not : (c : Capability) (r : Record) (wanted : ℕ) (able : Bool) (rest : Reply) → number rest ≢ 1 → number (through c r wanted able rest) ≢ 1
unfolding through
through_not c r wanted able rest h = refuse_not (is_empty c) (Err SlotEmpty) _ (λ e. omega arith) (refuse_not (other_status wanted r) (wrong_status wanted) _ (wrong_not wanted) (refuse_not (not able) (Err RightAbsent) rest (λ e. omega arith) h))

later_not : (t : Table) (q : Ask) → number (later_rows t q) ≢ 1
unfolding later_rows through_slot
later_not t (read a s) = through_not _ _ _ _ Done (λ e. omega arith)
later_not t (write a s w) = through_not _ _ _ _ Done (λ e. omega arith)
later_not t (fetch a s i j) = through_not _ _ _ _ Done (λ e. omega arith)
later_not t (store a s i j) = through_not _ _ _ _ Done (λ e. omega arith)
later_not t (revoke a s j) = through_not _ _ _ _ Done (λ e. omega arith)
later_not t (send a s w l y) = through_not _ _ _ _ _ (refuse_not (not (is_active (target_record t a s))) (Err TargetPassive) Done (λ e. omega arith) (λ e. omega arith))
later_not t (allocate a n k p i l) = refuse_not (not_in_stock n p (stock_at t a)) (Err NotInStock) Done (λ e. omega arith) (λ e. omega arith)
later_not t (destroy a s) = through_not _ _ _ _ _ (refuse_not (eqb (target_of t a s) a) (Err ActorItself) Done (λ e. omega arith) (λ e. omega arith))
later_not t (reclaim a s) = through_not _ _ _ _ Done (λ e. omega arith)
later_not t (unknown k a) = λ e. omega arith

-- a sound table is never answered 1
pub sound_never_one : (t : Table) (q : Ask) → sound t ≡ true → number (refusal t q) ≢ 1
unfolding refusal
sound_never_one t q e = rw e (refuse_not (bad_field q) (Err FieldInvalid) _ (λ d. omega arith) (refuse_not (unfit (record_at t (actor_of q))) (Err ActorUnfit) _ (λ d. omega arith) (later_not t q)))

run_sound : (qs : List Ask) (t : Table) → Sound t → Sound (run_table t qs)
unfolding run_table
run_sound [] t d = d
run_sound (q ∷ qs) t d = run_sound qs (after t q) (sound_step t q d)

run_never_one : (qs : List Ask) (t : Table) (k : ℕ) → Sound t → number (get_or (run_replies t qs) k Done) ≢ 1
unfolding run_replies
run_never_one [] t k d = λ e. absurd (none k e)
  where
    none : (i : ℕ) → number (get_or [] i Done) ≡ 1 → ⊥
    none zero e = omega arith
    none (suc i) e = omega arith
run_never_one (q ∷ qs) t zero d = sound_never_one t q (sound_true t d)
run_never_one (q ∷ qs) t (suc k) d = run_never_one qs (after t q) k (sound_step t q d)

-- the k-th reply is never 1, and the last table is sound
pub runs_keep_sound : (t : Table) (qs : List Ask) → Sized t → sound t ≡ true → (sound (run_table t qs) ≡ true) × ((k : ℕ) → number (get_or (run_replies t qs) k Done) ≢ 1)
runs_keep_sound t qs z e = let d = sound_facts t z e in (sound_true (run_table t qs) (run_sound qs t d), λ k. run_never_one qs t k d)
