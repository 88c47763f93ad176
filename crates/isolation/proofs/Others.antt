-- The step of an actor that is not clean (also a dead, passive, unborn or out-of-range one): under the invariant, any request of
-- such an actor leaves every clean record and slot as it was and keeps the invariant with the same clean objects. With nobody
-- clean this is: every step from a sound table gives a sound table. Assumes nothing.
use mathlib.Core.Path.{◌≡◌, refl, subst}
use mathlib.Core.Bool.{true, false}
use Prim.Native.Nat.{ℕ}
use Rattle.mask.proofs.Tests.{by_cases, clash}
use Rattle.table.specs.declared.Table.{Table}
use Rattle.table.specs.Soundness.{sound}
use Rattle.table.proofs.Cells.{Sized}
use Rattle.table.proofs.SoundFacts.{Sound, sound_facts, sound_true}
use Rattle.requests.specs.Asks.{Ask, read, write, fetch, store, revoke, send, allocate, destroy, reclaim, unknown, actor_of}
use Rattle.refusals.specs.Replies.{is_done}
use Rattle.refusals.specs.Refusals.{bad_field, refusal, target_of}
use Rattle.effects.specs.Effects.{effect}
use Rattle.steps.specs.Steps.{after}
use Rattle.steps.proofs.Refused.{refused_keeps, done_effects}
use Rattle.isolation.specs.Clean.{Clean}
use Rattle.isolation.specs.Demand.{AgreeOn}
use Rattle.isolation.proofs.Invariant.{Isolated, agree_refl}
use Rattle.steps.proofs.Granted.{past_checks}
use Rattle.isolation.proofs.Slots.{read_isolated, read_out, write_isolated, write_out, fetch_isolated, fetch_out, store_isolated, store_out, revoke_isolated, revoke_out}
use Rattle.isolation.proofs.Sends.{send_isolated, send_out}
use Rattle.isolation.proofs.Allocates.{allocate_isolated, allocate_out}
use Rattle.isolation.proofs.Destroys.{destroy_isolated, destroy_out}
use Rattle.isolation.proofs.Reclaims.{reclaim_isolated, reclaim_dirty, reclaim_out}
use Rattle.isolation.proofs.Sides.{setting_same}

-- a code with no request is never done
pub unknown_refused : {P : Type 0} (t : Table) (k a : ℕ) → is_done (refusal t (unknown k a)) ≡ true → P
unfolding bad_field
unknown_refused t k a e = clash refl (past_checks t (unknown k a) e).fields

effect_outside : (t : Table) (C : Clean) (q : Ask) → Isolated t C → C (actor_of q) ≡ false → is_done (refusal t q) ≡ true → Isolated (effect t q) C × AgreeOn C t (effect t q)
effect_outside t C (read a s) v c e = (read_isolated t C v a s e, read_out t C v a s e c)
effect_outside t C (write a s w) v c e = (write_isolated t C v a s w e, write_out t C v a s w e c)
effect_outside t C (fetch a s i j) v c e = (fetch_isolated t C v a s i j e, fetch_out t C v a s i j e c)
effect_outside t C (store a s i j) v c e = (store_isolated t C v a s i j e, store_out t C v a s i j e c)
effect_outside t C (revoke a s j) v c e = (revoke_isolated t C v a s j e, revoke_out t C v a s j e c)
effect_outside t C (send a s w l y) v c e = (send_isolated t C v a s w l y e, send_out t C v a s w l y e c)
effect_outside t C (allocate a n k p i l) v c e = (allocate_isolated t C v a n k p i l e c, allocate_out t C v a n k p i l e c)
effect_outside t C (destroy a s) v c e = (destroy_isolated t C v a s e, destroy_out t C v a s e c)
effect_outside t C (reclaim a s) v c e = (
  subst (Isolated (effect t (reclaim a s))) (setting_same C (target_of t a s) false (reclaim_dirty t C v a s e c)) (reclaim_isolated t C v a s e),
  reclaim_out t C v a s e c,
)
effect_outside t C (unknown k a) v c e = unknown_refused t k a e

pub other_step : (t : Table) (C : Clean) (q : Ask) → Isolated t C → C (actor_of q) ≡ false → Isolated (after t q) C × AgreeOn C t (after t q)
other_step t C q v c = by_cases (is_done (refusal t q))
    (λ e. rw (done_effects t q e) (effect_outside t C q v c e))
    (λ e. rw (refused_keeps t q e) (v, agree_refl C t))

-- nobody clean ----------------------------------------------------------------------------
nobody : Clean
nobody n = false

alone : (t : Table) → Sound t → Isolated t nobody
unfolding nobody
alone t d = record { sound = d; born = λ n h. clash h refl; inside = λ n j hj h. clash h refl; outside = λ n j hj h l c. clash c refl }

pub sound_step : (t : Table) (q : Ask) → Sound t → Sound (after t q)
unfolding nobody
sound_step t q d = (other_step t nobody q (alone t d) refl).0.sound

-- every step from a sound table gives a sound table
pub step_keeps_sound : (t : Table) (q : Ask) → Sized t → sound t ≡ true → sound (after t q) ≡ true
step_keeps_sound t q z e = sound_true (after t q) (sound_step t q (sound_facts t z e))
