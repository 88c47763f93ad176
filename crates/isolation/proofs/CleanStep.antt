-- The step of a clean actor, in two tables side by side: under the invariant with the same clean objects, on which the tables
-- agree, a request of a clean actor gets the same reply in both, leaves the same objects clean, and keeps both the invariant and
-- the agreement. Every check of every request reads only the actor, its target and its stock, which are clean. Assumes nothing.
use mathlib.Core.Path.{◌≡◌, refl, sym, ◌∙◌, ap, ap₂}
use mathlib.Core.Bool.{Bool, true, false, not, ◌&&◌, ◌||◌}
use Prim.Native.Nat.{ℕ, ◌≤◌, ◌<◌}
use lib.Dec.{eqb}
use Rattle.mask.proofs.Tests.{by_cases, or_none}
use Rattle.table.specs.declared.Capability.{Capability}
use Rattle.table.specs.declared.Record.{Record}
use Rattle.table.specs.declared.Table.{Table}
use Rattle.table.specs.Cells.{record_at, slot_at, is_empty}
use Rattle.table.proofs.SoundFacts.{sound_true}
use Rattle.rights.specs.declared.Need.TheVariants.{ReadOrWeak, Write, Send}
use Rattle.rights.specs.declared.Need.{Need}
use Rattle.rights.specs.Rows.{need_met}
use Rattle.std.specs.Prelude.{Err}
use Rattle.refusals.specs.declared.Refusal.TheVariants.{ActorUnfit, SlotEmpty, RightAbsent, TargetPassive, ActorItself, NotInStock}
use Rattle.refusals.specs.Replies.{Reply, Done, is_done}
use Rattle.requests.specs.Asks.{Ask, read, write, fetch, store, revoke, send, allocate, destroy, reclaim, unknown, actor_of}
use Rattle.refusals.specs.Refusals.{refuse, no_slot, no_object, bad_list, bad_field, unfit, alive, dead, wrong_status, through, through_slot, not_in_stock, target_of, later_rows, refusal}
use Rattle.effects.specs.Effects.{effect}
use Rattle.steps.specs.Steps.{after}
use Rattle.steps.proofs.Refused.{refused_keeps, done_effects}
use Rattle.isolation.specs.Clean.{Clean, clean_after}
use Rattle.isolation.specs.Demand.{SameFields, AgreeOn}
use Rattle.isolation.proofs.Invariant.{Isolated}
use Rattle.refusals.proofs.Rows.{slot_placed}
use Rattle.steps.proofs.Granted.{filled_slot}
use Rattle.isolation.proofs.Slots.{read_isolated, read_both, write_isolated, write_both, fetch_isolated, fetch_both, store_isolated, store_both, revoke_isolated, revoke_both}
use Rattle.isolation.proofs.Sends.{send_isolated, send_both}
use Rattle.isolation.proofs.Allocates.{outsider, allocate_clean, allocate_both}
use Rattle.isolation.proofs.Destroys.{destroy_isolated, destroy_both}
use Rattle.isolation.proofs.Reclaims.{reclaim_isolated, reclaim_right, reclaim_both, reclaim_same, reclaim_dirty}
use Rattle.isolation.proofs.Sides.{setting_same}
use Rattle.isolation.proofs.Latest.{clean_refused}
use Rattle.isolation.proofs.Others.{unknown_refused}

-- rows 4 to 6 look at the target only where the slot is filled
through_by : (c : Capability) (r s : Record) (wanted : ℕ) (able : Bool) (x y : Reply) → (is_empty c ≡ false → (r.status ≡ s.status) × (x ≡ y)) → through c r wanted able x ≡ through c s wanted able y
unfolding through
through_by c r s wanted able x y f = by_cases (is_empty c)
    (λ e. rw e refl)
    (λ e. ap₂ (λ (w : ℕ) (z : Reply). refuse (is_empty c) (Err SlotEmpty) (refuse ((eqb w 1 || eqb w 2) && not (eqb w wanted)) (wrong_status wanted) (refuse (not able) (Err RightAbsent) z))) (f e).0 (f e).1)

-- the fields come first, the slot second
slot_of_lem : (a s : ℕ) → (no_object a || no_slot s) ≡ false → s < 8
slot_of_lem a s e = slot_placed s (or_none (no_object a) (no_slot s) e).1

-- row 3 looks at the status and the kind
unfit_same : (r s : Record) → SameFields r s → unfit r ≡ unfit s
unfit_same r s f = ap₂ (λ (x k : ℕ). not (eqb x 1) || not (eqb k 1)) f.status f.kind

module _ (C : Clean) (t u : Table) (v : Isolated t C) (w : Isolated u C) (ag : AgreeOn C t u) where
  through_same : (a s wanted : ℕ) (need : Need) (x y : Reply) → C a ≡ true → s < 8 → (1 ≤ (slot_at t a s).rights → x ≡ y) → through_slot t a s wanted need x ≡ through_slot u a s wanted need y
  unfolding through_slot
  through_same a s wanted need x y c hs h =
      through_by (slot_at t a s) (record_at t (target_of t a s)) (record_at u (target_of t a s)) wanted (need_met need (slot_at t a s).rights) x y
      (λ e. let f = filled_slot _ _ _ (v.sound.slots a s hs) e in ((ag.records _ (v.inside a s hs c f)).status, h f))
      ∙ ap (λ (k : Capability). through k (record_at u k.target) wanted (need_met need k.rights) y) (ag.slots a s hs c)

  later_same : (q : Ask) → C (actor_of q) ≡ true → bad_field q ≡ false → later_rows t q ≡ later_rows u q
  unfolding bad_field later_rows
  later_same (read a s) c f = through_same a s alive ReadOrWeak Done Done c (slot_of_lem a s f) (λ l. refl)
  later_same (write a s x) c f = through_same a s alive Write Done Done c (slot_of_lem a s f) (λ l. refl)
  later_same (fetch a s i j) c f = through_same a s alive ReadOrWeak Done Done c (slot_of_lem a s (or_none (no_object a || no_slot s) (no_slot i) (or_none (no_object a || no_slot s || no_slot i) (no_slot j) f).0).0) (λ l. refl)
  later_same (store a s i j) c f = through_same a s alive Write Done Done c (slot_of_lem a s (or_none (no_object a || no_slot s) (no_slot i) (or_none (no_object a || no_slot s || no_slot i) (no_slot j) f).0).0) (λ l. refl)
  later_same (revoke a s j) c f = through_same a s alive Write Done Done c (slot_of_lem a s (or_none (no_object a || no_slot s) (no_slot j) f).0) (λ l. refl)
  later_same (send a s x l y) c f =
      let hs = slot_of_lem a s (or_none (no_object a || no_slot s) (bad_list l) (or_none (no_object a || no_slot s || bad_list l) _ f).0).0 in
      through_same a s alive Send _ _ c hs (λ r. ap (λ (k : ℕ). refuse (not (eqb k 1)) (Err TargetPassive) Done)
      ((ag.records _ (v.inside a s hs c r)).kind ∙ ap (λ (k : Capability). (record_at u k.target).kind) (ag.slots a s hs c)))
  later_same (allocate a n k p i l) c f = ap (λ (x : ℕ). refuse (not_in_stock n p x) (Err NotInStock) Done) (ag.records a c).stock
  later_same (destroy a s) c f =
      let hs = slot_of_lem a s f in
      through_same a s alive Write _ _ c hs (λ r. ap (λ (k : Capability). refuse (eqb k.target a) (Err ActorItself) Done) (ag.slots a s hs c))
  later_same (reclaim a s) c f = through_same a s dead Write Done Done c (slot_of_lem a s f) (λ l. refl)
  later_same (unknown k a) c f = refl

  pub same_reply : (q : Ask) → C (actor_of q) ≡ true → refusal t q ≡ refusal u q
  unfolding refusal
  same_reply q c = rw (sound_true t v.sound, sound_true u w.sound) (by_cases (bad_field q)
      (λ e. rw e refl)
      (λ e. rw e (ap₂ (λ (b : Bool) (z : Reply). refuse b (Err ActorUnfit) z) (unfit_same _ _ (ag.records (actor_of q) c)) (later_same q c e))))

  -- what the effects come to
  record Effects (q : Ask) (D : Clean) : Type 0 where
    left : Isolated (effect t q) D
    right : Isolated (effect u q) D
    cells : AgreeOn D (effect t q) (effect u q)

  effects : (q : Ask) → C (actor_of q) ≡ true → is_done (refusal t q) ≡ true → is_done (refusal u q) ≡ true → Effects q (clean_after t C q)
  unfolding clean_after
  effects (read a s) c e f = record { left = read_isolated t C v a s e; right = read_isolated u C w a s f; cells = read_both C t u v w ag a s c e }
  effects (write a s x) c e f = record { left = write_isolated t C v a s x e; right = write_isolated u C w a s x f; cells = write_both C t u v w ag a s x c e }
  effects (fetch a s i j) c e f = record { left = fetch_isolated t C v a s i j e; right = fetch_isolated u C w a s i j f; cells = fetch_both C t u v w ag a s i j c e }
  effects (store a s i j) c e f = record { left = store_isolated t C v a s i j e; right = store_isolated u C w a s i j f; cells = store_both C t u v w ag a s i j c e }
  effects (revoke a s j) c e f = record { left = revoke_isolated t C v a s j e; right = revoke_isolated u C w a s j f; cells = revoke_both C t u v w ag a s j c e }
  effects (send a s x l y) c e f = record { left = send_isolated t C v a s x l y e; right = send_isolated u C w a s x l y f; cells = send_both C t u v w ag a s x l y c e }
  effects (allocate a n k p i l) c e f = rw (e, c, clean_after) (record {
    left = allocate_clean t C v a n k p i l e c;
    right = allocate_clean u C w a n k p i l f c;
    cells = allocate_both C t u v w ag a n k p i l c e f;
  })
  effects (destroy a s) c e f = record { left = destroy_isolated t C v a s e; right = destroy_isolated u C w a s f; cells = destroy_both C t u v w ag a s c e }
  effects (reclaim a s) c e f = rw (e, clean_after) (record {
    left = reclaim_isolated t C v a s e;
    right = reclaim_right C t u v w ag a s c e f;
    cells = reclaim_both C t u v w ag a s c e f;
  })
  effects (unknown k a) c e f = unknown_refused t k a e

  -- who is clean then
  clean_same : (q : Ask) → C (actor_of q) ≡ true → refusal t q ≡ refusal u q → clean_after t C q ≡ clean_after u C q
  unfolding clean_after
  clean_same (read a s) c h = refl
  clean_same (write a s x) c h = refl
  clean_same (fetch a s i j) c h = refl
  clean_same (store a s i j) c h = refl
  clean_same (revoke a s j) c h = refl
  clean_same (send a s x l y) c h = refl
  clean_same (allocate a n k p i l) c h = by_cases (is_done (refusal t (allocate a n k p i l)))
      (λ e. rw (e, sym (ap is_done h) ∙ e, clean_after) refl)
      (λ e. rw (e, sym (ap is_done h) ∙ e, clean_after) refl)
  clean_same (destroy a s) c h = refl
  clean_same (reclaim a s) c h = by_cases (is_done (refusal t (reclaim a s)))
      (λ e. rw (e, sym (ap is_done h) ∙ e, clean_after, reclaim_same C t u v w ag a s c e (sym (ap is_done h) ∙ e)) refl)
      (λ e. rw (e, sym (ap is_done h) ∙ e, clean_after) refl)
  clean_same (unknown k a) c h = refl

-- a request of an actor that is not clean leaves the same objects clean
pub clean_outside : (t : Table) (C : Clean) (q : Ask) → Isolated t C → C (actor_of q) ≡ false → clean_after t C q ≡ C
unfolding clean_after
clean_outside t C (read a s) v h = refl
clean_outside t C (write a s w) v h = refl
clean_outside t C (fetch a s i j) v h = refl
clean_outside t C (store a s i j) v h = refl
clean_outside t C (revoke a s j) v h = refl
clean_outside t C (send a s w l y) v h = refl
clean_outside t C (allocate a n k p i l) v h = by_cases (is_done (refusal t (allocate a n k p i l)))
    (λ e. rw (e, clean_after) (setting_same C n (C a) (outsider t C v a n k p i l e ∙ sym h)))
    (λ e. rw (e, clean_after) refl)
clean_outside t C (destroy a s) v h = refl
clean_outside t C (reclaim a s) v h = by_cases (is_done (refusal t (reclaim a s)))
    (λ e. rw (e, clean_after) (setting_same C (target_of t a s) false (reclaim_dirty t C v a s e h)))
    (λ e. rw (e, clean_after) refl)
clean_outside t C (unknown k a) v h = refl

pub record Both (t u : Table) (C : Clean) (q : Ask) : Type 0 where
  pub same : refusal t q ≡ refusal u q
  pub clean : clean_after t C q ≡ clean_after u C q
  pub left : Isolated (after t q) (clean_after t C q)
  pub right : Isolated (after u q) (clean_after t C q)
  pub cells : AgreeOn (clean_after t C q) (after t q) (after u q)

pub clean_step : (t u : Table) (C : Clean) (q : Ask) → Isolated t C → Isolated u C → AgreeOn C t u → C (actor_of q) ≡ true → Both t u C q
clean_step t u C q v w ag c =
    let s = same_reply C t u v w ag q c in
    by_cases (is_done (refusal t q))
    (λ e.
    let f = sym (ap is_done s) ∙ e in
    let b = effects C t u v w ag q c e f in
    record {
      same = s;
      clean = clean_same C t u v w ag q c s;
      left = rw (done_effects t q e) b.left;
      right = rw (done_effects u q f) b.right;
      cells = rw (done_effects t q e, done_effects u q f) b.cells;
    })
    (λ e.
    let f = sym (ap is_done s) ∙ e in
    let n = clean_refused t C q e in
    record {
      same = s;
      clean = clean_same C t u v w ag q c s;
      left = rw (refused_keeps t q e, n) v;
      right = rw (refused_keeps u q f, n) w;
      cells = rw (refused_keeps t q e, refused_keeps u q f, n) ag;
    })
