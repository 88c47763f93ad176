-- The ways out of a request on a sound table. Through a slot: refused by rows 2 to 6, refused by a last check, done; each law is
-- stated once, over the need, the last check and the effect. Through no slot: refused by its fields, its actor, its later rows,
-- done. By what the check of a slot tells and the laws of a refused and a done step. Assumes nothing.
use mathlib.Core.Path.{◌≡◌, refl, sym, ◌∙◌, ap, ap₂}
use mathlib.Core.Bool.{Bool, true, false, ◌||◌}
use Prim.Native.Nat.{ℕ}
use Rattle.table.specs.declared.Table.{Table}
use Rattle.table.specs.Cells.{record_at}
use Rattle.table.specs.Soundness.{sound}
use Rattle.rights.specs.declared.Need.{Need}
use Rattle.requests.specs.declared.PairList.{PairList}
use Rattle.std.specs.Prelude.{Result, Ok, Err}
use Rattle.refusals.specs.declared.Refusal.{Refusal}
use Rattle.refusals.specs.declared.Refusal.TheVariants.{TableUnsound, FieldInvalid, ActorUnfit}
use Rattle.refusals.specs.Replies.{Reply, Done, is_done}
use Rattle.requests.specs.declared.Request.{Request}
use Rattle.refusals.specs.declared.Opened.{Opened}
use Rattle.refusals.specs.declared.Denied.{Denied}
use Rattle.steps.specs.declared.Stepped.{Stepped}
use Rattle.requests.specs.Asks.{Ask, actor_of, ask_of}
use Rattle.refusals.specs.Refusals.{refuse, no_object, no_slot, bad_field, unfit, target_of, rights_of, through_slot, later_rows, refusal}
use Rattle.effects.specs.Effects.{effect}
use Rattle.steps.specs.Steps.{step_of}
use Rattle.steps.specs.Outcomes.{outcome_of}
use Rattle.refusals.specs.Helpers.{SlotChecked, SlotOpened}
use Rattle.steps.proofs.Refused.{step_refused, outcome_refused, outcome_done}
use Rattle.refusals.proofs.Rows.{rows_then, rows_last, rows_first}

-- a request through the actor's slot s: `bad` is its other fields, `last` what is left to check after rows 2 to 6
pub record Uses (t : Table) (q : Ask) (a s : ℕ) (bad : Bool) (wanted : ℕ) (need : Need) (last : Reply) : Type 0 where
  pub actor : actor_of q ≡ a
  pub fields : bad_field q ≡ (no_object a || no_slot s || bad)
  pub later : later_rows t q ≡ through_slot t a s wanted need last

-- the ways out of a request on a sound table ------------------------------------------------------------------
refusal_sound : (t : Table) (q : Ask) → sound t ≡ true
    → refusal t q ≡ refuse (bad_field q) (Err FieldInvalid) (refuse (unfit (record_at t (actor_of q))) (Err ActorUnfit) (later_rows t q))
unfolding refusal
refusal_sound t q ok = rw ok refl

-- `last` is a function of the target, so that what the code tests of the target that it saw decides it
module _ {t : Table} {q : Ask} {a s : ℕ} {bad : Bool} {wanted : ℕ} {need : Need} (last : ℕ → Reply)
    (ok : sound t ≡ true) (uses : Uses t q a s bad wanted need (last (target_of t a s))) where
  refusal_then : refusal t q ≡ rows_then t a s bad wanted need (last (target_of t a s))
  refusal_then = refusal_sound t q ok ∙ rw (uses.fields, uses.actor, uses.later) refl

  -- rows 2 to 6 turn it down
  pub through_refused : {denied : Denied} → SlotChecked t a s bad wanted need (Err denied) → Err denied.why ≡ outcome_of t q
  through_refused {denied} looked =
      outcome_refused t q denied.why (refusal_then ∙ rows_first t a s bad wanted need _ (ap is_done looked.refused) ∙ looked.refused)

  module _ {seen : Opened} (looked : SlotOpened t a s bad wanted need seen) where
    -- they do not: the last check decides
    refusal_last : refusal t q ≡ last seen.target
    refusal_last = refusal_then ∙ rows_last t a s bad wanted need _ (ap is_done looked.reply) ∙ ap last (sym looked.target)

    pub last_refused : {why : Refusal} → last seen.target ≡ Err why → Err why ≡ outcome_of t q
    last_refused {why} e = outcome_refused t q why (refusal_last ∙ e)

    -- done: the effect is a function of the target and the rights that the check saw
    pub last_done : last seen.target ≡ Done → (f : ℕ → ℕ → Table) → f (target_of t a s) (rights_of t a s) ≡ effect t q
        → {u : Table} → u ≡ f seen.target seen.rights → Ok u ≡ outcome_of t q
    last_done e f g {u} k = outcome_done t q u (refusal_last ∙ e) (k ∙ ap₂ f looked.target looked.rights ∙ g)

-- the ways out of a request that goes through no slot ---------------------------------------------------------
-- what the code found of its fields, and of its later rows
pub record Fields (q : Ask) (bad : Bool) : Type 0 where
  pub found : bad_field q ≡ bad

pub record Later (t : Table) (q : Ask) (last : Reply) : Type 0 where
  pub found : later_rows t q ≡ last

refusal_invalid : (t : Table) {q : Ask} {bad : Bool} → sound t ≡ true → Fields q bad → bad ≡ true → refusal t q ≡ Err FieldInvalid
refusal_invalid t {q} ok f b = refusal_sound t q ok ∙ rw (f.found, b) refl

refusal_unfit : (t : Table) {q : Ask} {bad : Bool} → sound t ≡ true → Fields q bad → bad ≡ false → unfit (record_at t (actor_of q)) ≡ true
    → refusal t q ≡ Err ActorUnfit
refusal_unfit t {q} ok f b u = refusal_sound t q ok ∙ rw (f.found, b, u) refl

pub invalid_outcome : (t : Table) {q : Ask} {bad : Bool} → sound t ≡ true → Fields q bad → bad ≡ true → Err FieldInvalid ≡ outcome_of t q
invalid_outcome t {q} ok f b = outcome_refused t q FieldInvalid (refusal_invalid t ok f b)

pub unfit_outcome : (t : Table) {q : Ask} {bad : Bool} → sound t ≡ true → Fields q bad → bad ≡ false → unfit (record_at t (actor_of q)) ≡ true
    → Err ActorUnfit ≡ outcome_of t q
unfit_outcome t {q} ok f b u = outcome_refused t q ActorUnfit (refusal_unfit t ok f b u)

-- the same of the step
pub rows_invalid : (t : Table) {q : Ask} {bad : Bool} → sound t ≡ true → Fields q bad → bad ≡ true
    → ◌≡◌ {A = Stepped} (record { reply = Err FieldInvalid; table = t }) (step_of t q)
rows_invalid t {q} ok f b = step_refused t q (Err FieldInvalid) (refusal_invalid t ok f b) refl

pub rows_unfit : (t : Table) {q : Ask} {bad : Bool} → sound t ≡ true → Fields q bad → bad ≡ false → unfit (record_at t (actor_of q)) ≡ true
    → ◌≡◌ {A = Stepped} (record { reply = Err ActorUnfit; table = t }) (step_of t q)
rows_unfit t {q} ok f b u = step_refused t q (Err ActorUnfit) (refusal_unfit t ok f b u) refl

module _ {t : Table} {q : Ask} {bad : Bool} {last : Reply} (ok : sound t ≡ true) (f : Fields q bad) (b : bad ≡ false)
    (u : unfit (record_at t (actor_of q)) ≡ false) (l : Later t q last) where
  refusal_later : refusal t q ≡ last
  refusal_later = refusal_sound t q ok ∙ rw (f.found, b, u) l.found

  pub later_refused : {why : Refusal} → last ≡ Err why → Err why ≡ outcome_of t q
  later_refused {why} e = outcome_refused t q why (refusal_later ∙ e)

  pub later_done : {v : Table} → last ≡ Done → v ≡ effect t q → Ok v ≡ outcome_of t q
  later_done {v} e g = outcome_done t q v (refusal_later ∙ e) g

-- a table that is not sound
refusal_unsound : (t : Table) (q : Ask) → sound t ≡ false → refusal t q ≡ Err TableUnsound
unfolding refusal
refusal_unsound t q e = rw e refl

pub unsound_outcome : (t : Table) (q : Ask) → sound t ≡ false → Err TableUnsound ≡ outcome_of t q
unsound_outcome t q e = outcome_refused t q TableUnsound (refusal_unsound t q e)

pub unsound_refused : (t : Table) (q : Ask) → sound t ≡ false → ◌≡◌ {A = Stepped} (record { reply = Err TableUnsound; table = t }) (step_of t q)
unsound_refused t q e = step_refused t q (Err TableUnsound) (refusal_unsound t q e) refl

-- the outcome of the request that a match told
pub outcome_told : (t : Table) (l : PairList) {r q : Request} {x : Result Table Refusal} → r ≡ q → x ≡ outcome_of t (ask_of q l) → x ≡ outcome_of t (ask_of r l)
outcome_told t l e f = f ∙ ap (λ (p : Request). outcome_of t (ask_of p l)) (sym e)
