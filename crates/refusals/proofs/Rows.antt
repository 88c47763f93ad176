-- Rows 2 to 6 for a slot, by their five tests: what the check of a slot tells of them, and that a last check after them decides
-- exactly where they are passed. By the cases of the five tests. Assumes nothing.
use mathlib.Core.Path.{◌≡◌, refl, sym, ◌∙◌, ap}
use mathlib.Core.Logic.{◌≢◌}
use mathlib.Core.Bool.{Bool, true, false, not, ◌&&◌, ◌||◌, false≢true}
use Prim.Native.Nat.{ℕ, ◌≤◌, ◌<◌}
use native.Mathlib.Omega.{arith}
use lib.Dec.{eqb}
use borrow.Author.Tests.{ltb-false, eq-eqb, ne_eqb}
use Rattle.mask.proofs.Tests.{by_cases, by_eq, clash, and_intro, or_none}
use Rattle.table.specs.declared.Record.{Record}
use Rattle.table.specs.declared.Table.{Table}
use Rattle.table.specs.Cells.{record_at, slot_at, is_empty, is_born}
use Rattle.table.specs.Soundness.{sound}
use Rattle.table.proofs.Cells.{Sized}
use Rattle.table.proofs.SoundFacts.{pos_born}
use Rattle.rights.specs.declared.Need.{Need}
use Rattle.rights.specs.Rows.{need_met}
use Rattle.std.specs.Prelude.{Ok, Err}
use Rattle.refusals.specs.declared.Refusal.{Refusal}
use Rattle.refusals.specs.declared.Refusal.TheVariants.{FieldInvalid, ActorUnfit, SlotEmpty, TargetDead, RightAbsent, TargetAlive}
use Rattle.refusals.specs.Replies.{Reply, Done, is_done}
use Rattle.refusals.specs.Refusals.{refuse, no_object, no_slot, unfit, alive, other_status, wrong_status, through, target_record, rights_of, through_slot}
use Rattle.refusals.specs.Helpers.{first_of, bad_place, slot_rows, opened_at, slot_check_of, SlotChecked}
use Rattle.refusals.proofs.Targets.{target_below}

-- one check
pub refuse_yes : (b : Bool) (why rest : Reply) → b ≡ true → refuse b why rest ≡ why
refuse_yes b why rest e = rw e refl

pub refuse_no : (b : Bool) (why rest : Reply) → b ≡ false → refuse b why rest ≡ rest
refuse_no b why rest e = rw e refl

-- five tests in a row, and a last check after them --------------------------------------------------
-- the row of the wrong status turns down, whichever it is
pub wrong_refuses : (wanted : ℕ) → is_done (wrong_status wanted) ≡ false
unfolding wrong_status
wrong_refuses wanted = by_cases (eqb wanted alive) (λ e. rw (e, wrong_status) refl) (λ e. rw (e, wrong_status) refl)

pub wrong_dead : (wanted : ℕ) → wanted ≡ alive → Err TargetDead ≡ wrong_status wanted
unfolding wrong_status
wrong_dead wanted e = rw (eq-eqb wanted alive e, wrong_status) refl

pub wrong_alive : (wanted : ℕ) → wanted ≢ alive → Err TargetAlive ≡ wrong_status wanted
unfolding wrong_status
wrong_alive wanted e = rw (ne_eqb wanted alive e, wrong_status) refl

module _ (why : Reply) (turns : is_done why ≡ false) where
  abbrev first_then : Bool → Bool → Bool → Bool → Bool → Reply → Reply
  first_then bad unfitted empty other unable last =
      refuse bad (Err FieldInvalid) (refuse unfitted (Err ActorUnfit) (refuse empty (Err SlotEmpty) (refuse other why (refuse unable (Err RightAbsent) last))))

  then_last : (bad unfitted empty other unable : Bool) (last : Reply) → is_done (first_of bad unfitted empty other why unable) ≡ true
      → first_then bad unfitted empty other unable last ≡ last
  then_last true unfitted empty other unable last e = absurd (false≢true e)
  then_last false true empty other unable last e = absurd (false≢true e)
  then_last false false true other unable last e = absurd (false≢true e)
  then_last false false false true unable last e = clash e turns
  then_last false false false false true last e = absurd (false≢true e)
  then_last false false false false false last e = refl

  then_first : (bad unfitted empty other unable : Bool) (last : Reply) → is_done (first_of bad unfitted empty other why unable) ≡ false
      → first_then bad unfitted empty other unable last ≡ first_of bad unfitted empty other why unable
  then_first true unfitted empty other unable last e = refl
  then_first false true empty other unable last e = refl
  then_first false false true other unable last e = refl
  then_first false false false true unable last e = refl
  then_first false false false false true last e = refl
  then_first false false false false false last e = absurd (false≢true (sym e))

-- what the check of a slot tells -------------------------------------------------------------------------------------
pub record Placed (a s : ℕ) (bad : Bool) : Type 0 where
  pub actor : a < 64
  pub slot : s < 8
  pub fields : bad ≡ false

pub placed : (a s : ℕ) (bad : Bool) → (bad_place a s bad) ≡ false → Placed a s bad
placed a s bad e =
    let p = or_none (no_object a || no_slot s) bad e in
    let q = or_none (no_object a) (no_slot s) p.0 in
    record { actor = omega (arith, ltb-false 63 a q.0); slot = omega (arith, ltb-false 7 s q.1); fields = p.1 }

-- the other fields that are slots
pub slot_placed : (j : ℕ) → no_slot j ≡ false → j < 8
slot_placed j e = omega (arith, ltb-false 7 j e)

pub slots_placed : (i j : ℕ) → (no_slot i || no_slot j) ≡ false → (i < 8) × (j < 8)
slots_placed i j e = let p = or_none (no_slot i) (no_slot j) e in (slot_placed i p.0, slot_placed j p.1)

-- a place that is none, or a field out of range
pub check_invalid : (t : Table) (a s : ℕ) (bad : Bool) (wanted : ℕ) (need : Need) → bad_place a s bad ≡ true
    → SlotChecked t a s bad wanted need (Err (record { why = FieldInvalid; seen = record { target = 0; rights = 0; kind = 0 } }))
unfolding slot_rows slot_check_of
check_invalid t a s bad wanted need e = record { whole = rw (e, slot_check_of) refl; opened = tt; refused = rw e refl }

-- `met` and `born` are what the code found of the right and of the target, `why` of the wanted status, `reply` of rows 3 to 6
module _ (t : Table) (a s : ℕ) (bad : Bool) (wanted : ℕ) (need : Need) (met born : Bool) (why reply : Reply) where
  abbrev first_row : Reply
  first_row = first_of false (unfit (record_at t a)) (is_empty (slot_at t a s)) (born && not (eqb (target_record t a s).status wanted)) why (not met)

  pub record Found : Type 0 where
    pub placed : bad_place a s bad ≡ false
    pub right : met ≡ need_met need (rights_of t a s)
    pub target : born ≡ is_born (target_record t a s)
    pub other : why ≡ wrong_status wanted
    pub rows : reply ≡ first_row

  first_slot_row : Found → reply ≡ slot_rows t a s bad wanted need
  unfolding slot_rows through_slot through
  first_slot_row f = f.rows ∙ rw (f.placed, f.right, f.target, f.other) refl

  pub check_passed : Found → Sized t → sound t ≡ true → reply ≡ Done → SlotChecked t a s bad wanted need (Ok (opened_at t a s))
  unfolding slot_check_of
  check_passed f z ok e =
      let p = placed a s bad f.placed in
      let r : slot_rows t a s bad wanted need ≡ Done = sym (first_slot_row f) ∙ e in
      record {
        whole = rw (f.placed, r, slot_check_of) refl;
        opened = record {
          reply = r;
          target = refl;
          rights = refl;
          kind = refl;
          actor = p.actor;
          slot = p.slot;
          fields = p.fields;
          within = target_below t a s z ok p.slot;
        };
        refused = tt;
      }

  pub check_failed : Found → (x : Refusal) → reply ≡ Err x → SlotChecked t a s bad wanted need (Err (record { why = x; seen = opened_at t a s }))
  unfolding slot_check_of
  check_failed f x e =
      let r : slot_rows t a s bad wanted need ≡ Err x = sym (first_slot_row f) ∙ e in
      record { whole = rw (f.placed, r, slot_check_of) refl; opened = tt; refused = r }

-- rows 5 and 24 passed: a born target has the wanted status
pub status_wanted : (wanted : ℕ) (r : Record) → 1 ≤ r.status → r.status ≤ 2 → other_status wanted r ≡ false → r.status ≡ wanted
status_wanted wanted r l h e = by_eq r.status wanted (λ q. q)
    (λ n. clash (and_intro (is_born r) _ (pos_born r h l) (ap not (ne_eqb r.status wanted n))) e)

-- rows 2 to 6 for the actor's slot s, and a last check after them --------------------------------------------
abbrev pub rows_then : Table → ℕ → ℕ → Bool → ℕ → Need → Reply → Reply
rows_then t a s bad wanted need last = refuse (bad_place a s bad) (Err FieldInvalid) (refuse (unfit (record_at t a)) (Err ActorUnfit) (through_slot t a s wanted need last))

pub rows_last : (t : Table) (a s : ℕ) (bad : Bool) (wanted : ℕ) (need : Need) (last : Reply) → is_done (slot_rows t a s bad wanted need) ≡ true → rows_then t a s bad wanted need last ≡ last
unfolding slot_rows through_slot through
rows_last t a s bad wanted need last e =
    then_last (wrong_status wanted) (wrong_refuses wanted) (bad_place a s bad) (unfit (record_at t a)) (is_empty (slot_at t a s)) (other_status wanted (target_record t a s)) (not (need_met need (rights_of t a s))) last e

pub rows_first : (t : Table) (a s : ℕ) (bad : Bool) (wanted : ℕ) (need : Need) (last : Reply) → is_done (slot_rows t a s bad wanted need) ≡ false → rows_then t a s bad wanted need last ≡ slot_rows t a s bad wanted need
unfolding slot_rows through_slot through
rows_first t a s bad wanted need last e =
    then_first (wrong_status wanted) (wrong_refuses wanted) (bad_place a s bad) (unfit (record_at t a)) (is_empty (slot_at t a s)) (other_status wanted (target_record t a s)) (not (need_met need (rights_of t a s))) last e
