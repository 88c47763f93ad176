-- What is known of a request that was answered 0: each refusal row denied, as a fact. Assumes nothing.
use mathlib.Core.Path.{◌≡◌, refl, sym, ◌∙◌, ap}
use mathlib.Core.Logic.{◌≢◌}
use mathlib.Core.Bool.{Bool, true, false, not, ◌||◌}
use mathlib.Core.List.{List, [], ◌∷◌}
use Prim.Native.Nat.{ℕ, ◌≤◌, ◌<◌}
use native.Mathlib.Omega.{arith}
use lib.Dec.{ltb, eqb}
use lib.ListN.{length}
use borrow.Author.Tests.{ltb-true, ltb-false, eqb-true, eqb-false, eq-eqb, not-true, not-false}
use Rattle.mask.specs.Sets.{has, excluding, subset_of}
use Rattle.mask.proofs.Tests.{by_cases, by_eq, clash, and_true, and_intro, or_none}
use Rattle.mask.proofs.Bits.{has_excluding, subset_at}
use Rattle.table.specs.declared.Capability.{Capability}
use Rattle.table.specs.declared.Record.{Record}
use Rattle.table.specs.declared.Table.{Table}
use Rattle.table.specs.Cells.{record_at, slot_at, status_at, stock_at, is_alive, is_active, is_empty}
use Rattle.table.specs.Soundness.{sound}
use Rattle.table.proofs.Cells.{Sized, record-high}
use Rattle.table.proofs.SoundFacts.{SlotFine, Sound}
use Rattle.rights.specs.declared.Need.TheVariants.{Write}
use Rattle.rights.specs.declared.Need.{Need}
use Rattle.rights.specs.Rows.{need_met}
use Rattle.requests.specs.declared.Pair.{Pair}
use Rattle.std.specs.Prelude.{Err}
use Rattle.refusals.specs.declared.Refusal.TheVariants.{TableUnsound, FieldInvalid, ActorUnfit, SlotEmpty, RightAbsent, ActorItself, NotInStock}
use Rattle.refusals.specs.Replies.{Reply, Done, is_done}
use Rattle.requests.specs.Asks.{Ask, revoke, send, allocate, destroy, reclaim, actor_of}
use Rattle.refusals.proofs.Rows.{wrong_refuses, status_wanted, slot_placed}
use Rattle.refusals.specs.Refusals.{refuse, no_slot, no_object, bad_slots, bad_list, bad_field, unfit, alive, dead, other_status, wrong_status, through, through_slot, not_in_stock, target_of, target_record, rights_of, later_rows, refusal}

-- a row that did not turn the request down
pub passed : (cause : Bool) (why rest : Reply) → is_done why ≡ false → is_done (refuse cause why rest) ≡ true → (cause ≡ false) × (is_done rest ≡ true)
passed true why rest f e = clash e f
passed false why rest f e = (refl, e)

pub object_low : (n : ℕ) → no_object n ≡ false → n < 64
object_low n e = omega (arith, ltb-false 63 n e)

-- rows 1 to 3
pub record PastChecks (t : Table) (q : Ask) : Type 0 where
  pub whole : sound t ≡ true
  pub fields : bad_field q ≡ false
  pub alive : status_at t (actor_of q) ≡ 1
  pub later : is_done (later_rows t q) ≡ true

pub past_checks : (t : Table) (q : Ask) → is_done (refusal t q) ≡ true → PastChecks t q
unfolding refusal
past_checks t q e =
    let r1 = passed (not (sound t)) (Err TableUnsound) _ refl e in
    let r2 = passed (bad_field q) (Err FieldInvalid) _ refl r1.1 in
    let r3 = passed (unfit (record_at t (actor_of q))) (Err ActorUnfit) _ refl r2.1 in
    let a = or_none (not (is_alive (record_at t (actor_of q)))) (not (is_active (record_at t (actor_of q)))) r3.0 in
    record { whole = not-false _ r1.0; fields = r2.0; alive = eqb-true _ 1 (not-false _ a.0); later = r3.1 }

-- a request through a slot --------------------------------------------------------
-- rows 4 to 6
pub past_through : (c : Capability) (r : Record) (wanted : ℕ) (able : Bool) (rest : Reply) → is_done (through c r wanted able rest) ≡ true
    → (is_empty c ≡ false) × (other_status wanted r ≡ false) × (able ≡ true) × (is_done rest ≡ true)
unfolding through
past_through c r wanted able rest e =
    let r4 = passed (is_empty c) (Err SlotEmpty) _ refl e in
    let r5 = passed (other_status wanted r) (wrong_status wanted) _ (wrong_refuses wanted) r4.1 in
    let r6 = passed (not able) (Err RightAbsent) rest refl r5.1 in
    (r4.0, r5.0, not-false _ r6.0, r6.1)

pub record Granted (t : Table) (a s wanted : ℕ) (need : Need) : Type 0 where
  pub actor : a < 64
  pub slot : s < 8
  pub alive : status_at t a ≡ 1
  pub filled : 1 ≤ (slot_at t a s).rights
  pub target : target_of t a s < 64
  pub there : status_at t (target_of t a s) ≡ wanted
  pub right : need_met need (rights_of t a s) ≡ true

pub born_low : (t : Table) (n : ℕ) → Sized t → 1 ≤ status_at t n → n < 64
born_low t n z h = by_cases (ltb n 64) (λ e. ltb-true n 64 e)
    (λ e. absurd (omega (arith, ap (λ (r : Record). r.status) (record-high t n z (ltb-false n 64 e)))))

pub filled_slot : (a b : ℕ) (c : Capability) → SlotFine a b c → is_empty c ≡ false → 1 ≤ c.rights
filled_slot a b c f e = by_eq c.rights 0
    (λ q. clash (and_intro (eqb c.target 0) (eqb c.rights 0) (eq-eqb _ 0 (f.blank q)) (eq-eqb _ 0 q)) e)
    (λ q. omega arith)

pub granted : (t : Table) (a s wanted : ℕ) (need : Need) (rest : Reply) → Sound t → (no_object a || no_slot s) ≡ false → status_at t a ≡ 1
    → is_done (through_slot t a s wanted need rest) ≡ true → (Granted t a s wanted need) × (is_done rest ≡ true)
unfolding through_slot
granted t a s wanted need rest d f l e =
    let c = slot_at t a s in
    let rows = past_through c (record_at t c.target) wanted (need_met need c.rights) rest e in
    let p = or_none (no_object a) (no_slot s) f in
    let hs = slot_placed s p.1 in
    let g = d.slots a s hs in
    let h = filled_slot _ _ c g rows.0 in
    let b = g.named h in (
      record {
        actor = object_low a p.0;
        slot = hs;
        alive = l;
        filled = h;
        target = born_low t c.target d.size b;
        there = status_wanted wanted (record_at t c.target) b (d.records c.target).low rows.1;
        right = rows.2;
      },
      rows.3,
    )

-- the slot of a revoke
pub revoke_slot : (a s j : ℕ) → bad_field (revoke a s j) ≡ false → ((no_object a || no_slot s) ≡ false) × (j < 8)
unfolding bad_field
revoke_slot a s j e = let p = or_none (no_object a || no_slot s) (no_slot j) e in (p.0, slot_placed j p.1)

-- row 8 of a destroy
pub not_itself : (t : Table) (a s : ℕ) → is_done (refusal t (destroy a s)) ≡ true → target_of t a s ≢ a
unfolding later_rows through_slot
not_itself t a s e =
    let r = past_through (slot_at t a s) (target_record t a s) alive (need_met Write (rights_of t a s)) _ (past_checks t (destroy a s) e).later in
    eqb-false (target_of t a s) a (passed (eqb (target_of t a s) a) (Err ActorItself) Done refl r.3).0

-- a reclaim
pub reclaim_granted : (t : Table) (a s : ℕ) → Sound t → is_done (refusal t (reclaim a s)) ≡ true → Granted t a s dead Write
unfolding bad_field later_rows
reclaim_granted t a s d e = let r = past_checks t (reclaim a s) e in (granted t a s dead Write Done d r.fields r.alive r.later).0

-- whoever asks is alive, and what is reclaimed is dead
pub reclaim_apart : (t : Table) (a s : ℕ) → Granted t a s dead Write → a ≢ target_of t a s
reclaim_apart t a s g e = absurd (omega (arith, g.alive, g.there, ap (status_at t) e))

-- a pair list --------------------------------------------------------------------------
pub data Ranged : List Pair → Type 0 where
  none : Ranged []
  more : {p : Pair} {ps : List Pair} → p.from < 8 → p.to < 8 → Ranged ps → Ranged (p ∷ ps)

slots_ranged : (ps : List Pair) → bad_slots ps ≡ false → Ranged ps
unfolding bad_slots
slots_ranged [] e = none
slots_ranged (p ∷ ps) e =
    let a = or_none (no_slot p.from || no_slot p.to) (bad_slots ps) e in
    let b = or_none (no_slot p.from) (no_slot p.to) a.0 in
    more (slot_placed _ b.0) (slot_placed _ b.1) (slots_ranged ps a.1)

-- no longer than 4, and no slot above 7
pub list_in_lem : (ps : List Pair) → bad_list ps ≡ false → (ltb 4 (length ps) ≡ false) × (bad_slots ps ≡ false)
unfolding bad_list
list_in_lem ps e = or_none (ltb 4 (length ps)) (bad_slots ps) e

pub ranged : (ps : List Pair) → bad_list ps ≡ false → Ranged ps
ranged ps e = slots_ranged ps (list_in_lem ps e).1

pub send_list : (a s w : ℕ) (ps : List Pair) (y : ℕ) → bad_field (send a s w ps y) ≡ false → ((no_object a || no_slot s) ≡ false) × (bad_list ps ≡ false)
unfolding bad_field
send_list a s w ps y e = or_none (no_object a || no_slot s) (bad_list ps) (or_none (no_object a || no_slot s || bad_list ps) (ltb 8 y) e).0

-- a stock ---------------------------------------------------------------------------------
pub record Within (n part stock : ℕ) : Type 0 where
  pub held : has n stock ≡ true
  pub inside : (k : ℕ) → k < 64 → has k part ≡ true → (has k stock ≡ true) × (k ≢ n)

pub within : (n part stock : ℕ) → not_in_stock n part stock ≡ false → Within n part stock
unfolding not_in_stock
within n part stock e =
    let p = or_none (not (has n stock)) (not (subset_of part (excluding n stock))) e in
    record {
      held = not-false _ p.0;
      inside = λ k hk h.
          let q = and_true (has k stock) (not (eqb k n)) (sym (has_excluding k n stock hk) ∙ subset_at part (excluding n stock) k (not-false _ p.1) hk h) in
          (q.0, eqb-false k n (not-true _ q.1));
    }

-- an allocate ------------------------------------------------------------------------------
pub record Made (t : Table) (ps : List Pair) (a n k p i : ℕ) : Type 0 where
  pub actor : a < 64
  pub number : n < 64
  pub kind : k ≤ 1
  pub slot : i < 8
  pub alive : status_at t a ≡ 1
  pub share : Within n p (stock_at t a)
  pub list : bad_list ps ≡ false

pub made_facts : (t : Table) (ps : List Pair) (a n k p i : ℕ) → is_done (refusal t (allocate a n k p i ps)) ≡ true → Made t ps a n k p i
unfolding bad_field later_rows
made_facts t ps a n k p i e =
    let r = past_checks t (allocate a n k p i ps) e in
    let f1 = or_none (no_object a || no_object n || ltb 1 k || no_slot i) (bad_list ps) r.fields in
    let f2 = or_none (no_object a || no_object n || ltb 1 k) (no_slot i) f1.0 in
    let f3 = or_none (no_object a || no_object n) (ltb 1 k) f2.0 in
    let f4 = or_none (no_object a) (no_object n) f3.0 in
    record {
      actor = object_low a f4.0;
      number = object_low n f4.1;
      kind = ltb-false 1 k f3.1;
      slot = slot_placed i f2.1;
      alive = r.alive;
      share = within n p _ (passed (not_in_stock n p (stock_at t a)) (Err NotInStock) Done refl r.later).0;
      list = f1.1;
    }
