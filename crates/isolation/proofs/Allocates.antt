-- Allocate, answered 0: the actor's stock, the new record, the copied pairs and the actor's slot keep the invariant, with the new
-- object clean exactly if the actor is; from an actor that is not clean they leave every clean object as it was; from a clean
-- actor they keep two agreeing tables in agreement, on the new object too. A stock's numbers are unborn, so the new object is
-- nobody's before. Assumes nothing.
use mathlib.Core.Path.{◌≡◌, refl, sym, ◌∙◌, ap}
use mathlib.Core.Logic.{◌≢◌}
use mathlib.Core.Bool.{true, false, not, true≢false}
use mathlib.Core.List.{List}
use Prim.Native.Nat.{ℕ, ◌≤◌, ◌<◌}
use native.Mathlib.Omega.{arith}
use lib.Dec.{eqb}
use borrow.Author.Tests.{eqb-false, eq-eqb, ne_eqb, not-true}
use Rattle.mask.specs.Sets.{has, excluding}
use Rattle.mask.proofs.Tests.{by_cases, by_eq, clash, and_true}
use Rattle.mask.proofs.Bits.{has_excluding, has_less}
use Rattle.table.specs.declared.Record.{Record}
use Rattle.table.specs.declared.Table.{Table}
use Rattle.table.specs.Cells.{record_at, slot_at, status_at, stock_at, put_record, put_slot}
use Rattle.table.proofs.Cells.{Sized, record-put, record_same}
use Rattle.table.proofs.SoundFacts.{bare, bare_slot}
use Rattle.requests.specs.declared.Pair.{Pair}
use Rattle.requests.specs.Asks.{allocate}
use Rattle.refusals.specs.Replies.{is_done}
use Rattle.refusals.specs.Refusals.{refusal}
use Rattle.effects.specs.Effects.{with_stock, made, full_over, stock_less, allocated, effect}
use Rattle.copies.specs.Copies.{copy_pairs}
use Rattle.isolation.specs.Clean.{Clean, setting}
use Rattle.isolation.specs.Demand.{SameFields, AgreeOn}
use Rattle.isolation.proofs.Invariant.{Isolated, nobody_clean, put_slot_isolated, put_record_isolated, fields_same, fields_stock, agree_slot_out, agree_record_out, agree_trans, agree_slot, agree_record}
use Rattle.copies.proofs.Pairs.{copies_record, copies_sized}
use Rattle.steps.proofs.Granted.{ranged, Made, made_facts}
use Rattle.isolation.proofs.Sides.{fits_live, stock_kept}
use Rattle.isolation.proofs.Copies.{fits_moved, copies_isolated, copies_out, copies_both}

-- what is left of the stock
has_left : (n part stock k : ℕ) → k < 64 → has k (stock_less n part stock) ≡ true → (has k stock ≡ true) × (k ≢ n) × (has k part ≡ false)
unfolding stock_less
has_left n part stock k hk h =
    let p = and_true (has k (excluding n stock)) (not (has k part)) (sym (has_less k (excluding n stock) part hk) ∙ h) in
    let q = and_true (has k stock) (not (eqb k n)) (sym (has_excluding k n stock hk) ∙ p.0) in
    (q.0, eqb-false k n (not-true _ q.1), not-true _ p.1)

abbrev pub adding : ℕ → Clean → Clean
adding n C = setting n true C

-- one more clean object ---------------------------------------------------------------
adding_isolated : (t : Table) (C : Clean) (n : ℕ) → Isolated t C → 1 ≤ status_at t n
    → ((j : ℕ) → j < 8 → (slot_at t n j).rights ≡ 0)
    → ((m j : ℕ) → j < 8 → 1 ≤ (slot_at t m j).rights → (slot_at t m j).target ≢ n)
    → Isolated t (adding n C)
adding_isolated t C n v b bare unnamed = record {
  sound = v.sound;
  born = λ m. by_eq m n (λ e h. rw e b) (λ e h. v.born m (rw (ne_eqb m n e) at h));
  inside = λ m j hj. by_eq m n
      (λ e h l. absurd (omega (arith, rw (← e) at (bare j hj))))
      (λ e h l. rw (ne_eqb _ n (unnamed m j hj l)) (v.inside m j hj (rw (ne_eqb m n e) at h) l));
  outside = λ m j hj. by_eq m n
      (λ e h. absurd (true≢false (rw (eq-eqb m n e) at h)))
      (λ e h l c. v.outside m j hj (rw (ne_eqb m n e) at h) l (rw (ne_eqb _ n (unnamed m j hj l)) at c));
}

adding_agree : (C : Clean) (t u : Table) (n : ℕ) → AgreeOn C t u → SameFields (record_at t n) (record_at u n) → ((j : ℕ) → j < 8 → slot_at t n j ≡ slot_at u n j) → AgreeOn (adding n C) t u
adding_agree C t u n a r s = record {
  records = λ m. by_eq m n (λ e h. rw e r) (λ e h. a.records m (rw (ne_eqb m n e) at h));
  slots = λ m j hj. by_eq m n (λ e h. rw e (s j hj)) (λ e h. a.slots m j hj (rw (ne_eqb m n e) at h));
}

module _ (t : Table) (C : Clean) (v : Isolated t C) (a n k p i : ℕ) (ps : List Pair) (e : is_done (refusal t (allocate a n k p i ps)) ≡ true) where
  g : Made t ps a n k p i
  g = made_facts t ps a n k p i e

  unborn : status_at t n ≡ 0
  unborn = v.sound.stocks a n g.number g.share.held

  a≢n : a ≢ n
  a≢n q = absurd (omega (arith, unborn, rw q at g.alive))

  pub outsider : C n ≡ false
  outsider = nobody_clean t C n v unborn

  -- the actor's stock
  t1 : Table
  t1 = put_record t a (with_stock (record_at t a) (stock_less n p (stock_at t a)))

  v1 : Isolated t1 C
  unfolding t1
  v1 = put_record_isolated t C a _ v g.actor (fits_live t a _ v.sound g.actor g.alive g.alive (v.sound.records a).sort
      (v.sound.makers a g.actor).born
      (λ x hx h. stock_kept t a v.sound x hx (has_left n p _ x hx h).0))

  same_status : (m : ℕ) → status_at t1 m ≡ status_at t m
  unfolding t1
  same_status m = record-put (λ x. x.status ≡ status_at t m) t a m _ v.sound.size g.actor (λ q. rw q refl) (λ q. refl)

  -- a number that the actor had, in no stock that is left
  gone : (x m : ℕ) → x < 64 → has x (stock_at t a) ≡ true → has x (stock_less n p (stock_at t a)) ≡ false → has x (stock_at t1 m) ≡ false
  unfolding t1
  gone x m hx h w = record-put (λ r. has x r.stock ≡ false) t a m _ v.sound.size g.actor (λ q. w) (λ q. (stock_kept t a v.sound x hx h).1 m q)

  not_left : (x : ℕ) → x < 64 → (x ≢ n → has x p ≡ true) → has x (stock_less n p (stock_at t a)) ≡ false
  not_left x hx f = by_cases (has x (stock_less n p (stock_at t a))) (λ h. let w = has_left n p _ x hx h in clash (f w.1) w.2) (λ h. h)

  -- the new record
  t2 : Table
  t2 = put_record t1 n (made a k p)

  v2 : Isolated t2 C
  unfolding t2
  v2 = put_record_isolated t1 C n _ v1 g.number (record {
    fine = record { low = omega arith; sort = g.kind; still = λ h. absurd (h refl); plain = λ h. absurd (omega arith) };
    maker = record { alone = λ h. absurd (omega arith); born = λ q. omega (arith, same_status a, g.alive) };
    keep = λ h. omega arith;
    idle = λ h. absurd (h refl);
    free = λ x hx h. let w = g.share.inside x hx h in (same_status x ∙ v.sound.stocks a x hx w.0, w.1);
    alone = λ m x hx hm h. gone x m hx (g.share.inside x hx h).0 (not_left x hx (λ q. h));
    unlisted = λ m hm. gone n m g.number g.share.held (not_left n g.number (λ q. absurd (q refl)));
  })

  slot2 : (m j : ℕ) → slot_at t2 m j ≡ slot_at t m j
  unfolding t2 t1
  slot2 m j = refl

  alive2 : status_at t2 a ≡ 1
  unfolding t2
  alive2 = record-put (λ x. x.status ≡ 1) t1 n a _ v1.sound.size g.number (λ q. refl) (λ q. same_status a ∙ g.alive)

  new2 : record_at t2 n ≡ made a k p
  unfolding t2
  new2 = record_same t1 n _ v1.sound.size g.number

  born2 : status_at t2 n ≡ 1
  born2 = ap (λ (r : Record). r.status) new2

  -- the copied pairs, then the actor's slot, whoever is clean
  t3 : Table
  t3 = copy_pairs t2 (slot_at t a) n ps

  opened : effect t (allocate a n k p i ps) ≡ put_slot t3 a i (full_over n)
  unfolding effect allocated t3 t2 t1
  opened = refl

  module _ (D : Clean) (x : Isolated t2 D) (side : D n ≡ D a) where
    v3 : Isolated t3 D
    unfolding t3
    v3 = copies_isolated (ranged ps g.list) t2 D (slot_at t a) n x g.number born2 (λ j hj. rw (slot2 a j) at (fits_moved t2 D x a n j hj born2 side))

    v4 : Isolated (effect t (allocate a n k p i ps)) D
    unfolding t3
    v4 = rw opened (put_slot_isolated t3 D a i _ v3 g.actor g.slot (record {
      fine = record {
        blank = λ h. absurd (omega arith);
        held = λ h. ap (λ (r : Record). r.status) (copies_record t2 (slot_at t a) n ps a) ∙ alive2;
        named = λ h. omega (arith, ap (λ (r : Record). r.status) (copies_record t2 (slot_at t a) n ps n) ∙ born2);
        high = omega arith;
      };
      in_clean = λ c h. side ∙ c;
      out_clean = λ c h w. clash w (side ∙ c);
    }))

  pub allocate_isolated : C a ≡ false → Isolated (effect t (allocate a n k p i ps)) C
  allocate_isolated c = v4 C v2 (outsider ∙ sym c)

  pub allocate_out : C a ≡ false → AgreeOn C t (effect t (allocate a n k p i ps))
  unfolding t3 t2 t1
  allocate_out c = rw opened (agree_trans (agree_record_out C t a c _) (agree_trans (agree_record_out C t1 n outsider _)
      (agree_trans (copies_out (ranged ps g.list) t2 C (slot_at t a) n outsider) (agree_slot_out C t3 a c i _ g.slot))))

  added2 : Isolated t2 (adding n C)
  added2 = adding_isolated t2 C n v2 (omega (arith, born2))
      (λ j hj. rw (slot2 n j) (bare t n v.sound unborn j hj))
      (λ m j hj. rw (slot2 m j) (λ l q. absurd (omega (arith, unborn, rw q at ((v.sound.slots m j hj).named l)))))

  pub allocate_clean : C a ≡ true → Isolated (effect t (allocate a n k p i ps)) (adding n C)
  allocate_clean c = v4 (adding n C) added2 (rw (eq-eqb n n refl, ne_eqb a n a≢n) (sym c))

module _ (C : Clean) (t u : Table) (v : Isolated t C) (w : Isolated u C) (ag : AgreeOn C t u) (a n k p i : ℕ) (ps : List Pair) (c : C a ≡ true)
    (e : is_done (refusal t (allocate a n k p i ps)) ≡ true) (f : is_done (refusal u (allocate a n k p i ps)) ≡ true) where
  agree1 : AgreeOn C (t1 t C v a n k p i ps e) (t1 u C w a n k p i ps f)
  unfolding t1
  agree1 = agree_record C t u v.sound.size w.sound.size ag a (g t C v a n k p i ps e).actor _ _ (let f = ag.records a c in fields_stock _ _ f (ap (stock_less n p) f.stock))

  agree2 : AgreeOn C (t2 t C v a n k p i ps e) (t2 u C w a n k p i ps f)
  unfolding t2
  agree2 = agree_record C _ _ (v1 t C v a n k p i ps e).sound.size (v1 u C w a n k p i ps f).sound.size agree1 n (g t C v a n k p i ps e).number _ _ (fields_same refl)

  agree3 : AgreeOn (adding n C) (t2 t C v a n k p i ps e) (t2 u C w a n k p i ps f)
  agree3 = adding_agree C _ _ n agree2 (fields_same (new2 t C v a n k p i ps e ∙ sym (new2 u C w a n k p i ps f)))
      (λ j hj. (slot2 t C v a n k p i ps e n j ∙ bare_slot t n v.sound (unborn t C v a n k p i ps e) j hj)
      ∙ sym (slot2 u C w a n k p i ps f n j ∙ bare_slot u n w.sound (unborn u C w a n k p i ps f) j hj))

  agree4 : AgreeOn (adding n C) (t3 t C v a n k p i ps e) (t3 u C w a n k p i ps f)
  unfolding t3
  agree4 = copies_both (ranged ps (g t C v a n k p i ps e).list) _ _ (adding n C) (slot_at t a) (slot_at u a) n
      (v2 t C v a n k p i ps e).sound.size (v2 u C w a n k p i ps f).sound.size
      agree3 (g t C v a n k p i ps e).number (rw (eq-eqb n n refl) refl) (λ j hj. ag.slots a j hj c)

  sized3 : (x : Table) (vx : Isolated x C) (h : is_done (refusal x (allocate a n k p i ps)) ≡ true) → Sized (t3 x C vx a n k p i ps h)
  unfolding t3
  sized3 x vx h = copies_sized _ _ n ps (v2 x C vx a n k p i ps h).sound.size

  pub allocate_both : AgreeOn (adding n C) (effect t (allocate a n k p i ps)) (effect u (allocate a n k p i ps))
  allocate_both = rw (opened t C v a n k p i ps e, opened u C w a n k p i ps f)
      (agree_slot (adding n C) _ _ (sized3 t v e) (sized3 u w f) agree4 a (g t C v a n k p i ps e).actor i _ _ (g t C v a n k p i ps e).slot refl)
