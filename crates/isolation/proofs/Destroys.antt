-- Destroy, answered 0: the emptied slots, the dead record and the joined stock keep the invariant; from an actor that is not clean
-- they leave every clean object as it was; from a clean actor they keep two agreeing tables in agreement. Assumes nothing.
use mathlib.Core.Path.{◌≡◌, refl, sym, ◌∙◌, ap, ap₂}
use mathlib.Core.Logic.{◌≢◌}
use mathlib.Core.Bool.{true, false}
use Prim.Native.Nat.{ℕ, ◌≤◌, ◌<◌}
use native.Mathlib.Omega.{arith}
use Rattle.mask.specs.Sets.{has, union_of}
use Rattle.mask.proofs.Tests.{by_cases, clash, or_cases}
use Rattle.mask.proofs.Bits.{has_zero, has_union}
use Rattle.table.specs.declared.Record.{Record}
use Rattle.table.specs.declared.Table.{Table}
use Rattle.table.specs.Cells.{no_maker, record_at, slot_at, status_at, maker_at, stock_at, put_record}
use Rattle.table.proofs.Cells.{record-put, sized_put_record}
use Rattle.rights.specs.declared.Need.TheVariants.{Write}
use Rattle.requests.specs.Asks.{destroy}
use Rattle.refusals.specs.Replies.{is_done}
use Rattle.refusals.specs.Refusals.{alive, bad_field, later_rows, refusal, target_of}
use Rattle.effects.specs.Effects.{clear_slots, with_stock, died, destroyed, effect}
use Rattle.effects.proofs.Makers.{clear_record}
use Rattle.isolation.specs.Clean.{Clean}
use Rattle.isolation.specs.Demand.{AgreeOn}
use Rattle.isolation.proofs.Invariant.{Isolated, status_up, put_record_isolated, fields_stock, agree_record_out, agree_trans, agree_record}
use Rattle.steps.proofs.Granted.{past_checks, Granted, granted, not_itself}
use Rattle.isolation.proofs.Sides.{clean_target, dirty_target, weak_no_write, fits_live, stock_kept}
use Rattle.isolation.proofs.Copies.{clear_isolated, clear_sized, clear_bare, clear_out, clear_both}

module _ (t : Table) (C : Clean) (v : Isolated t C) (a s : ℕ) (e : is_done (refusal t (destroy a s)) ≡ true) where
  g : Granted t a s alive Write
  unfolding bad_field later_rows
  g = let r = past_checks t (destroy a s) e in (granted t a s alive Write _ v.sound r.fields r.alive r.later).0

  y : ℕ
  y = target_of t a s

  y≢a : y ≢ a
  unfolding y
  y≢a = not_itself t a s e

  -- the slots
  t1 : Table
  t1 = clear_slots t y 8

  v1 : Isolated t1 C
  unfolding t1 y
  v1 = clear_isolated t C y 8 v g.target (omega arith)

  record1 : (m : ℕ) → record_at t1 m ≡ record_at t m
  unfolding t1
  record1 m = clear_record t y 8 m

  born1 : (m : ℕ) → 1 ≤ status_at t m → 1 ≤ status_at t1 m
  born1 m h = omega (arith, ap (λ (r : Record). r.status) (record1 m))

  bare1 : (j : ℕ) → j < 8 → (slot_at t1 y j).rights ≡ 0
  unfolding t1 y
  bare1 j hj = clear_bare t y 8 j v.sound.size g.target (omega arith) hj

  -- the record
  t2 : Table
  t2 = put_record t1 y (died (record_at t y))

  v2 : Isolated t2 C
  unfolding t2 y
  v2 = put_record_isolated t1 C y _ v1 g.target (record {
    fine = record { low = omega arith; sort = (v.sound.records _).sort; still = λ h. (refl, refl); plain = λ h. absurd (omega arith) };
    maker = record { alone = λ h. absurd (omega arith); born = λ q. born1 (maker_at t (target_of t a s)) ((v.sound.makers _ g.target).born q) };
    keep = λ h. omega arith;
    idle = λ h j hj. bare1 j hj;
    free = λ x hx h. clash h (has_zero x);
    alone = λ m x hx hm h. clash h (has_zero x);
    unlisted = λ m hm. by_cases (has y (stock_at t1 m)) (λ h. absurd (omega (arith, v1.sound.stocks m y g.target h, g.there, ap (λ (r : Record). r.status) (record1 y)))) (λ h. h);
  })

  -- a number of the actor's or the target's stock, once the target is dead
  left2 : (x : ℕ) → x < 64 → status_at t x ≡ 0 → ((m : ℕ) → m ≢ a → m ≢ y → has x (stock_at t m) ≡ false)
      → (status_at t2 x ≡ 0) × ((m : ℕ) → m ≢ a → has x (stock_at t2 m) ≡ false)
  unfolding t2 y
  left2 x hx z f = (
    record-put (λ r. r.status ≡ 0) t1 y x _ v1.sound.size g.target (λ q. absurd (omega (arith, g.there, rw q at z))) (λ q. rw (record1 x) z),
    λ m hm. record-put (λ r. has x r.stock ≡ false) t1 y m _ v1.sound.size g.target (λ q. has_zero x) (λ q. rw (record1 m) (f m hm q)),
  )

  alive2 : status_at t2 a ≡ 1
  unfolding t2 y
  alive2 = record-put (λ r. r.status ≡ 1) t1 y a _ v1.sound.size g.target (λ q. absurd (y≢a (sym q))) (λ q. rw (record1 a) g.alive)

  -- the actor's maker is still born
  maker2 : maker_at t a ≢ no_maker → 1 ≤ status_at t2 (maker_at t a)
  unfolding t2 y
  maker2 q = status_up t1 (target_of t a s) (maker_at t a) _ v1.sound.size g.target (λ h. omega arith)
      (born1 (maker_at t a) ((v.sound.makers a g.actor).born q))

  -- the actor's stock
  t3 : Table
  t3 = put_record t2 a (with_stock (record_at t a) (union_of (stock_at t a) (stock_at t y)))

  v3 : Isolated t3 C
  unfolding t3
  v3 = put_record_isolated t2 C a _ v2 g.actor (fits_live t2 a _ v2.sound g.actor alive2 g.alive (v.sound.records a).sort maker2
      (λ x hx h. or_cases (has x (stock_at t a)) (has x (stock_at t y)) (sym (has_union x _ _ hx) ∙ h)
      (λ q. let k = stock_kept t a v.sound x hx q in left2 x hx k.0 (λ m p r. k.1 m p))
      (λ q. let k = stock_kept t y v.sound x hx q in left2 x hx k.0 (λ m p r. k.1 m r))))

  opened : effect t (destroy a s) ≡ t3
  unfolding effect destroyed t3 t2 t1 y
  opened = refl

  pub destroy_isolated : Isolated (effect t (destroy a s)) C
  destroy_isolated = rw opened v3

  pub destroy_out : C a ≡ false → AgreeOn C t (effect t (destroy a s))
  unfolding t3 t2 t1 y
  destroy_out c =
      let o = dirty_target t C v a s Write g weak_no_write c in
      rw opened (agree_trans (clear_out t C y 8 o (omega arith)) (agree_trans (agree_record_out C t1 y o _) (agree_record_out C t2 a c _)))

module _ (C : Clean) (t u : Table) (v : Isolated t C) (w : Isolated u C) (ag : AgreeOn C t u) (a s : ℕ) (c : C a ≡ true) (e : is_done (refusal t (destroy a s)) ≡ true) where
  pub destroy_both : AgreeOn C (effect t (destroy a s)) (effect u (destroy a s))
  unfolding effect destroyed
  destroy_both =
      let h = g t C v a s e in
      let z = target_of t a s in
      let p = ag.slots a s h.slot c in
      let q = ag.records z (clean_target t C v a s Write h c) in
      let f = ag.records a c in
      let zt = clear_sized t z 8 v.sound.size in
      let zu = clear_sized u z 8 w.sound.size in
      rw (← p, target_of) (agree_record C _ _ (sized_put_record _ _ _ zt) (sized_put_record _ _ _ zu)
      (agree_record C _ _ zt zu (clear_both t u C z 8 v.sound.size w.sound.size ag h.target (omega arith)) z h.target _ _ (record { status = refl; kind = q.kind; word = refl; stock = refl }))
      a h.actor _ _ (fields_stock _ _ f (ap₂ union_of f.stock q.stock)))
