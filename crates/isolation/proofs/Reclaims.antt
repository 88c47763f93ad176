-- Reclaim, answered 0: where the number is forgotten, unborn and in the actor's stock the invariant holds, with the number nobody; from an actor
-- that is not clean it leaves every clean object as it was, but for makers: a clean object names no object that is not clean; from a clean actor
-- it keeps two agreeing tables in agreement. Assumes nothing.
use mathlib.Core.Path.{◌≡◌, refl, sym, ◌∙◌, ap, subst}
use mathlib.Core.Logic.{◌≢◌}
use mathlib.Core.Bool.{true, false, cond}
use Prim.Native.Nat.{ℕ, ◌≤◌, ◌<◌}
use native.Mathlib.Omega.{arith}
use lib.Dec.{ltb, eqb}
use borrow.Author.Tests.{ltb-true, ltb-false, eqb-true, eq-eqb, ne_eqb}
use Rattle.mask.specs.Sets.{has, including}
use Rattle.mask.proofs.Tests.{by_cases, by_eq, clash, or_cases}
use Rattle.mask.proofs.Bits.{has_zero, has_including}
use Rattle.table.specs.declared.Capability.{Capability}
use Rattle.table.specs.declared.Record.{Record}
use Rattle.table.specs.declared.Table.{Table}
use Rattle.table.specs.Cells.{no_record, unborn_record, record_at, slot_at, status_at, maker_at, stock_at}
use Rattle.table.proofs.Cells.{Sized, record-high}
use Rattle.table.proofs.SoundFacts.{RecordFine, MakerFine, SlotFine, Sound}
use Rattle.rights.specs.declared.Need.TheVariants.{Write}
use Rattle.requests.specs.Asks.{reclaim}
use Rattle.refusals.specs.Replies.{is_done}
use Rattle.refusals.specs.Refusals.{dead, refusal, target_of}
use Rattle.forgetting.specs.Forgetting.{unnamed, maker_left, unmade}
use Rattle.forgetting.proofs.Left.{unnamed_other, unnamed_elim, left_elim}
use Rattle.effects.specs.Effects.{with_stock, reclaimed, effect}
use Rattle.effects.proofs.Reclaims.{reclaimed_slot, reclaimed_sized, reclaimed_unborn, reclaimed_record}
use Rattle.steps.proofs.Granted.{Granted, born_low, reclaim_granted, reclaim_apart}
use Rattle.isolation.specs.Clean.{Clean, setting}
use Rattle.isolation.specs.Demand.{SameFields, AgreeOn}
use Rattle.isolation.proofs.Latest.{set_there, set_beside}
use Rattle.isolation.proofs.Invariant.{wk_alone, Isolated, fields_same, fields_sym, fields_trans, fields_stock}
use Rattle.isolation.proofs.Sides.{dirty_target, weak_no_write}

-- a number that is taken out of a set: whoever is left is another
pub left_in : (C : Clean) (y n : ℕ) → setting y false C n ≡ true → (C n ≡ true) × (n ≢ y)
left_in C y n h = by_eq n y
    (λ e. clash h (set_there C y n false e))
    (λ e. (sym (set_beside C y n false e) ∙ h, e))

-- what is left of everybody's record but the number's: the fields that it had, and the actor's stock with the number
abbrev joined_to : ℕ → ℕ → ℕ → Record → Record
joined_to a y n r = cond (eqb n a) (with_stock r (including y r.stock)) r

joined_same : (a y n : ℕ) (r s : Record) → SameFields r s → SameFields (joined_to a y n r) (joined_to a y n s)
joined_same a y n r s f = by_cases (eqb n a) (λ q. rw q (fields_stock _ _ f (ap (including y) f.stock))) (λ q. rw q f)

fields_after : (t : Table) (a y : ℕ) → Sized t → a < 64 → y < 64 → a ≢ y → (n : ℕ) → n < 64 → n ≢ y → SameFields (record_at (reclaimed t a y) n) (joined_to a y n (record_at t n))
fields_after t a y z ha hy ne n hn = reclaimed_record t a y z ha hy ne (λ m r. m ≢ y → SameFields r (joined_to a y m (record_at t m)))
    (λ w. absurd (w refl))
    (λ w. rw (eq-eqb a a refl) (record { status = refl; kind = refl; word = refl; stock = refl }))
    (λ m hm p q w. rw (ne_eqb m a p) (record { status = refl; kind = refl; word = refl; stock = refl }))
    n hn

module _ (t : Table) (C : Clean) (v : Isolated t C) (a s : ℕ) (e : is_done (refusal t (reclaim a s)) ≡ true) where
  pub reclaim_over : Granted t a s dead Write
  reclaim_over = reclaim_granted t a s v.sound e

  abbrev y : ℕ
  y = target_of t a s

  abbrev u : Table
  u = reclaimed t a y

  a≢y : a ≢ y
  a≢y = reclaim_apart t a s reclaim_over

  size : Sized u
  size = let g = reclaim_over in reclaimed_sized t a y v.sound.size g.actor g.target a≢y

  -- a fact of every record: of the number's, of the actor's, of the others', and past the end
  each : (P : ℕ → Record → Type 0) → P y unborn_record → P a (with_stock (unmade y (record_at t a)) (including y (stock_at t a)))
      → ((n : ℕ) → n < 64 → n ≢ y → P n (unmade y (record_at t n))) → ((n : ℕ) → 64 ≤ n → P n no_record) → (n : ℕ) → P n (record_at u n)
  each P own actor other past n = let g = reclaim_over in by_cases (ltb n 64)
      (λ l. reclaimed_record t a y v.sound.size g.actor g.target a≢y P own actor (λ m hm p q. other m hm q) n (ltb-true n 64 l))
      (λ l. rw (record-high u n size (ltb-false n 64 l)) (past n (ltb-false n 64 l)))

  unborn : status_at u y ≡ 0
  unborn = let g = reclaim_over in ap (λ (r : Record). r.status) (reclaimed_unborn t a y v.sound.size g.actor g.target a≢y)

  status : (n : ℕ) → n ≢ y → status_at u n ≡ status_at t n
  status = each (λ n r. n ≢ y → r.status ≡ status_at t n) (λ w. absurd (w refl)) (λ w. refl) (λ n hn ne w. refl)
      (λ n hn w. sym (ap (λ (r : Record). r.status) (record-high t n v.sound.size hn)))

  -- unborn before, unborn after
  still : (n : ℕ) → status_at t n ≡ 0 → status_at u n ≡ 0
  still n z = by_eq n y (λ q. rw q unborn) (λ q. status n q ∙ z)

  -- nothing had it in stock
  unlisted : (n : ℕ) → has y (stock_at t n) ≡ true → ⊥
  unlisted n h = let g = reclaim_over in omega (arith, v.sound.stocks n y g.target h, g.there)

  mine : (n : ℕ) → has y (stock_at u n) ≡ true → n ≡ a
  mine = each (λ n r. has y r.stock ≡ true → n ≡ a) (λ h. clash h (has_zero y)) (λ h. refl) (λ n hn ne h. absurd (unlisted n h)) (λ n hn h. clash h (has_zero y))

  kept : (k : ℕ) → k < 64 → k ≢ y → (n : ℕ) → has k (stock_at u n) ≡ true → has k (stock_at t n) ≡ true
  kept k hk ne = each (λ n r. has k r.stock ≡ true → has k (stock_at t n) ≡ true)
      (λ h. clash h (has_zero k))
      (λ h. or_cases (has k (stock_at t a)) (eqb k y) (sym (has_including k y (stock_at t a) hk) ∙ h) (λ q. q) (λ q. absurd (ne (eqb-true k y q))))
      (λ n hn q h. h)
      (λ n hn h. clash h (has_zero k))

  maker_left_lem : (n : ℕ) → n < 64 → MakerFine (status_at t n) (status_at u (maker_left y (maker_at t n))) (maker_left y (maker_at t n))
  maker_left_lem n hn = let f = v.sound.makers n hn in
      left_elim (λ m. MakerFine (status_at t n) (status_at u m) m) y (maker_at t n)
      (λ q. record { alone = λ h. refl; born = λ h. absurd (h refl) })
      (λ q. record { alone = f.alone; born = λ h. rw (status (maker_at t n) q) (f.born h) })

  slot_left : (n j : ℕ) → j < 8 → SlotFine (status_at u n) (status_at u (unnamed y (slot_at t n j)).target) (unnamed y (slot_at t n j))
  slot_left n j hj =
      let f = v.sound.slots n j hj in
      unnamed_elim (λ c. SlotFine (status_at u n) (status_at u c.target) c) y (slot_at t n j)
      (record { blank = λ h. refl; held = λ h. absurd (omega arith); named = λ h. absurd (omega arith); high = omega arith })
      (λ q. record {
        blank = f.blank;
        held = λ h. status n (λ w. absurd (omega (arith, f.held h, reclaim_over.there, ap (status_at t) w))) ∙ f.held h;
        named = λ h. rw (status (slot_at t n j).target q) (f.named h);
        high = f.high;
      })

  sound_left : Sound u
  sound_left = record {
    size = size;
    records = each (λ n r. RecordFine r)
        (record { low = omega arith; sort = omega arith; still = λ h. (refl, refl); plain = λ h. refl })
        (let f = v.sound.records a in record { low = f.low; sort = f.sort; still = λ h. absurd (h reclaim_over.alive); plain = f.plain })
        (λ n hn q. let f = v.sound.records n in record { low = f.low; sort = f.sort; still = f.still; plain = f.plain })
        (λ n hn. record { low = omega arith; sort = omega arith; still = λ h. (refl, refl); plain = λ h. refl });
    makers = λ n hn. each (λ m r. m < 64 → MakerFine r.status (status_at u r.maker) r.maker)
        (λ h. record { alone = λ q. refl; born = λ q. absurd (q refl) })
        (maker_left_lem a) (λ m hm q. maker_left_lem m) (λ m hm h. absurd (omega arith)) n hn;
    slots = λ n j hj. rw (reclaimed_slot t a y n j) (slot_left n j hj);
    stocks = λ n k hk h. by_eq k y (λ q. rw q unborn) (λ q. still k (v.sound.stocks n k hk (kept k hk q n h)));
    apart = λ n m k hk h w. by_eq k y
        (λ q. mine n (rw q at h) ∙ sym (mine m (rw q at w)))
        (λ q. v.sound.apart n m k hk (kept k hk q n h) (kept k hk q m w));
  }

  -- a filled slot that is left names another
  filled_left : (P : Capability → Type 0) (n j : ℕ) → (1 ≤ (slot_at t n j).rights → (slot_at t n j).target ≢ y → P (slot_at t n j))
      → 1 ≤ (slot_at u n j).rights → P (slot_at u n j)
  filled_left P n j f = rw (reclaimed_slot t a y n j)
      (unnamed_elim (λ c. 1 ≤ c.rights → P c) y (slot_at t n j) (λ h. absurd (omega arith)) (λ q h. f h q))

  isolated_left : Isolated u (setting y false C)
  isolated_left = record {
    sound = sound_left;
    born = λ n h. let k = left_in C y n h in rw (status n k.1) (v.born n k.0);
    inside = λ n j hj h. filled_left (λ c. setting y false C c.target ≡ true) n j
        (λ l q. set_beside C y (slot_at t n j).target false q ∙ v.inside n j hj (left_in C y n h).0 l);
    outside = λ n j hj h. filled_left (λ c. setting y false C c.target ≡ true → c.rights ≡ wk_alone) n j
        (λ l q w. v.outside n j hj
        (sym (set_beside C y n false (λ d. absurd (omega (arith, (v.sound.slots n j hj).held l, reclaim_over.there, ap (status_at t) d)))) ∙ h)
        l (left_in C y _ w).0);
  }

  opened : effect t (reclaim a s) ≡ u
  unfolding effect
  opened = refl

  pub reclaim_isolated : Isolated (effect t (reclaim a s)) (setting y false C)
  reclaim_isolated = rw opened isolated_left

  -- from an actor that is not clean
  pub reclaim_dirty : C a ≡ false → C y ≡ false
  reclaim_dirty c = dirty_target t C v a s Write reclaim_over weak_no_write c

  -- a slot of a clean object names a clean object or nothing
  slot_out : C y ≡ false → (n j : ℕ) → j < 8 → C n ≡ true → slot_at t n j ≡ slot_at u n j
  slot_out o n j hj h =
      let f = v.sound.slots n j hj in
      sym (reclaimed_slot t a y n j ∙ by_eq (slot_at t n j).rights 0
      (λ q. unnamed_elim (λ c. c ≡ slot_at t n j) y (slot_at t n j) (λ x. record { target = sym (f.blank q) x; rights = sym q x }) (λ w. refl))
      (λ q. unnamed_other y (slot_at t n j) (λ w. clash (v.inside n j hj h (omega arith)) (rw w o))))

  pub reclaim_out : C a ≡ false → AgreeOn C t (effect t (reclaim a s))
  reclaim_out c = let o = reclaim_dirty c in rw opened (record {
    records = each (λ n r. C n ≡ true → SameFields (record_at t n) r)
        (λ h. clash h o) (λ h. clash h c) (λ n hn q h. record { status = refl; kind = refl; word = refl; stock = refl })
        (λ n hn h. fields_same (record-high t n v.sound.size hn));
    slots = slot_out o;
  })

module _ (C : Clean) (t u : Table) (v : Isolated t C) (w : Isolated u C) (ag : AgreeOn C t u) (a s : ℕ) (c : C a ≡ true)
    (e : is_done (refusal t (reclaim a s)) ≡ true) (f : is_done (refusal u (reclaim a s)) ≡ true) where
  -- the same number
  pub reclaim_same : target_of t a s ≡ target_of u a s
  reclaim_same = ap (λ (k : Capability). k.target) (ag.slots a s (reclaim_over t C v a s e).slot c)

  abbrev x : ℕ
  x = target_of t a s

  there : Granted t a s dead Write
  there = reclaim_over t C v a s e

  fields_both : (n : ℕ) → n < 64 → n ≢ x → C n ≡ true → SameFields (record_at (reclaimed t a x) n) (record_at (reclaimed u a x) n)
  fields_both n hn ne h =
      let g = there in
      let q = reclaim_apart t a s g in
      fields_trans (fields_after t a x v.sound.size g.actor g.target q n hn ne)
      (fields_trans (joined_same a x n _ _ (ag.records n h)) (fields_sym (fields_after u a x w.sound.size g.actor g.target q n hn ne)))

  both : AgreeOn (setting x false C) (reclaimed t a x) (reclaimed u a x)
  both = record {
    records = λ n h. let k = left_in C x n h in fields_both n (born_low t n v.sound.size (v.born n k.0)) k.1 k.0;
    slots = λ n j hj h. reclaimed_slot t a x n j ∙ ap (unnamed x) (ag.slots n j hj (left_in C x n h).0) ∙ sym (reclaimed_slot u a x n j);
  }

  pub reclaim_both : AgreeOn (setting x false C) (effect t (reclaim a s)) (effect u (reclaim a s))
  unfolding effect
  reclaim_both = subst (λ (k : ℕ). AgreeOn (setting x false C) (reclaimed t a x) (reclaimed u a k)) reclaim_same both

  pub reclaim_right : Isolated (effect u (reclaim a s)) (setting x false C)
  reclaim_right = subst (λ (k : ℕ). Isolated (effect u (reclaim a s)) (setting k false C)) (sym reclaim_same) (reclaim_isolated u C w a s f)
