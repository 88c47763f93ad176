-- Read, write, fetch, store and revoke, answered 0: each keeps the invariant; from an actor that is not clean it leaves every
-- clean object as it was; from a clean actor it keeps two agreeing tables in agreement. Assumes nothing.
use mathlib.Core.Path.{◌≡◌, refl, ap, ◌∙◌}
use mathlib.Core.Bool.{true, false, ◌||◌}
use Prim.Native.Nat.{ℕ, ◌<◌}
use native.Mathlib.Omega.{arith}
use Rattle.mask.proofs.Tests.{by_cases, clash, or_none}
use Rattle.table.specs.declared.Capability.{Capability}
use Rattle.table.specs.declared.Table.{Table}
use Rattle.table.specs.Cells.{record_at, slot_at, has_rd}
use Rattle.table.proofs.Cells.{Sized}
use Rattle.rights.specs.declared.Need.TheVariants.{ReadOrWeak, Write}
use Rattle.refusals.specs.Replies.{Done, is_done}
use Rattle.requests.specs.Asks.{read, write, fetch, store, revoke}
use Rattle.refusals.specs.Refusals.{no_object, no_slot, bad_field, alive, later_rows, refusal, target_of, rights_of}
use Rattle.effects.specs.Effects.{effect}
use Rattle.copies.specs.Copies.{fetched}
use Rattle.copies.proofs.Fetches.{fetched_elim}
use Rattle.isolation.specs.Clean.{Clean}
use Rattle.isolation.specs.Demand.{AgreeOn}
use Rattle.isolation.proofs.Invariant.{Isolated, SlotFits, put_slot_isolated, put_record_isolated, fields_word, agree_record_out, agree_slot_out, agree_record, agree_slot}
use Rattle.refusals.proofs.Rows.{slot_placed}
use Rattle.steps.proofs.Granted.{past_checks, Granted, granted, revoke_slot}
use Rattle.isolation.proofs.Sides.{clean_target, dirty_target, same_side, weak_no_write, fits_word}
use Rattle.isolation.proofs.Copies.{fits_empty, fits_moved, copy_isolated, copy_out, copy_both}

-- a slot request with two more slots, i and j
two_slots : (a s i j : ℕ) → (no_object a || no_slot s || no_slot i || no_slot j) ≡ false → ((no_object a || no_slot s) ≡ false) × (i < 8) × (j < 8)
two_slots a s i j e =
    let p = or_none (no_object a || no_slot s || no_slot i) (no_slot j) e in
    let q = or_none (no_object a || no_slot s) (no_slot i) p.0 in
    (q.0, slot_placed i q.1, slot_placed j p.1)

-- read ----------------------------------------------------------------------------
module _ (t : Table) (C : Clean) (v : Isolated t C) (a s : ℕ) (e : is_done (refusal t (read a s)) ≡ true) where
  read_granted : Granted t a s alive ReadOrWeak
  unfolding bad_field later_rows
  read_granted = let r = past_checks t (read a s) e in (granted t a s alive ReadOrWeak Done v.sound r.fields r.alive r.later).0

  pub read_isolated : Isolated (effect t (read a s)) C
  unfolding effect
  read_isolated = put_record_isolated t C a _ v read_granted.actor (fits_word t a _ v.sound read_granted.actor read_granted.alive)

  pub read_out : C a ≡ false → AgreeOn C t (effect t (read a s))
  unfolding effect
  read_out out = agree_record_out C t a out _

-- write ---------------------------------------------------------------------------
module _ (t : Table) (C : Clean) (v : Isolated t C) (a s w : ℕ) (e : is_done (refusal t (write a s w)) ≡ true) where
  write_granted : Granted t a s alive Write
  unfolding bad_field later_rows
  write_granted = let r = past_checks t (write a s w) e in (granted t a s alive Write Done v.sound r.fields r.alive r.later).0

  pub write_isolated : Isolated (effect t (write a s w)) C
  unfolding effect
  write_isolated = put_record_isolated t C _ _ v write_granted.target (fits_word t _ _ v.sound write_granted.target write_granted.there)

  pub write_out : C a ≡ false → AgreeOn C t (effect t (write a s w))
  unfolding effect
  write_out out = agree_record_out C t _ (dirty_target t C v a s Write write_granted weak_no_write out) _

-- fetch ---------------------------------------------------------------------------
module _ (t : Table) (C : Clean) (v : Isolated t C) (a s i j : ℕ) (e : is_done (refusal t (fetch a s i j)) ≡ true) where
  fetch_fields : ((no_object a || no_slot s) ≡ false) × (i < 8) × (j < 8)
  unfolding bad_field
  fetch_fields = two_slots a s i j (past_checks t (fetch a s i j) e).fields

  fetch_granted : Granted t a s alive ReadOrWeak
  unfolding later_rows
  fetch_granted = let r = past_checks t (fetch a s i j) e in (granted t a s alive ReadOrWeak Done v.sound fetch_fields.0 r.alive r.later).0

  -- through wk alone nothing but wk comes out, and what an outsider reads through is not clean unless it is through wk alone
  fetch_fits : SlotFits t C a (fetched (rights_of t a s) (slot_at t (target_of t a s) i))
  fetch_fits =
      let g = fetch_granted in
      let hi = fetch_fields.1 in
      let y = target_of t a s in
      let c = slot_at t y i in
      let f = v.sound.slots y i hi in
      fetched_elim (SlotFits t C a) (rights_of t a s) c
      (λ q. record {
        fine = record { blank = f.blank; held = λ h. g.alive; named = f.named; high = f.high };
        in_clean = λ o h. v.inside y i hi (v.inside a s g.slot o g.filled) h;
        out_clean = λ o h k. by_cases (C y)
            (λ w. clash q (ap has_rd (v.outside a s g.slot o g.filled w)))
            (λ w. v.outside y i hi w h k);
      })
      (λ q p. record {
        fine = record { blank = λ h. absurd (omega arith); held = λ h. g.alive; named = λ h. f.named p; high = omega arith };
        in_clean = λ o h. v.inside y i hi (v.inside a s g.slot o g.filled) p;
        out_clean = λ o h k. refl;
      })
      (fits_empty t C a)

  pub fetch_isolated : Isolated (effect t (fetch a s i j)) C
  unfolding effect
  fetch_isolated = copy_isolated t C a j _ v fetch_granted.actor fetch_fields.2 fetch_granted.alive fetch_fits

  pub fetch_out : C a ≡ false → AgreeOn C t (effect t (fetch a s i j))
  unfolding effect
  fetch_out out = copy_out t C a j _ out fetch_fields.2

-- store ---------------------------------------------------------------------------
module _ (t : Table) (C : Clean) (v : Isolated t C) (a s i j : ℕ) (e : is_done (refusal t (store a s i j)) ≡ true) where
  store_fields : ((no_object a || no_slot s) ≡ false) × (i < 8) × (j < 8)
  unfolding bad_field
  store_fields = two_slots a s i j (past_checks t (store a s i j) e).fields

  store_granted : Granted t a s alive Write
  unfolding later_rows
  store_granted = let r = past_checks t (store a s i j) e in (granted t a s alive Write Done v.sound store_fields.0 r.alive r.later).0

  pub store_isolated : Isolated (effect t (store a s i j)) C
  unfolding effect
  store_isolated = let g = store_granted in copy_isolated t C _ j _ v g.target store_fields.2 g.there
      (fits_moved t C v a _ i store_fields.1 g.there (same_side t C v a s Write g weak_no_write))

  pub store_out : C a ≡ false → AgreeOn C t (effect t (store a s i j))
  unfolding effect
  store_out c = copy_out t C _ j _ (dirty_target t C v a s Write store_granted weak_no_write c) store_fields.2

-- revoke --------------------------------------------------------------------------
module _ (t : Table) (C : Clean) (v : Isolated t C) (a s j : ℕ) (e : is_done (refusal t (revoke a s j)) ≡ true) where
  revoke_fields : ((no_object a || no_slot s) ≡ false) × (j < 8)
  revoke_fields = revoke_slot a s j (past_checks t (revoke a s j) e).fields

  revoke_granted : Granted t a s alive Write
  unfolding later_rows
  revoke_granted = let r = past_checks t (revoke a s j) e in (granted t a s alive Write Done v.sound revoke_fields.0 r.alive r.later).0

  pub revoke_isolated : Isolated (effect t (revoke a s j)) C
  unfolding effect
  revoke_isolated = put_slot_isolated t C _ j _ v revoke_granted.target revoke_fields.1 (fits_empty t C _)

  pub revoke_out : C a ≡ false → AgreeOn C t (effect t (revoke a s j))
  unfolding effect
  revoke_out c = agree_slot_out C t _ (dirty_target t C v a s Write revoke_granted weak_no_write c) j _ revoke_fields.1

-- from a clean actor, in two tables -------------------------------------------------------
module _ (C : Clean) (t u : Table) (v : Isolated t C) (w : Isolated u C) (ag : AgreeOn C t u) where
  zt : Sized t
  zt = v.sound.size

  zu : Sized u
  zu = w.sound.size

  pub read_both : (a s : ℕ) → C a ≡ true → is_done (refusal t (read a s)) ≡ true → AgreeOn C (effect t (read a s)) (effect u (read a s))
  unfolding effect
  read_both a s c e =
      let g = read_granted t C v a s e in
      let p = ag.slots a s g.slot c in
      let q = ag.records _ (clean_target t C v a s ReadOrWeak g c) in
      agree_record C t u zt zu ag a g.actor _ _ (fields_word _ _ (ag.records a c) (q.word ∙ ap (λ (k : Capability). (record_at u k.target).word) p))

  pub write_both : (a s x : ℕ) → C a ≡ true → is_done (refusal t (write a s x)) ≡ true → AgreeOn C (effect t (write a s x)) (effect u (write a s x))
  unfolding effect
  write_both a s x c e =
      let g = write_granted t C v a s x e in
      let p = ag.slots a s g.slot c in
      let q = ag.records _ (clean_target t C v a s Write g c) in
      rw (← p, target_of) (agree_record C t u zt zu ag _ g.target _ _ (fields_word _ _ q refl))

  pub fetch_both : (a s i j : ℕ) → C a ≡ true → is_done (refusal t (fetch a s i j)) ≡ true → AgreeOn C (effect t (fetch a s i j)) (effect u (fetch a s i j))
  unfolding effect
  fetch_both a s i j c e =
      let g = fetch_granted t C v a s i j e in
      let f = fetch_fields t C v a s i j e in
      let p = ag.slots a s g.slot c in
      let q = ag.slots _ i f.1 (clean_target t C v a s ReadOrWeak g c) in
      copy_both t u C a j _ _ zt zu ag g.actor f.2 c (cc (p, q))

  pub store_both : (a s i j : ℕ) → C a ≡ true → is_done (refusal t (store a s i j)) ≡ true → AgreeOn C (effect t (store a s i j)) (effect u (store a s i j))
  unfolding effect
  store_both a s i j c e =
      let g = store_granted t C v a s i j e in
      let f = store_fields t C v a s i j e in
      rw (← (ag.slots a s g.slot c), target_of)
      (copy_both t u C _ j _ _ zt zu ag g.target f.2 (clean_target t C v a s Write g c) (ag.slots a i f.1 c))

  pub revoke_both : (a s j : ℕ) → C a ≡ true → is_done (refusal t (revoke a s j)) ≡ true → AgreeOn C (effect t (revoke a s j)) (effect u (revoke a s j))
  unfolding effect
  revoke_both a s j c e =
      let g = revoke_granted t C v a s j e in
      rw (← (ag.slots a s g.slot c), target_of) (agree_slot C t u zt zu ag _ g.target j _ _ (revoke_fields t C v a s j e).1 refl)
