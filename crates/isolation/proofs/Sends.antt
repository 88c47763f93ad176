-- Send, answered 0: the word, the copied pairs and the reply slot keep the invariant; from an actor that is not clean they leave
-- every clean object as it was; from a clean actor they keep two agreeing tables in agreement. Assumes nothing.
use mathlib.Core.Path.{◌≡◌, refl, sym, ◌∙◌, ap}
use mathlib.Core.Bool.{true, false, ◌||◌}
use mathlib.Core.List.{List}
use Prim.Native.Nat.{ℕ}
use native.Mathlib.Omega.{arith}
use Rattle.mask.proofs.Tests.{clash}
use Rattle.table.specs.declared.Record.{Record}
use Rattle.table.specs.declared.Table.{Table}
use Rattle.table.specs.Cells.{record_at, slot_at, status_at, put_record}
use Rattle.table.proofs.Cells.{record-put, sized_put_record}
use Rattle.rights.specs.declared.Need.TheVariants.{Send}
use Rattle.requests.specs.declared.Pair.{Pair}
use Rattle.requests.specs.Asks.{send}
use Rattle.refusals.specs.Replies.{is_done}
use Rattle.refusals.specs.Refusals.{alive, no_object, no_slot, later_rows, refusal, target_of}
use Rattle.effects.specs.Effects.{with_word, sent, effect}
use Rattle.copies.specs.Copies.{copy_pairs}
use Rattle.isolation.specs.Clean.{Clean}
use Rattle.isolation.specs.Demand.{AgreeOn}
use Rattle.isolation.proofs.Invariant.{Isolated, put_record_isolated, fields_word, agree_record_out, agree_trans, agree_record}
use Rattle.copies.proofs.Pairs.{copies_record, copies_sized}
use Rattle.steps.proofs.Granted.{past_checks, Granted, granted, Ranged, ranged, send_list}
use Rattle.isolation.proofs.Sides.{clean_target, same_side, weak_no_send, fits_word}
use Rattle.isolation.proofs.Copies.{fits_moved, copies_isolated, copies_out, copies_both, answer_isolated, answer_out, answer_both}

module _ (t : Table) (C : Clean) (v : Isolated t C) (a s w : ℕ) (ps : List Pair) (y : ℕ) (e : is_done (refusal t (send a s w ps y)) ≡ true) where
  send_fields : ((no_object a || no_slot s) ≡ false) × Ranged ps
  send_fields = let q = send_list a s w ps y (past_checks t (send a s w ps y) e).fields in (q.0, ranged ps q.1)

  send_granted : Granted t a s alive Send
  unfolding later_rows
  send_granted = let r = past_checks t (send a s w ps y) e in (granted t a s alive Send _ v.sound send_fields.0 r.alive r.later).0

  worded : Table
  worded = put_record t (target_of t a s) (with_word (record_at t (target_of t a s)) w)

  worded_isolated : Isolated worded C
  unfolding worded
  worded_isolated = let g = send_granted in put_record_isolated t C _ _ v g.target (fits_word t _ w v.sound g.target g.there)

  worded_status : (m : ℕ) → status_at worded m ≡ status_at t m
  unfolding worded
  worded_status m = record-put (λ x. x.status ≡ status_at t m) t _ m _ v.sound.size send_granted.target (λ q. rw q refl) (λ q. refl)

  side : C (target_of t a s) ≡ C a
  side = same_side t C v a s Send send_granted weak_no_send

  copied_isolated : Isolated (copy_pairs worded (slot_at t a) (target_of t a s) ps) C
  unfolding worded
  copied_isolated = let g = send_granted in
      copies_isolated send_fields.1 worded C (slot_at t a) _ worded_isolated g.target (worded_status _ ∙ g.there)
      (λ i hi. fits_moved worded C worded_isolated a _ i hi (worded_status _ ∙ g.there) side)

  pub send_isolated : Isolated (effect t (send a s w ps y)) C
  unfolding effect sent worded
  send_isolated = let g = send_granted in
      answer_isolated _ C _ y a copied_isolated g.target (record {
        fine = record {
          blank = λ h. absurd (omega arith);
          held = λ h. ap (λ (r : Record). r.status) (copies_record worded (slot_at t a) _ ps _) ∙ worded_status _ ∙ g.there;
          named = λ h. omega (arith, ap (λ (r : Record). r.status) (copies_record worded (slot_at t a) (target_of t a s) ps a) ∙ worded_status a ∙ g.alive);
          high = omega arith;
        };
        in_clean = λ c h. sym side ∙ c;
        out_clean = λ c h k. clash k (sym side ∙ c);
      })

  pub send_out : C a ≡ false → AgreeOn C t (effect t (send a s w ps y))
  unfolding effect sent
  send_out c = let o = side ∙ c in
      agree_trans (agree_record_out C t _ o _) (agree_trans (copies_out send_fields.1 _ C _ _ o) (answer_out _ C _ y a o))

module _ (C : Clean) (t u : Table) (v : Isolated t C) (w : Isolated u C) (ag : AgreeOn C t u) where
  pub send_both : (a s x : ℕ) (ps : List Pair) (y : ℕ) → C a ≡ true → is_done (refusal t (send a s x ps y)) ≡ true
      → AgreeOn C (effect t (send a s x ps y)) (effect u (send a s x ps y))
  unfolding effect sent
  send_both a s x ps y c e =
      let g = send_granted t C v a s x ps y e in
      let r = (send_fields t C v a s x ps y e).1 in
      let o = clean_target t C v a s Send g c in
      let q = ag.records _ o in
      let zt = sized_put_record t _ _ v.sound.size in
      let zu = sized_put_record u _ _ w.sound.size in
      rw (← (ag.slots a s g.slot c), target_of) (answer_both _ _ C _ y a (copies_sized _ _ _ ps zt) (copies_sized _ _ _ ps zu)
      (copies_both r _ _ C _ _ _ zt zu (agree_record C t u v.sound.size w.sound.size ag _ g.target _ _ (fields_word _ _ q refl)) g.target o (λ i hi. ag.slots a i hi c)) g.target)
