-- What each slot holds after a send and after an allocate that are done: the last pair to it that is not empty, or what was there; of a
-- send the reply slot on top. By the law of pairs, that of a put, and what the checks leave. Assumes nothing.
use mathlib.Core.Path.{◌≡◌, refl, sym, ◌∙◌, ap}
use mathlib.Core.Bool.{true, false}
use mathlib.Core.List.{List}
use Prim.Native.Nat.{ℕ, ◌<◌}
use native.Mathlib.Omega.{arith}
use lib.Dec.{ltb, eqb}
use borrow.Author.Tests.{ltb-true, lt-ltb, eq-eqb, ne_eqb}
use Rattle.mask.proofs.Tests.{by_cases, by_eq}
use Rattle.table.specs.declared.Capability.{Capability}
use Rattle.table.specs.declared.Table.{Table}
use Rattle.table.specs.Cells.{IsTable, empty_slot, record_at, slot_at, status_at, stock_at, put_record}
use Rattle.table.proofs.Cells.{Sized, table_sized, sized_put_record, slot_same, slot_other, slot_beside}
use Rattle.table.proofs.SoundFacts.{Sound, sound_facts, bare_slot}
use Rattle.rights.specs.declared.Need.TheVariants.{Send}
use Rattle.requests.specs.declared.Pair.{Pair}
use Rattle.requests.specs.Asks.{Ask, send, allocate}
use Rattle.refusals.specs.Replies.{is_done}
use Rattle.refusals.specs.Refusals.{alive, later_rows, refusal, target_of}
use Rattle.copies.specs.Copies.{copy_pairs}
use Rattle.copies.specs.Exactness.{last_filled}
use Rattle.copies.proofs.Pairs.{copies_sized, wins}
use Rattle.effects.specs.Effects.{answer_slot, with_word, with_stock, made, full_over, stock_less, sent, allocated, effect}
use Rattle.steps.specs.Exactness.{SentSlots, MadeSlots}
use Rattle.steps.proofs.Refused.{done_effects}
use Rattle.steps.proofs.Granted.{past_checks, granted, list_in_lem, send_list, made_facts}

-- the facts of a sound table, of one where a request was done
sound_done : (t : Table) (q : Ask) → IsTable t → is_done (refusal t q) ≡ true → Sound t
sound_done t q it d = sound_facts t (table_sized t it) (past_checks t q d).whole

-- the reply slot on top
answered : (u : Table) (n y a j : ℕ) → Sized u → n < 64 → j < 8
    → slot_at (answer_slot u n y a) n j ≡ elim (eqb y j) [ true ↦ record { target = a; rights = 8 } | false ↦ slot_at u n j ]
unfolding answer_slot
answered u n y a j z hn hj = by_eq y j
    (λ e. let hy : y < 8 = omega arith in rw (eq-eqb y j e, lt-ltb y 8 hy, answer_slot, ← e) (slot_same u n y _ z hn hy))
    (λ e. rw (ne_eqb y j e) (by_cases (ltb y 8)
    (λ h. rw (h, answer_slot) (slot_beside u n y n j _ (λ q. e (sym q)) (ltb-true y 8 h) hj))
    (λ h. rw (h, answer_slot) refl)))

module _ (t : Table) (a s w : ℕ) (list : List Pair) (y j : ℕ) (it : IsTable t) (hj : j < 8) (d : is_done (refusal t (send a s w list y)) ≡ true) where
  sent_held : slot_at (effect t (send a s w list y)) (target_of t a s) j
      ≡ elim (eqb y j) [ true ↦ record { target = a; rights = 8 } | false ↦ last_filled (slot_at t a) j (slot_at t (target_of t a s) j) list ]
  unfolding effect sent later_rows
  sent_held =
      let r = past_checks t (send a s w list y) d in
      let q = send_list a s w list y r.fields in
      let f = sound_done t (send a s w list y) it d in
      let x = target_of t a s in
      let g = (granted t a s alive Send _ f q.0 r.alive r.later).0 in
      let v = put_record t x (with_word (record_at t x) w) in
      let z = sized_put_record t x (with_word (record_at t x) w) f.size in
      answered (copy_pairs v (slot_at t a) x list) x y a j (copies_sized v (slot_at t a) x list z) g.target hj
      ∙ ap (λ (c : Capability). elim (eqb y j) [ true ↦ record { target = a; rights = 8 } | false ↦ c ])
      (wins (slot_at t a) x j g.target hj v list z (list_in_lem list q.1).1)

pub sent_slots : SentSlots
unfolding SentSlots
sent_slots t a s w list y j it hj d =
    ap (λ (v : Table). slot_at v (target_of t a s) j) (done_effects t (send a s w list y) d) ∙ sent_held t a s w list y j it hj d

module _ (t : Table) (a n k p i : ℕ) (list : List Pair) (j : ℕ) (it : IsTable t) (hj : j < 8) (d : is_done (refusal t (allocate a n k p i list)) ≡ true) where
  made_held : slot_at (effect t (allocate a n k p i list)) n j ≡ last_filled (slot_at t a) j empty_slot list
  unfolding effect allocated
  made_held =
      let g = made_facts t list a n k p i d in
      let f = sound_done t (allocate a n k p i list) it d in
      let unborn : status_at t n ≡ 0 = f.stocks a n g.number g.share.held in
      let less = with_stock (record_at t a) (stock_less n p (stock_at t a)) in
      let v = put_record (put_record t a less) n (made a k p) in
      let z = sized_put_record (put_record t a less) n (made a k p) (sized_put_record t a less f.size) in
      slot_other (copy_pairs v (slot_at t a) n list) a i n j (full_over n) g.slot hj (λ e. absurd (omega (arith, unborn, rw (← e) at g.alive)))
      ∙ wins (slot_at t a) n j g.number hj v list z (list_in_lem list g.list).1
      ∙ ap (λ (c : Capability). last_filled (slot_at t a) j c list) (bare_slot t n f unborn j hj)

pub made_slots : MadeSlots
unfolding MadeSlots
made_slots t a n k p i list j it hj d = ap (λ (v : Table). slot_at v n j) (done_effects t (allocate a n k p i list) d) ∙ made_held t a n k p i list j it hj d
