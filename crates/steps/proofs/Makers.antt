-- An allocate writes its actor as the maker of the new object, a reclaim leaves 64 where its number was named, and no other request writes a
-- maker. By the cases of the request and the laws of its effect. Assumes nothing.
use mathlib.Core.Path.{◌≡◌, refl, sym, ◌∙◌, ap}
use mathlib.Core.Logic.{◌≢◌, ◌⊎◌, ⊎_elim, inl, inr}
use mathlib.Core.Bool.{true}
use Prim.Native.Nat.{ℕ}
use Rattle.mask.proofs.Tests.{by_cases, by_eq}
use Rattle.table.specs.declared.Table.{Table}
use Rattle.table.specs.Cells.{no_maker, record_at, maker_at}
use Rattle.table.proofs.Cells.{table_sized}
use Rattle.requests.specs.Asks.{Ask, read, write, fetch, store, revoke, send, allocate, destroy, reclaim, unknown}
use Rattle.refusals.specs.Replies.{is_done}
use Rattle.refusals.specs.Refusals.{refusal, target_of, target_record}
use Rattle.effects.specs.Effects.{with_word, effect}
use Rattle.effects.proofs.Makers.{same_maker, sent_maker, destroyed_maker, allocated_maker, allocated_made}
use Rattle.effects.proofs.Reclaims.{reclaimed_maker}
use Rattle.forgetting.proofs.Left.{left_elim}
use Rattle.steps.specs.Exactness.{AllocateDone, MakerWritten, MakerForgotten, OnlyAllocateOrReclaimWrites, NobodyStays}
use Rattle.steps.proofs.Refused.{refused_keeps, done_effects}
use Rattle.steps.proofs.Granted.{made_facts}

pub maker_written : MakerWritten
unfolding MakerWritten effect
maker_written t q n z b =
    let a = b.actor in
    let d = rw b.asked at b.done in
    rw b.asked (ap (λ (u : Table). maker_at u n) (done_effects t (allocate a n b.kind b.part b.slot b.list) d)
    ∙ allocated_made t a n b.kind b.part b.slot b.list (table_sized t z) (made_facts t b.list a n b.kind b.part b.slot d).number)

-- a request that is done, and whose effect is another maker of n
written : (t : Table) (q : Ask) (n : ℕ) → is_done (refusal t q) ≡ true → maker_at (effect t q) n ≢ maker_at t n → AllocateDone t q n ⊎ MakerForgotten t q n
unfolding effect
written t (read a s) n d h = absurd (h (same_maker t a n (with_word (record_at t a) _) refl))
written t (write a s w) n d h = absurd (h (same_maker t (target_of t a s) n (with_word (target_record t a s) w) refl))
written t (fetch a s i j) n d h = absurd (h refl)
written t (store a s i j) n d h = absurd (h refl)
written t (revoke a s j) n d h = absurd (h refl)
written t (send a s w l y) n d h = absurd (h (sent_maker t a (target_of t a s) w l y n))
written t (allocate a m k p i l) n d h = by_eq n m
    (λ e. inl (record { actor = a; kind = k; part = p; slot = i; list = l; asked = ap (λ (x : ℕ). allocate a x k p i l) (sym e); done = d }))
    (λ e. absurd (h (allocated_maker t a m k p i l n e)))
written t (destroy a s) n d h = absurd (h (destroyed_maker t a (target_of t a s) n))
written t (reclaim a s) n d h =
    let g = target_of t a s in
    let f = reclaimed_maker (λ m. m ≢ maker_at t n → ((n ≡ g) ⊎ (maker_at t n ≡ g)) × (m ≡ no_maker)) t a g n
    (λ w. absurd (w refl))
    (left_elim (λ m. m ≢ maker_at t n → ((n ≡ g) ⊎ (maker_at t n ≡ g)) × (m ≡ no_maker)) g (maker_at t n) (λ e w. (inr e, refl)) (λ e w. absurd (w refl)))
    (λ e w. (inl e, refl)) h in
    inr (record {
      number = g;
      by = record { actor = a; through = s; asked = refl; target = refl; done = d };
      named = f.0;
      nobody = ap (λ (u : Table). maker_at u n) (done_effects t (reclaim a s) d) ∙ f.1;
    })
written t (unknown c a) n d h = absurd (h refl)

pub only_allocate_or_reclaim_writes : OnlyAllocateOrReclaimWrites
unfolding OnlyAllocateOrReclaimWrites
only_allocate_or_reclaim_writes t q n h = by_cases (is_done (refusal t q))
    (λ d. written t q n d (rw (done_effects t q d) at h))
    (λ d. absurd (h (ap (λ (u : Table). maker_at u n) (refused_keeps t q d))))

pub nobody_stays : NobodyStays
unfolding NobodyStays OnlyAllocateOrReclaimWrites
nobody_stays t q n e h = ⊎_elim (λ a. a) (λ f. absurd (h f.nobody)) (only_allocate_or_reclaim_writes t q n (λ w. h (w ∙ e)))
