-- What a reclaim that is done leaves at each place: by the laws of its effect, and what its checks leave. Assumes nothing.
use mathlib.Core.Path.{◌≡◌, refl, sym, ◌∙◌, ap, subst}
use mathlib.Core.Logic.{◌≢◌}
use mathlib.Core.Bool.{true}
use Prim.Native.Nat.{ℕ, ◌<◌}
use Rattle.mask.specs.Sets.{including}
use Rattle.table.specs.declared.Record.{Record}
use Rattle.table.specs.declared.Table.{Table}
use Rattle.table.specs.Cells.{IsTable, no_maker, record_at, slot_at, maker_at, status_at, stock_at}
use Rattle.table.proofs.Cells.{table_sized}
use Rattle.table.proofs.SoundFacts.{sound_facts}
use Rattle.rights.specs.declared.Need.TheVariants.{Write}
use Rattle.requests.specs.Asks.{reclaim}
use Rattle.refusals.specs.Replies.{is_done}
use Rattle.refusals.specs.Refusals.{dead, target_of, refusal}
use Rattle.forgetting.specs.Forgetting.{unmade}
use Rattle.forgetting.proofs.Left.{unnamed_named, unnamed_other, left_named, left_other}
use Rattle.effects.specs.Effects.{with_stock, effect, reclaimed}
use Rattle.effects.proofs.Reclaims.{reclaimed_slot, reclaimed_unborn, reclaimed_actor, reclaimed_record}
use Rattle.steps.specs.Steps.{after}
use Rattle.steps.specs.Exactness.{Reclaimed, ReclaimDoes}
use Rattle.steps.proofs.Refused.{done_effects}
use Rattle.steps.proofs.Granted.{past_checks, Granted, reclaim_granted, reclaim_apart}

-- the effect, place by place
module _ (t : Table) (a s : ℕ) (z : IsTable t) (d : is_done (refusal t (reclaim a s)) ≡ true) where
  g : Granted t a s dead Write
  g = reclaim_granted t a s (sound_facts t (table_sized t z) (past_checks t (reclaim a s) d).whole) d

  abbrev y : ℕ
  y = target_of t a s

  abbrev u : Table
  u = reclaimed t a y

  -- a fact of the records of all but the number itself
  each : (P : ℕ → Record → Type 0) → P a (with_stock (unmade y (record_at t a)) (including y (stock_at t a)))
      → ((n : ℕ) → n < 64 → n ≢ a → P n (unmade y (record_at t n))) → (n : ℕ) → n < 64 → n ≢ y → P n (record_at u n)
  each P actor other n hn ne = reclaimed_record t a y (table_sized t z) g.actor g.target (reclaim_apart t a s g) (λ k r. k ≢ y → P k r)
      (λ w. absurd (w refl)) (λ w. actor) (λ k hk p q w. other k hk p) n hn ne

  left : Reclaimed t u a y
  left = record {
    unborn = reclaimed_unborn t a y (table_sized t z) g.actor g.target (reclaim_apart t a s g);
    stock = ap (λ (r : Record). r.stock) (reclaimed_actor t a y (table_sized t z) g.actor g.target (reclaim_apart t a s g));
    stocks = λ n hn ne na. each (λ k r. k ≢ a → r.stock ≡ stock_at t k) (λ w. absurd (w refl)) (λ k hk p w. refl) n hn ne na;
    named = λ n j e. reclaimed_slot t a y n j ∙ unnamed_named y (slot_at t n j) e;
    unnamed = λ n j e. reclaimed_slot t a y n j ∙ unnamed_other y (slot_at t n j) e;
    made = each (λ k r. maker_at t k ≡ y → r.maker ≡ no_maker) (left_named y (maker_at t a)) (λ k hk p. left_named y (maker_at t k));
    unmade = each (λ k r. maker_at t k ≢ y → r.maker ≡ maker_at t k) (left_other y (maker_at t a)) (λ k hk p. left_other y (maker_at t k));
    statuses = each (λ k r. r.status ≡ status_at t k) refl (λ k hk p. refl);
    kinds = each (λ k r. r.kind ≡ (record_at t k).kind) refl (λ k hk p. refl);
    words = each (λ k r. r.word ≡ (record_at t k).word) refl (λ k hk p. refl);
  }

  pub reclaim_left : Reclaimed t (after t (reclaim a s)) a y
  unfolding effect
  reclaim_left = subst (λ (v : Table). Reclaimed t v a y) (sym (done_effects t (reclaim a s) d)) left

pub reclaim_does : ReclaimDoes
unfolding ReclaimDoes
reclaim_does t q g z d =
    let e = rw d.asked at d.done in
    rw d.asked (subst (λ (x : ℕ). Reclaimed t (after t (reclaim d.actor d.through)) d.actor x) d.target (reclaim_left t d.actor d.through z e))
