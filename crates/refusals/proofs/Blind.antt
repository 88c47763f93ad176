-- The reply to a reclaim does not depend on who else holds a capability over the number: the checks read the actor's record, its slot and the
-- target's record, and nothing else. Assumes nothing.
use mathlib.Core.Path.{◌≡◌, refl, ◌∙◌, ap, ap₂}
use mathlib.Core.Bool.{◌||◌}
use Prim.Native.Nat.{ℕ}
use Rattle.mask.proofs.Tests.{by_cases, or_none}
use Rattle.table.specs.declared.Capability.{Capability}
use Rattle.table.specs.declared.Record.{Record}
use Rattle.table.specs.declared.Table.{Table}
use Rattle.table.specs.Cells.{record_at, slot_at}
use Rattle.rights.specs.declared.Need.TheVariants.{Write}
use Rattle.rights.specs.Rows.{need_met}
use Rattle.requests.specs.Asks.{reclaim}
use Rattle.std.specs.Prelude.{Err}
use Rattle.refusals.specs.declared.Refusal.TheVariants.{ActorUnfit}
use Rattle.refusals.specs.Replies.{Reply, Done}
use Rattle.refusals.specs.Refusals.{refuse, no_slot, no_object, bad_field, unfit, dead, through, through_slot, target_of, target_record, later_rows, refusal}
use Rattle.refusals.specs.Exactness.{ReclaimBlind}
use Rattle.refusals.proofs.Rows.{slot_placed}

later_blind : (t u : Table) (a s : ℕ) → slot_at t a s ≡ slot_at u a s → target_record t a s ≡ record_at u (target_of t a s) → later_rows t (reclaim a s) ≡ later_rows u (reclaim a s)
unfolding later_rows through_slot
later_blind t u a s e f =
    let c = slot_at t a s in
    ap (λ (r : Record). through c r dead (need_met Write c.rights) Done) f
    ∙ ap (λ (k : Capability). through k (record_at u k.target) dead (need_met Write k.rights) Done) e

pub reclaim_blind : ReclaimBlind
unfolding ReclaimBlind refusal bad_field
reclaim_blind t u a s p q e f g = rw (p, q) (by_cases (no_object a || no_slot s)
    (λ h. rw h refl)
    (λ h. rw h (ap₂ (λ (r : Record) (z : Reply). refuse (unfit r) (Err ActorUnfit) z) e
    (later_blind t u a s (f s (slot_placed s (or_none (no_object a) (no_slot s) h).1)) g))))
