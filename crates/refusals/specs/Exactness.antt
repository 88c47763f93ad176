-- What is claimed of a reclaim's reply, as a statement about two tables; proofs/Blind.antt proves it. Document 02, 2.8: "It must not depend on
-- who else holds such a capability, since the reply would tell the actor about them."
use Rattle.std.specs.Prelude.{◌≡◌, true, ℕ, ◌<◌}
use Rattle.table.specs.declared.Table.{Table}
use Rattle.table.specs.Cells.{record_at, slot_at}
use Rattle.table.specs.Soundness.{sound}
use Rattle.requests.specs.Asks.{reclaim}
use Rattle.refusals.specs.Refusals.{refusal, target_of, target_record}

-- two sound tables that agree on the actor's record and slots and on the target's record give the same reply
unfoldable pub ReclaimBlind : Type 0
ReclaimBlind = (tb ub : Table) (a t : ℕ) → sound tb ≡ true → sound ub ≡ true → record_at tb a ≡ record_at ub a
    → ((j : ℕ) → j < 8 → slot_at tb a j ≡ slot_at ub a j) → target_record tb a t ≡ record_at ub (target_of tb a t)
    → refusal tb (reclaim a t) ≡ refusal ub (reclaim a t)
