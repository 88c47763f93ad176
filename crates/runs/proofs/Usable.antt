-- A table that was brought in can be tested, stepped and stored, `import_usable`: it is sound and a table value, nobody in it was made in a run,
-- and then no check gives 1 and its image reads back in either version. Assumes nothing.
use mathlib.Core.Path.{◌≡◌, refl, ap, subst}
use mathlib.Core.Logic.{◌≢◌}
use mathlib.Core.Bool.{true}
use mathlib.Core.List.{List}
use Prim.Native.Nat.{ℕ}
use native.Mathlib.Omega.{arith}
use Rattle.mask.specs.Sets.{has}
use Rattle.mask.proofs.Tests.{by_cases}
use Rattle.table.specs.declared.Capability.{Capability}
use Rattle.table.specs.declared.Table.{Table}
use Rattle.table.specs.Cells.{IsTable}
use Rattle.table.specs.Soundness.{sound}
use Rattle.steps.specs.Steps.{step_of}
use Rattle.access.specs.Answers.{access_of}
use Rattle.bounds.specs.StandIn.{bound_of}
use Rattle.std.specs.Prelude.{Ok, Err}
use Rattle.confinement.specs.Refusals.{Verdict, verdict_number, verdict_of}
use Rattle.confinement.proofs.Verdicts.{verdict_never_one, test_never_one}
use Rattle.walks.specs.declared.Walked.{Walked}
use Rattle.chains.specs.Answers.{ChainReply, chain_number, bad_object, object_reply, after_test, chain_reply, shown, chain_of, reply_in}
use Rattle.image_out.proofs.Left.{write_done}
use Rattle.image_out.specs.Exactness.{Unmade}
use Rattle.image_out.proofs.RoundTrip.{reads_back, unmade_kept}
use Rattle.isolation.proofs.RunSound.{sound_never_one}
use Rattle.wire.specs.Wires.{ask_from}
use Rattle.entries.specs.Entries.{entries_in}
use Rattle.take_grant.specs.Imports.{import_of, table_after}
use Rattle.take_grant.specs.Exactness.{NobodyMade}
use Rattle.take_grant.proofs.Claims.{import_is_table, import_is_sound, nobody_made_any}
use Rattle.captable.specs.Crossing.{loaded, written_number}
use Rattle.captable.proofs.Tables.{table_imported}
use Rattle.runs.specs.Usable.{Usable, ImportUsable}

-- a chain: the test's own numbers, 18, 19
module _ (t : Table) (e : sound t ≡ true) (members : ℕ) (list : List Capability) (object : ℕ) where
  object_not : chain_number (object_reply t members list object) ≢ 1
  unfolding object_reply
  object_not = by_cases (bad_object t members object)
      (λ a. rw (a, object_reply) (λ z. omega arith))
      (λ a. by_cases (has object (bound_of t members list)) (λ b. rw (a, b, object_reply) (λ z. omega arith)) (λ b. rw (a, b, object_reply) (λ z. omega arith)))

  after_not : (v : Verdict) → verdict_number v ≢ 1 → chain_number (after_test v (object_reply t members list object)) ≢ 1
  after_not (Ok _) n = object_not
  after_not (Err why) n = n

  reply_not : chain_number (chain_reply t members list object) ≢ 1
  unfolding chain_reply
  reply_not = after_not (verdict_of t members list) (verdict_never_one t e members list)

  shown_not : (w : Walked) (r : ChainReply) → chain_number r ≢ 1 → chain_number (reply_in (shown r w)) ≢ 1
  shown_not w (Ok _) n = n
  shown_not w (Err why) n = n

  chain_not : chain_number (reply_in (chain_of t members list object)) ≢ 1
  unfolding chain_of
  chain_not = shown_not _ (chain_reply t members list object) reply_not

usable : (t : Table) → IsTable t → sound t ≡ true → Unmade t → Usable t
unfolding step_of access_of
usable t z e u = record {
  sound = rw e refl;
  tested = λ members list. test_never_one t e members (entries_in list);
  shown = λ members list object. chain_not t e members (entries_in list) object;
  related = rw (e, access_of) refl;
  asked = λ request. sound_never_one t (ask_from request) e;
  written = λ v buffer h. ap written_number (write_done v t buffer e (unmade_kept v t u) h);
  read_back = λ v buffer h. ap loaded (reads_back v t z (unmade_kept v t u) e buffer h);
}

pub import_usable : ImportUsable
unfolding ImportUsable NobodyMade
import_usable bytes = subst Usable (table_imported (import_of bytes)) (usable (table_after (import_of bytes)) (import_is_table bytes) (import_is_sound bytes) (nobody_made_any bytes))
