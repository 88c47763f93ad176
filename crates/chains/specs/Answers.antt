-- What is answered for a table, members, a list and an object. "Turned away: after the test's own refusals, 18 if the number is above 63,
-- unborn or a member; 19 if it is outside the bound." On every refusal there is no number.
use Rattle.std.specs.Prelude.{Bool, true, false, ◌||◌, List, [], ℕ, ltb, Result, Ok, Err, ⊤}
use Rattle.std.specs.Result.{result_and}
use Rattle.mask.specs.Sets.{has}
use Rattle.table.specs.declared.Capability.{Capability}
use Rattle.table.specs.declared.Table.{Table}
use Rattle.table.specs.Cells.{record_at, is_unborn}
use Rattle.bounds.specs.StandIn.{stand_in, bound_of}
use Rattle.walks.specs.declared.Walked.{Walked}
use Rattle.walks.specs.Chains.{least_chain, walked}
use Rattle.confinement.specs.Refusals.{refusal_number, Verdict, verdict_of}
use Rattle.chains.specs.declared.ChainRefusal.{ChainRefusal}
use Rattle.chains.specs.declared.ChainRefusal.TheVariants.{TestRefused, ObjectInvalid, OutsideBound}
use Rattle.confinement.specs.Links.{object_link}

abbrev pub chain_refusal_number : ChainRefusal → ℕ
chain_refusal_number (TestRefused why) = refusal_number why
chain_refusal_number ObjectInvalid = 18
chain_refusal_number OutsideBound = 19

-- done, or why no chain is shown
abbrev pub ChainReply : Type 0
ChainReply = Result ⊤ ChainRefusal

abbrev pub Done : ChainReply
Done = Ok tt

-- 0 is done
abbrev pub chain_number : ChainReply → ℕ
chain_number (Ok _) = 0
chain_number (Err why) = chain_refusal_number why

-- row 18: "above 63, unborn or a member"; a dead object may have its chain
unfoldable pub bad_object : Table → ℕ → ℕ → Bool
bad_object t members object = ltb 63 object || is_unborn (record_at t object) || has object members

-- rows 18 and 19, for an accepted test
unfoldable pub object_reply : Table → ℕ → List Capability → ℕ → ChainReply
object_reply t members list object =
    elim (bad_object t members object) [
      | true ↦ Err ObjectInvalid
      | false ↦ elim (has object (bound_of t members list)) [ true ↦ Done | false ↦ Err OutsideBound ]
    ]

-- the test's own refusals first
abbrev pub after_test : Verdict → ChainReply → ChainReply
after_test (Ok _) rest = rest
after_test (Err why) rest = Err (TestRefused why)

-- the test's own refusals, 18, 19
unfoldable pub chain_reply : Table → ℕ → List Capability → ℕ → ChainReply
chain_reply t members list object = after_test (verdict_of t members list) (object_reply t members list object)

-- an answer with the numbers of a chain, if it is done
abbrev pub shown : ChainReply → Walked → Result Walked ChainRefusal
shown reply w = result_and reply (Ok w)

unfoldable pub chain_of : Table → ℕ → List Capability → ℕ → Result Walked ChainRefusal
chain_of t members list object = shown (chain_reply t members list object) (walked (least_chain (object_link t members list) (stand_in members) object))

-- the parts of an answer: on a refusal no number
abbrev pub reply_in : Result Walked ChainRefusal → ChainReply
reply_in (Ok w) = Done
reply_in (Err why) = Err why

abbrev pub walked_in : Result Walked ChainRefusal → Walked
walked_in (Ok w) = w
walked_in (Err why) = walked []
