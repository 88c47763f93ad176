-- A step is a refusal and an effect; a run is a start table and a list of requests: "The first request gets the start table,
-- each later one the table that the one before it returned or left; a refused one leaves it as it was."
use Rattle.std.specs.Prelude.{true, false, List, [], ◌∷◌}
use Rattle.table.specs.declared.Table.{Table}
use Rattle.steps.specs.declared.Stepped.{Stepped}
use Rattle.requests.specs.Asks.{Ask}
use Rattle.refusals.specs.Replies.{Reply, is_done}
use Rattle.refusals.specs.Refusals.{refusal}
use Rattle.effects.specs.Effects.{effect}

-- the table after a request
unfoldable pub after : Table → Ask → Table
after tb q = elim (is_done (refusal tb q)) [ true ↦ effect tb q | false ↦ tb ]

-- what a step gives: the reply and the table
unfoldable pub step_of : Table → Ask → Stepped
step_of tb q = record { reply = refusal tb q; table = after tb q }

-- the last table of a run
unfoldable pub run_table : Table → List Ask → Table
run_table tb [] = tb
run_table tb (q ∷ qs) = run_table (after tb q) qs

-- the replies of a run, first to last
unfoldable pub run_replies : Table → List Ask → List Reply
run_replies tb [] = []
run_replies tb (q ∷ qs) = refusal tb q ∷ run_replies (after tb q) qs
