-- What the test answers: "Accepted, the test returns the bound", and with it the number of rounds (document 02, 2.6), or why it was
-- refused; on a refusal the bound is empty and the number 0.
use Rattle.std.specs.Prelude.{Bool, List, ℕ, eqb, Result, Ok, Err}
use Rattle.std.specs.Result.{result_and}
use Rattle.table.specs.declared.Capability.{Capability}
use Rattle.table.specs.declared.Table.{Table}
use Rattle.bounds.specs.declared.Grown.{Grown}
use Rattle.bounds.specs.StandIn.{bound_of}
use Rattle.confinement.specs.declared.TestRefusal.{TestRefusal}
use Rattle.confinement.specs.Refusals.{Verdict, Accepted, verdict_of, verdict_number}
use Rattle.confinement.specs.Rounds.{rounds_of}

abbrev pub is_accepted : Verdict → Bool
is_accepted v = eqb (verdict_number v) 0

-- what is found where no row turns the test down
abbrev pub grown_of : Table → ℕ → List Capability → Grown
grown_of t members list = record { bound = bound_of t members list; rounds = rounds_of t members list }

unfoldable pub test_of : Table → ℕ → List Capability → Result Grown TestRefusal
test_of t members list = result_and (verdict_of t members list) (Ok (grown_of t members list))

-- the parts of an answer: on a refusal an empty bound and no round
abbrev pub verdict_in : Result Grown TestRefusal → Verdict
verdict_in (Ok found) = Accepted
verdict_in (Err why) = Err why

abbrev pub bound_in : Result Grown TestRefusal → ℕ
bound_in (Ok found) = found.bound
bound_in (Err why) = 0

abbrev pub rounds_in : Result Grown TestRefusal → ℕ
rounds_in (Ok found) = found.rounds
rounds_in (Err why) = 0
