-- Demand 3 with document 01, "Two runs", as one statement about two whole lists of requests: two runs from tables that agree
-- outside an accepted set of members. Whatever everybody else asks, the clean objects, their records and the replies to their
-- requests are the same. The maker byte is compared as document 02, 2.8, has it.
use Rattle.std.specs.Prelude.{◌≡◌, true, false, List, ℕ, ◌<◌}
use Rattle.table.specs.declared.Capability.{Capability}
use Rattle.table.specs.declared.Record.{Record}
use Rattle.table.specs.declared.Table.{Table}
use Rattle.table.specs.Cells.{IsTable, record_at, slot_at, maker_at}
use Rattle.bounds.specs.StandIn.{bound_of}
use Rattle.confinement.specs.Refusals.{verdict_of, verdict_number}
use Rattle.confinement.specs.Rounds.{rounds_of}
use Rattle.bounds.specs.Agreement.{AgreeOutside}
use Rattle.requests.specs.Asks.{Ask}
use Rattle.steps.specs.Steps.{run_table}
use Rattle.steps.specs.Exactness.{AllocateDone, ReclaimDone}
use Rattle.isolation.specs.Clean.{Clean, clean_at_start, clean_after, clean_at_end, clean_requests, clean_replies, compared_at_start, compared_at_end}

-- "The same record means that every field and every slot is equal": the two tables agree on the objects of C; the maker, of which not all
-- bytes are compared, stands by itself
pub record SameFields (r s : Record) : Type 0 where
  pub status : r.status ≡ s.status
  pub kind : r.kind ≡ s.kind
  pub word : r.word ≡ s.word
  pub stock : r.stock ≡ s.stock

pub record AgreeOn (C : Clean) (t u : Table) : Type 0 where
  pub records : (n : ℕ) → C n ≡ true → SameFields (record_at t n) (record_at u n)
  pub slots : (n j : ℕ) → j < 8 → C n ≡ true → slot_at t n j ≡ slot_at u n j

-- and on the makers of those that are in B too
unfoldable pub MakersAgree : Clean → Clean → Table → Table → Type 0
MakersAgree C B t u = (n : ℕ) → C n ≡ true → B n ≡ true → maker_at t n ≡ maker_at u n

-- what two runs share, that start with the clean objects C and D
pub record Alike (t u : Table) (C D : Clean) (ps qs : List Ask) : Type 0 where
  pub clean : (n : ℕ) → clean_at_end t C ps n ≡ clean_at_end u D qs n
  pub cells : AgreeOn (clean_at_end t C ps) (run_table t ps) (run_table u qs)
  pub makers : MakersAgree (clean_at_end t C ps) (compared_at_end t C (compared_at_start t C) ps) (run_table t ps) (run_table u qs)
  pub replies : clean_replies t C ps ≡ clean_replies u D qs

-- two tables that agree on every non-member; the same members and list, accepted in both. `IsTable` says no more than that the
-- two are values of the table type
pub record BothAccepted (t u : Table) (members : ℕ) (list : List Capability) : Type 0 where
  pub left : IsTable t
  pub right : IsTable u
  pub accepted_left : verdict_number (verdict_of t members list) ≡ 0
  pub accepted_right : verdict_number (verdict_of u members list) ≡ 0
  pub agree : AgreeOutside members t u

-- what the claim says of two such tables: the same bound, in as many rounds, and of any two runs that ask the same of clean objects
pub record Same (t u : Table) (members : ℕ) (list : List Capability) : Type 0 where
  pub bound : bound_of t members list ≡ bound_of u members list
  pub rounds : rounds_of t members list ≡ rounds_of u members list
  pub runs : (ps qs : List Ask)
      → clean_requests t (clean_at_start t members list) ps ≡ clean_requests u (clean_at_start u members list) qs
      → Alike t u (clean_at_start t members list) (clean_at_start u members list) ps qs

-- demand 3
unfoldable pub TwoRuns : Type 0
TwoRuns = (t u : Table) (members : ℕ) (list : List Capability) → BothAccepted t u members list → Same t u members list

-- Why a byte is left out (document 02, 2.8): others may reclaim its maker in one run and not in the other. So the claim of 2.7, that the makers
-- of all clean objects are the same at the end of two such runs, does not hold any more
unfoldable pub AllMakersSame : Type 0
AllMakersSame = (t u : Table) (members : ℕ) (list : List Capability) → BothAccepted t u members list → (ps qs : List Ask)
    → clean_requests t (clean_at_start t members list) ps ≡ clean_requests u (clean_at_start u members list) qs
    → (n : ℕ) → clean_at_end t (clean_at_start t members list) ps n ≡ true → maker_at (run_table t ps) n ≡ maker_at (run_table u qs) n

unfoldable pub ExceptionNeeded : Type 0
ExceptionNeeded = AllMakersSame → ⊥

-- "Clean now goes by the object's latest making", of each request by itself: an allocate that is done decides by its actor, a reclaim that is
-- done leaves nobody, and who was neither made nor reclaimed is as before
pub record ByLatestMaking (t : Table) (C : Clean) (q : Ask) : Type 0 where
  pub made : (n : ℕ) (d : AllocateDone t q n) → clean_after t C q n ≡ C d.actor
  pub reclaimed : (n : ℕ) → ReclaimDone t q n → clean_after t C q n ≡ false
  pub others : (n : ℕ) → (AllocateDone t q n → ⊥) → (ReclaimDone t q n → ⊥) → clean_after t C q n ≡ C n

unfoldable pub LatestMaking : Type 0
LatestMaking = (t : Table) (C : Clean) (q : Ask) → ByLatestMaking t C q
