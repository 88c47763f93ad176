-- What document 02, 2.3 and 2.6 claim of the test, as statements; proofs/Claims.antt proves those of 2.3, proofs/Reported.antt those of 2.6
-- and proofs/Rounds.antt the last. What 2.3 claims of the bound is WeakEntriesFree and BoundBlind of `bounds`; that the rounds are the most
-- links of any chain is MostLinks of `chains`.
use Rattle.std.specs.Prelude.{◌≡◌, ◌≢◌, ◌↔◌, ◌⊎◌, Bool, true, false, ◌||◌, List, ℕ, suc, ◌≤◌, ◌<◌, eqb}
use Rattle.mask.specs.Sets.{has}
use Rattle.table.specs.declared.Capability.{Capability}
use Rattle.table.specs.declared.Table.{Table}
use Rattle.table.specs.Cells.{record_at, slot_at, is_empty, IsTable}
use Rattle.table.specs.Soundness.{sound}
use Rattle.relation.specs.Relation.{Right, bit_at, takes_part}
use Rattle.bounds.specs.StandIn.{listed}
use Rattle.bounds.specs.Agreement.{AgreeOutside}
use Rattle.bounds.specs.Exactness.{WithWeak}
use Rattle.confinement.specs.Refusals.{verdict_number, bad_entry, bad_list, passes, verdict_of}
use Rattle.confinement.specs.Rounds.{objects_after, rounds_of}
use Rattle.confinement.specs.Tests.{test_of, bound_in, rounds_in}

-- 2.3 ------------------------------------------------------------------------------------------
-- "a member's capability whose rights are exactly wk passes the test unlisted": whatever the list has
unfoldable pub WeakPasses : Type 0
WeakPasses = (list : List Capability) (c : Capability) → c.rights ≡ 4 → passes list c ≡ true

-- and of the test itself: two tables, both sound or neither, that differ in nothing but members' slots that are empty or hold
-- exactly wk get the same answer
abbrev pub empty_or_weak : Capability → Bool
empty_or_weak c = is_empty c || eqb c.rights 4

pub record AlikeButWeak (members : ℕ) (t u : Table) : Type 0 where
  pub records : (n : ℕ) → n < 64 → record_at t n ≡ record_at u n
  pub others : (n j : ℕ) → n < 64 → j < 8 → has n members ≡ false → slot_at t n j ≡ slot_at u n j
  pub own : (n j : ℕ) → n < 64 → j < 8 → has n members ≡ true
      → (slot_at t n j ≡ slot_at u n j) ⊎ ((empty_or_weak (slot_at t n j) ≡ true) × (empty_or_weak (slot_at u n j) ≡ true))

unfoldable pub WeakNoMatter : Type 0
WeakNoMatter = (t u : Table) (members : ℕ) (list : List Capability) → sound t ≡ sound u → AlikeButWeak members t u → test_of t members list ≡ test_of u members list

-- any other passes exactly if each of its rights, a wk among them, is listed for its target
unfoldable pub OthersListed : Type 0
OthersListed = (list : List Capability) (c : Capability) → c.rights ≢ 4
    → (passes list c ≡ true) ↔ ((b : Right) → has (bit_at b) c.rights ≡ true → listed list b c.target ≡ true)

-- an entry of wk alone for a born non-member is as good as it was
unfoldable pub WeakLegal : Type 0
WeakLegal = (t : Table) (members : ℕ) (e : Capability) → e.rights ≡ 4 → takes_part t e.target ≡ true → has e.target members ≡ false
    → bad_entry t members e ≡ false

-- and changes no answer of an accepted test: the same verdict, bound and rounds, as long as row 11 lets the longer list pass
unfoldable pub WeakChangesNothing : Type 0
WeakChangesNothing = (t : Table) (members : ℕ) (list longer : List Capability) → verdict_number (verdict_of t members list) ≡ 0
    → WithWeak list longer → bad_list t members longer ≡ false → test_of t members longer ≡ test_of t members list

-- 2.6 ------------------------------------------------------------------------------------------
-- a test that is accepted, of a table value
pub record Accepts (t : Table) (members : ℕ) (list : List Capability) : Type 0 where
  pub table : IsTable t
  pub accepted : verdict_number (verdict_of t members list) ≡ 0

-- "the number of rounds that added an object": round k + 1 adds one exactly if k is below the number
unfoldable pub RoundsCounted : Type 0
RoundsCounted = (t : Table) (members : ℕ) (list : List Capability) → Accepts t members list
    → (k : ℕ) → (k < rounds_in (test_of t members list)) ↔ (objects_after t members list (suc k) ≢ objects_after t members list k)

-- what is there after the last of them is the bound
unfoldable pub LastIsBound : Type 0
LastIsBound = (t : Table) (members : ℕ) (list : List Capability) → Accepts t members list
    → objects_after t members list (rounds_in (test_of t members list)) ≡ bound_in (test_of t members list)

-- "0 for an empty bound", and for no other; a refused test has both
unfoldable pub ZeroForEmpty : Type 0
ZeroForEmpty = (t : Table) → IsTable t → (members : ℕ) (list : List Capability) → (rounds_in (test_of t members list) ≡ 0) ↔ (bound_in (test_of t members list) ≡ 0)

unfoldable pub NoneOnRefusal : Type 0
NoneOnRefusal = (t : Table) (members : ℕ) (list : List Capability) (k : ℕ) → verdict_number (verdict_of t members list) ≡ suc k
    → (rounds_in (test_of t members list) ≡ 0) × (bound_in (test_of t members list) ≡ 0)

-- "at most 63", for every table
unfoldable pub AtMost63 : Type 0
AtMost63 = (t : Table) → IsTable t → (members : ℕ) (list : List Capability) → rounds_in (test_of t members list) ≤ 63

-- no byte of a member enters it, as none enters the bound
unfoldable pub RoundsBlind : Type 0
RoundsBlind = (members : ℕ) (t u : Table) → AgreeOutside members t u → (list : List Capability) → rounds_of t members list ≡ rounds_of u members list
