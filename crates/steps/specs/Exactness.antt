-- What is claimed of slots that a request keeps or empties, of a reclaim and of makers, as statements about the table after it;
-- proofs/Emptying.antt proves them, proofs/Copied.antt those on what a slot then holds, proofs/Reclaims.antt those on a reclaim, and
-- proofs/Makers.antt those on makers.
-- Document 02, 2.4: "a copy that comes out empty, from an empty slot or from weakening, changes no slot. This holds in fetch, store,
-- send and allocate; revoke alone empties a slot of an alive object"; 2.8: "Reclaim thus joins revoke in emptying slots". Slots are numbered 0 to 7; what would be slot 8 of an object is
-- slot 0 of the next.
use Rattle.std.specs.Prelude.{◌≡◌, ◌≢◌, ◌⊎◌, true, false, List, ℕ, ◌<◌, eqb}
use Rattle.mask.specs.Sets.{including}
use Rattle.table.specs.declared.Table.{Table}
use Rattle.table.specs.Cells.{IsTable, empty_slot, no_maker, unborn_record, record_at, slot_at, status_at, maker_at, stock_at, is_empty, is_alive, has_rd, has_wk}
use Rattle.requests.specs.declared.Pair.{Pair}
use Rattle.requests.specs.Asks.{Ask, fetch, store, revoke, send, allocate, reclaim}
use Rattle.refusals.specs.Replies.{is_done}
use Rattle.refusals.specs.Refusals.{refusal, target_of, rights_of}
use Rattle.copies.specs.Copies.{fetched}
use Rattle.copies.specs.Exactness.{LeftOut, last_filled}
use Rattle.steps.specs.Steps.{after, step_of}

-- a revoke that is done, of slot j of object n
pub record RevokeDone (tb : Table) (q : Ask) (n j : ℕ) : Type 0 where
  pub actor : ℕ
  pub through : ℕ
  pub asked : q ≡ revoke actor through j
  pub target : target_of tb actor through ≡ n
  pub done : is_done (refusal tb q) ≡ true

-- a reclaim that is done, of the number g
pub record ReclaimDone (tb : Table) (q : Ask) (g : ℕ) : Type 0 where
  pub actor : ℕ
  pub through : ℕ
  pub asked : q ≡ reclaim actor through
  pub target : target_of tb actor through ≡ g
  pub done : is_done (refusal tb q) ≡ true

-- only revoke and reclaim empty: for every table and request, a slot that is filled before and empty after, of an object that is alive
-- after, was emptied by a revoke that was done, of that very slot, or by a reclaim that was done, of the number that it names
unfoldable pub OnlyRevokeOrReclaimEmpties : Type 0
OnlyRevokeOrReclaimEmpties = (tb : Table) (q : Ask) (n j : ℕ) → j < 8 → is_empty (slot_at tb n j) ≡ false
    → is_empty (slot_at (after tb q) n j) ≡ true → is_alive (record_at (after tb q) n) ≡ true
    → RevokeDone tb q n j ⊎ ReclaimDone tb q (slot_at tb n j).target

-- and they do: what a reclaim leaves is below
unfoldable pub RevokeEmpties : Type 0
RevokeEmpties = (tb : Table) (q : Ask) (n j : ℕ) → RevokeDone tb q n j → is_empty (slot_at (after tb q) n j) ≡ true

-- a fetch and a store whose copy comes out empty leave the whole table as it was
unfoldable pub EmptyFetchKeeps : Type 0
EmptyFetchKeeps = (tb : Table) (a t i j : ℕ) → is_empty (fetched (rights_of tb a t) (slot_at tb (target_of tb a t) i)) ≡ true
    → after tb (fetch a t i j) ≡ tb

unfoldable pub EmptyStoreKeeps : Type 0
EmptyStoreKeeps = (tb : Table) (a t i j : ℕ) → is_empty (slot_at tb a i) ≡ true → after tb (store a t i j) ≡ tb

-- from weakening: a fetch without rd of a slot that has neither rd nor wk, so wr, tx, both or nothing
unfoldable pub WeakenedFetchKeeps : Type 0
WeakenedFetchKeeps = (tb : Table) (a t i j : ℕ) → has_rd (rights_of tb a t) ≡ false → has_rd (rights_of tb (target_of tb a t) i) ≡ false
    → has_wk (rights_of tb (target_of tb a t) i) ≡ false → after tb (fetch a t i j) ≡ tb

-- in a send or an allocate that is done, pairs whose source slot is empty can be left out of the list, and the step is the same
unfoldable pub EmptyPairsFree : Type 0
EmptyPairsFree = (tb : Table) (a : ℕ) (list shorter : List Pair) → LeftOut (slot_at tb a) list shorter
    → ((t word reply : ℕ) → is_done (refusal tb (send a t word list reply)) ≡ true
    → step_of tb (send a t word shorter reply) ≡ step_of tb (send a t word list reply))
    × ((n kind part i : ℕ) → is_done (refusal tb (allocate a n kind part i list)) ≡ true
    → step_of tb (allocate a n kind part i shorter) ≡ step_of tb (allocate a n kind part i list))

-- what slot j then holds: of the target of a send the reply slot comes on top of the pairs; of a new object the pairs that are not
-- empty, and nothing else
unfoldable pub SentSlots : Type 0
SentSlots = (tb : Table) (a t word : ℕ) (list : List Pair) (reply j : ℕ) → IsTable tb → j < 8 → is_done (refusal tb (send a t word list reply)) ≡ true
    → slot_at (after tb (send a t word list reply)) (target_of tb a t) j
    ≡ elim (eqb reply j) [ true ↦ record { target = a; rights = 8 } | false ↦ last_filled (slot_at tb a) j (slot_at tb (target_of tb a t) j) list ]

unfoldable pub MadeSlots : Type 0
MadeSlots = (tb : Table) (a n kind part i : ℕ) (list : List Pair) (j : ℕ) → IsTable tb → j < 8 → is_done (refusal tb (allocate a n kind part i list)) ≡ true
    → slot_at (after tb (allocate a n kind part i list)) n j ≡ last_filled (slot_at tb a) j empty_slot list

-- Document 02, 2.7: a record's maker is "the number of the object that made it". An allocate that is done, of number n
pub record AllocateDone (tb : Table) (q : Ask) (n : ℕ) : Type 0 where
  pub actor : ℕ
  pub kind : ℕ
  pub part : ℕ
  pub slot : ℕ
  pub list : List Pair
  pub asked : q ≡ allocate actor n kind part slot list
  pub done : is_done (refusal tb q) ≡ true

-- it writes its actor into the new record
unfoldable pub MakerWritten : Type 0
MakerWritten = (tb : Table) (q : Ask) (n : ℕ) → IsTable tb → (d : AllocateDone tb q n) → maker_at (after tb q) n ≡ d.actor

-- a maker byte that a reclaim set to 64: of the number itself, or since it named the number
pub record MakerForgotten (tb : Table) (q : Ask) (n : ℕ) : Type 0 where
  pub number : ℕ
  pub by : ReclaimDone tb q number
  pub named : (n ≡ number) ⊎ (maker_at tb n ≡ number)
  pub nobody : maker_at (after tb q) n ≡ no_maker

-- and nothing else touches the byte: for every table and request, a maker that is another one after it was written by an allocate that was
-- done, of that very object, or was set to 64 by a reclaim. So "a dead one keeps its byte" until its maker is reclaimed
unfoldable pub OnlyAllocateOrReclaimWrites : Type 0
OnlyAllocateOrReclaimWrites = (tb : Table) (q : Ask) (n : ℕ) → maker_at (after tb q) n ≢ maker_at tb n → AllocateDone tb q n ⊎ MakerForgotten tb q n

-- a byte that is 64 stays 64 until the number is made
unfoldable pub NobodyStays : Type 0
NobodyStays = (tb : Table) (q : Ask) (n : ℕ) → maker_at tb n ≡ no_maker → maker_at (after tb q) n ≢ no_maker → AllocateDone tb q n

-- Document 02, 2.8: what a reclaim of the number g that is done leaves in the table u
pub record Reclaimed (tb u : Table) (actor g : ℕ) : Type 0 where
  -- "The number becomes unborn": the whole unborn record
  pub unborn : record_at u g ≡ unborn_record
  -- "and joins the actor's stock"; no other stock is touched
  pub stock : stock_at u actor ≡ including g (stock_at tb actor)
  pub stocks : (n : ℕ) → n < 64 → n ≢ g → n ≢ actor → stock_at u n ≡ stock_at tb n
  -- "every capability naming it anywhere becomes an empty slot"; every other stays
  pub named : (n j : ℕ) → (slot_at tb n j).target ≡ g → slot_at u n j ≡ empty_slot
  pub unnamed : (n j : ℕ) → (slot_at tb n j).target ≢ g → slot_at u n j ≡ slot_at tb n j
  -- "every maker byte naming it becomes 64"; every other stays
  pub made : (n : ℕ) → n < 64 → n ≢ g → maker_at tb n ≡ g → maker_at u n ≡ no_maker
  pub unmade : (n : ℕ) → n < 64 → n ≢ g → maker_at tb n ≢ g → maker_at u n ≡ maker_at tb n
  -- and nothing else of a record
  pub statuses : (n : ℕ) → n < 64 → n ≢ g → status_at u n ≡ status_at tb n
  pub kinds : (n : ℕ) → n < 64 → n ≢ g → (record_at u n).kind ≡ (record_at tb n).kind
  pub words : (n : ℕ) → n < 64 → n ≢ g → (record_at u n).word ≡ (record_at tb n).word

unfoldable pub ReclaimDoes : Type 0
ReclaimDoes = (tb : Table) (q : Ask) (g : ℕ) → IsTable tb → (d : ReclaimDone tb q g) → Reclaimed tb (after tb q) d.actor g
