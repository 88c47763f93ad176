-- Document 01, "Two runs", for what the firmware does: tables that it was lent, read from images or brought in, requests as the bytes that it hands in,
-- and the numbers that came back. "each step may be taken in either form": a run may mix the two in any way.
use Rattle.std.specs.Prelude.{◌≡◌, true, false, List, [], ◌∷◌, ℕ}
use mir.Val.{Val}
use denote.Laws.{Is}
use Rattle.table.specs.declared.Table.{Table}
use Rattle.table.specs.contracts.Table as T
use Rattle.octets.specs.BigEndian.{Bytes}
use Rattle.requests.specs.Asks.{Ask, actor_of}
use Rattle.refusals.specs.Replies.{number}
use Rattle.steps.specs.Steps.{after, step_of}
use Rattle.bounds.specs.Agreement.{AgreeOutside}
use Rattle.confinement.specs.Tests.{test_of}
use Rattle.image.specs.Images.{read_of}
use Rattle.take_grant.specs.Imports.{import_of}
use Rattle.wire.specs.Wires.{ask_from}
use Rattle.entries.specs.Entries.{entries_in}
use Rattle.isolation.specs.Clean.{Clean, clean_at_start, clean_after, clean_at_end, clean_requests, compared_at_start, compared_at_end}
use Rattle.isolation.specs.Demand.{AgreeOn, MakersAgree}
use Rattle.captable.specs.declared.Outcome.{Outcome}
use Rattle.captable.specs.Crossing.{stepped, loaded, brought_in, found}

-- a table that the firmware has
pub data Had : Table → Type 0 where
  -- lent by whoever holds it: a value of the table type, whatever it says
  owned : {t : Table} (vs : List Val) → Is T.the_row t vs → Had t
  -- what `captable_read` gave for an image's bytes
  read : {t : Table} (image : List ℕ) → Bytes image → t ≡ (loaded (read_of image)).table → Had t
  -- what `captable_import` gave for the bytes of an older rig's table
  imported : {t : Table} (bytes : List ℕ) → t ≡ (brought_in (import_of bytes)).table → Had t

-- a run from a table over requests as bytes: the last table, and the numbers that came back, first to last
pub data Taken : Table → List (List ℕ) → Table → List ℕ → Type 0 where
  none : {t : Table} → Taken t [] t []
  -- table in, table out: what `captable_step_by_value` returned
  by_value : {t u : Table} {bs : List ℕ} {bss : List (List ℕ)} {ns : List ℕ} (o : Outcome) → o ≡ stepped (step_of t (ask_from bs))
      → Taken o.table bss u ns → Taken t (bs ∷ bss) u (o.number ∷ ns)
  -- on a table lent to be changed: the number that `captable_step` returned, and what it left in the table
  lent : {t v u : Table} {bs : List ℕ} {bss : List (List ℕ)} {n : ℕ} {ns : List ℕ} → n ≡ number (step_of t (ask_from bs)).reply → v ≡ (step_of t (ask_from bs)).table
      → Taken v bss u ns → Taken t (bs ∷ bss) u (n ∷ ns)

-- the requests that the bytes are
unfoldable pub asks_of : List (List ℕ) → List Ask
asks_of [] = []
asks_of (bs ∷ bss) = ask_from bs ∷ asks_of bss

-- of the numbers that came back, those to requests from clean actors
unfoldable pub clean_numbers : Table → Clean → List Ask → List ℕ → List ℕ
clean_numbers t C [] ns = []
clean_numbers t C (q ∷ qs) [] = []
clean_numbers t C (q ∷ qs) (n ∷ ns) = elim (C (actor_of q)) [
  | true ↦ n ∷ clean_numbers (after t q) (clean_after t C q) qs ns
  | false ↦ clean_numbers (after t q) (clean_after t C q) qs ns
]

-- two tables that agree outside the members; `captable_test` accepts the same members and list in both
pub record BothTested (t u : Table) (members : ℕ) (list : List ℕ) : Type 0 where
  pub left : Had t
  pub right : Had u
  pub accepted_left : (found (test_of t members (entries_in list))).number ≡ 0
  pub accepted_right : (found (test_of u members (entries_in list))).number ≡ 0
  pub agree : AgreeOutside members t u

-- what two runs share, that start with the clean objects C and D and end with the tables v and w and the numbers ms and ns
pub record AlikeTaken (t u : Table) (C D : Clean) (ps qs : List (List ℕ)) (v w : Table) (ms ns : List ℕ) : Type 0 where
  pub clean : (n : ℕ) → clean_at_end t C (asks_of ps) n ≡ clean_at_end u D (asks_of qs) n
  pub cells : AgreeOn (clean_at_end t C (asks_of ps)) v w
  pub makers : MakersAgree (clean_at_end t C (asks_of ps)) (compared_at_end t C (compared_at_start t C) (asks_of ps)) v w
  pub numbers : clean_numbers t C (asks_of ps) ms ≡ clean_numbers u D (asks_of qs) ns

-- the bound and the rounds that `captable_test` gave are the same, and so is all that clean objects are and are told, whatever everybody
-- else asks
pub record SameTaken (t u : Table) (members : ℕ) (list : List ℕ) : Type 0 where
  pub bound : (found (test_of t members (entries_in list))).bound ≡ (found (test_of u members (entries_in list))).bound
  pub rounds : (found (test_of t members (entries_in list))).rounds ≡ (found (test_of u members (entries_in list))).rounds
  pub runs : (ps qs : List (List ℕ)) (v w : Table) (ms ns : List ℕ) → Taken t ps v ms → Taken u qs w ns
      → clean_requests t (clean_at_start t members (entries_in list)) (asks_of ps) ≡ clean_requests u (clean_at_start u members (entries_in list)) (asks_of qs)
      → AlikeTaken t u (clean_at_start t members (entries_in list)) (clean_at_start u members (entries_in list)) ps qs v w ms ns

-- demand 3 for the calls that the firmware links
unfoldable pub TwoRunsTaken : Type 0
TwoRunsTaken = (t u : Table) (members : ℕ) (list : List ℕ) → BothTested t u members list → SameTaken t u members list
