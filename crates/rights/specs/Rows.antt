-- Document 01, "Objects, slots, rights" and "The eight requests": what rights are worth. Document 02, 2.5: "both should become a case
-- for each of the sixteen rights values". "Rights add up 1 rd (read), 2 wr (write), 4 wk (weak), 8 tx (send)".
use Rattle.std.specs.Prelude.{Bool, true, false, List, [], ◌∷◌, ℕ, ◌%◌, eqb, get_or}
use Rattle.table.specs.declared.Capability.{Capability}
use Rattle.table.specs.Cells.{empty_slot}
use Rattle.rights.specs.declared.Need.{Need}
use Rattle.rights.specs.declared.Need.TheVariants.{ReadOrWeak, Write, Send}
use Rattle.rights.specs.declared.Worth.{Worth}

abbrev yes : Bool
yes = true

abbrev no : Bool
no = false

-- the rights that weakening leaves: wk, or none, and then the copy is empty
abbrev wk : ℕ
wk = 4

abbrev empty : ℕ
empty = 0

-- The sixteen values, 0 to 15. Of each: what weakening leaves ("wk if rd or wk was present; otherwise the copy is empty"); whether it
-- has what read and fetch need ("rd or wk"); what write, store, revoke, destroy and reclaim need ("wr"); what send needs ("tx").
unfoldable pub rows : List Worth
rows =
    (empty, no, no, no)  -- 0: nothing
    ∷ (wk, yes, no, no)  -- 1: rd
    ∷ (empty, no, yes, no)  -- 2: wr
    ∷ (wk, yes, yes, no)  -- 3: rd, wr
    ∷ (wk, yes, no, no)  -- 4: wk
    ∷ (wk, yes, no, no)  -- 5: rd, wk
    ∷ (wk, yes, yes, no)  -- 6: wr, wk
    ∷ (wk, yes, yes, no)  -- 7: rd, wr, wk
    ∷ (empty, no, no, yes)  -- 8: tx
    ∷ (wk, yes, no, yes)  -- 9: rd, tx
    ∷ (empty, no, yes, yes)  -- 10: wr, tx
    ∷ (wk, yes, yes, yes)  -- 11: rd, wr, tx
    ∷ (wk, yes, no, yes)  -- 12: wk, tx
    ∷ (wk, yes, no, yes)  -- 13: rd, wk, tx
    ∷ (wk, yes, yes, yes)  -- 14: wr, wk, tx
    ∷ (wk, yes, yes, yes)  -- 15: rd, wr, wk, tx
    ∷ []

-- The row of a value; one above 15 has the row of its four lowest bits. A remainder by 16 is below 16, so what stands last is never
-- taken.
unfoldable pub worth_of : ℕ → Worth
worth_of rights = get_or rows (rights % 16) (empty, no, no, no)

-- whether the rights have what a request needs
unfoldable pub need_met : Need → ℕ → Bool
need_met ReadOrWeak rights = (worth_of rights).1
need_met Write rights = (worth_of rights).2
need_met Send rights = (worth_of rights).3

-- what weakening leaves of a capability
unfoldable pub weaken : Capability → Capability
weaken c = elim (eqb (worth_of c.rights).0 empty) [
  | true ↦ empty_slot
  | false ↦ record { target = c.target; rights = (worth_of c.rights).0 }
]
