-- What is claimed of the sixteen rows, as statements; proofs/Sentences.antt proves them. The rows are document 01's sentences for every
-- value, so nobody has to choose which of the two to believe.
use Rattle.std.specs.Prelude.{◌≡◌, true, false, ◌||◌, ℕ, ◌%◌, length}
use Rattle.table.specs.declared.Capability.{Capability}
use Rattle.table.specs.Cells.{empty_slot, has_rd, has_wr, has_wk, has_tx}
use Rattle.rights.specs.declared.Need.TheVariants.{ReadOrWeak, Write, Send}
use Rattle.rights.specs.Rows.{rows, worth_of, need_met, weaken}

-- "each of the sixteen rights values": there are no more rows and no fewer
unfoldable pub SixteenRows : Type 0
SixteenRows = length rows ≡ 16

-- the row of one value, column by column
pub record RowSays (rights : ℕ) : Type 0 where
  -- "Weakening gives wk if rd or wk was present; otherwise the copy is empty": of the rights 4 is left, or 0
  pub weakened : (worth_of rights).0 ≡ elim (has_rd rights || has_wk rights) [ true ↦ 4 | false ↦ 0 ]
  -- read and fetch: "rd or wk"
  pub reads : (worth_of rights).1 ≡ (has_rd rights || has_wk rights)
  -- write, store, revoke, destroy and reclaim: "wr"
  pub writes : (worth_of rights).2 ≡ has_wr rights
  -- send: "tx"
  pub sends : (worth_of rights).3 ≡ has_tx rights

unfoldable pub RowsAreTheSentences : Type 0
RowsAreTheSentences = (rights : ℕ) → RowSays rights

-- the same of the three needs
pub record NeedsAreTheSentences : Type 0 where
  pub read_or_weak : (rights : ℕ) → need_met ReadOrWeak rights ≡ (has_rd rights || has_wk rights)
  pub write : (rights : ℕ) → need_met Write rights ≡ has_wr rights
  pub send : (rights : ℕ) → need_met Send rights ≡ has_tx rights

-- and of a weakened capability, whose target stays
unfoldable pub WeakeningIsTheSentence : Type 0
WeakeningIsTheSentence = (c : Capability) → weaken c ≡ elim (has_rd c.rights || has_wk c.rights) [ true ↦ record { target = c.target; rights = 4 } | false ↦ empty_slot ]

-- a value above 15 is worth what its four lowest bits are
unfoldable pub FourLowestBits : Type 0
FourLowestBits = (rights : ℕ) → worth_of rights ≡ worth_of (rights % 16)
