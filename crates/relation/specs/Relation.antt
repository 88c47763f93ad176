-- Document 01, "Potential access and influence": the least relation over a holding, which says who takes part and who holds
-- which right over whom. The table is one holding; the confinement test's stand-in and non-members are another.
use Rattle.std.specs.Prelude.{◌≡◌, Bool, true, ◌&&◌, ℕ, zero, suc, ltb, eqb}
use Rattle.mask.specs.Sets.{has, any_below}
use Rattle.table.specs.declared.Table.{Table}
use Rattle.table.specs.Cells.{slot_at, born_at}

pub data Right : Type 0 where
  rd wr wk tx : Right

-- the right's place in a word of rights
abbrev pub bit_at : Right → ℕ
bit_at rd = 0
bit_at wr = 1
bit_at wk = 2
bit_at tx = 3

-- the right at a place
abbrev pub right_at : ℕ → Right
right_at zero = rd
right_at (suc zero) = wr
right_at (suc (suc zero)) = wk
right_at (suc (suc (suc n))) = tx

pub record Holding : Type 0 where
  pub node : ℕ → Bool
  pub held : Right → ℕ → ℕ → Bool

-- "the least relation over born objects that contains every held right and obeys": Can h b x y says that x has b over y
pub data Can (h : Holding) : Right → ℕ → ℕ → Type 0 where
  holds : {b : Right} {x y : ℕ} → h.node x ≡ true → h.node y ≡ true → h.held b x y ≡ true → Can h b x y
  -- "Each object has all four rights over itself"
  self : {b : Right} {x : ℕ} → h.node x ≡ true → Can h b x x
  -- "If x has rd over y, x has every right that y has"
  reads : {b : Right} {x y z : ℕ} → Can h rd x y → Can h b y z → Can h b x z
  -- "If x has wk over y and y has rd or wk over z, x has wk over z"
  weak_rd : {x y z : ℕ} → Can h wk x y → Can h rd y z → Can h wk x z
  weak_wk : {x y z : ℕ} → Can h wk x y → Can h wk y z → Can h wk x z
  -- "If x has wr or tx over y, y has every right that x has"
  writes : {b : Right} {x y z : ℕ} → Can h wr x y → Can h b x z → Can h b y z
  sends : {b : Right} {x y z : ℕ} → Can h tx x y → Can h b x z → Can h b y z

-- "x influences y when x has wr or tx over y, or y has rd or wk over x, in that relation"
pub data Influences (h : Holding) : ℕ → ℕ → Type 0 where
  by_wr : {x y : ℕ} → Can h wr x y → Influences h x y
  by_tx : {x y : ℕ} → Can h tx x y → Influences h x y
  by_rd : {x y : ℕ} → Can h rd y x → Influences h x y
  by_wk : {x y : ℕ} → Can h wk y x → Influences h x y

-- "The influenced set of x is what can be reached by such steps"
pub data Influenced (h : Holding) (x : ℕ) : ℕ → Type 0 where
  first : {y : ℕ} → Influences h x y → Influenced h x y
  more : {y z : ℕ} → Influenced h x y → Influences h y z → Influenced h x z

-- the table's holding: "an unborn number has no right and none is held over it"
unfoldable pub takes_part : Table → ℕ → Bool
takes_part t n = ltb n 64 && born_at t n

-- x holds the right over y in one of its slots
unfoldable pub holds_in : Table → Right → ℕ → ℕ → Bool
holds_in t b x y = any_below 8 (λ j. eqb (slot_at t x j).target y && has (bit_at b) (slot_at t x j).rights)

abbrev pub table_holding : Table → Holding
table_holding t = record { node = takes_part t; held = holds_in t }
