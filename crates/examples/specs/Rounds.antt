-- Document 02, 2.6, on two tables: the rounds of example 1, and a test that takes 63, the most there are.
use Rattle.std.specs.Prelude.{◌≡◌, true, false, ◌&&◌, [], ◌∷◌, ℕ, ◌+◌, ◌*◌, ◌/◌, ltb, eqb}
use Rattle.table.specs.declared.Capability.{Capability}
use Rattle.table.specs.declared.Table.{Table}
use Rattle.table.specs.Lists.{tabulate}
use Rattle.table.specs.Cells.{empty_slot}
use Rattle.confinement.specs.Tests.{test_of, rounds_in}
use Rattle.confinement.specs.Exactness.{Accepts}
use Rattle.examples.specs.TableK.{K, active, over, wr_right}
use Rattle.examples.specs.Statement.{the}

-- all 64 are alive; slot 0 of each but the last holds wr over the next number
abbrev pub row_slot : ℕ → Capability
row_slot k = elim (eqb (k / 8 * 8) k && ltb k 504) [ true ↦ over (k / 8 + 1) wr_right | false ↦ empty_slot ]

unfoldable pub row : Table
row = record { records = tabulate 64 (λ n. active 0); slots = tabulate 512 row_slot }

pub record RoundsOnTables : Type 0 where
  -- round one adds 1, the second 0 and 2
  pub example : rounds_in (test_of K (the 5) (over 1 wr_right ∷ [])) ≡ 2
  -- member 0, which lists the next one: each round adds one number
  pub accepts : Accepts row (the 0) (over 1 wr_right ∷ [])
  pub farthest : rounds_in (test_of row (the 0) (over 1 wr_right ∷ [])) ≡ 63
