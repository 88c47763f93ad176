-- What a helper promises: the rows of an answer from the words of groups and of whom links lead to.
use Rattle.std.specs.Prelude.{true, false, List, ℕ, ◌/◌, ◌%◌, eqb, get_or}
use Rattle.table.specs.Lists.{tabulate}

-- the row at k: rights in the order rd, wr, wk, tx, so that those of wk are the third 64
unfoldable pub row_at : List ℕ → List ℕ → ℕ → ℕ
row_at groups led k = elim (eqb (k / 64) 2) [ true ↦ get_or led (k % 64) 0 | false ↦ get_or groups (k % 64) 0 ]

unfoldable pub laid_out : List ℕ → List ℕ → List ℕ
laid_out groups led = tabulate 256 (row_at groups led)
