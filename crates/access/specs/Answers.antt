-- What potential access answers: "The relation is answered whole, for all 64 numbers"; for a table that is not sound why there
-- is none, which crosses as the number 1.
use Rattle.std.specs.Prelude.{true, false, not, ◌&&◌, List, ℕ, ◌/◌, ◌%◌, get_or, Result, Ok, Err}
use Rattle.mask.specs.Sets.{has, bits}
use Rattle.table.specs.declared.Record.{Record}
use Rattle.table.specs.declared.Table.{Table}
use Rattle.table.specs.Cells.{is_born, no_record}
use Rattle.table.specs.Soundness.{sound}
use Rattle.table.specs.Lists.{tabulate}
use Rattle.access.specs.declared.AccessRefusal.{AccessRefusal}
use Rattle.access.specs.declared.AccessRefusal.TheVariants.{TableUnsound}
use Rattle.relation.specs.Relation.{right_at, table_holding}
use Rattle.relation.specs.Closure.{row_of}

abbrev pub access_number : AccessRefusal → ℕ
access_number TableUnsound = 1

-- the born numbers outside a set
unfoldable pub born_outside : List Record → ℕ → ℕ
born_outside records set = bits 64 (λ n. is_born (get_or records n no_record) && not (has n set))

unfoldable pub access_of : Table → Result (List ℕ) AccessRefusal
access_of t = elim (sound t) [
  | true ↦ Ok (tabulate 256 (λ k. row_of (table_holding t) (right_at (k / 64)) (k % 64)))
  | false ↦ Err TableUnsound
]
