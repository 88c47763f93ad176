-- What potential access by groups answers: "potential access refuses only by 1".
use Rattle.std.specs.Prelude.{true, false, List, ℕ, ◌/◌, ◌%◌, Result, Ok, Err}
use Rattle.table.specs.declared.Table.{Table}
use Rattle.table.specs.Soundness.{sound}
use Rattle.table.specs.Lists.{tabulate}
use Rattle.relation.specs.Relation.{right_at, table_holding}
use Rattle.access.specs.declared.AccessRefusal.{AccessRefusal}
use Rattle.access.specs.declared.AccessRefusal.TheVariants.{TableUnsound}
use Rattle.groups.specs.Groups.{row_by_groups}

unfoldable pub access_by_groups : Table → Result (List ℕ) AccessRefusal
access_by_groups t = elim (sound t) [
  | true ↦ Ok (tabulate 256 (λ k. row_by_groups (table_holding t) (right_at (k / 64)) (k % 64)))
  | false ↦ Err TableUnsound
]
