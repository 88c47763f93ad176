-- The table and the number that a call gives, refused or not: what was read or brought in, and else the wholly unborn one. A call makes both by
-- `given`, for any refusals; `loaded` and `brought_in` say them by the definitions of the reading and of the import. Assumes nothing.
use mathlib.Core.Path.{◌≡◌, refl}
use Rattle.std.specs.Prelude.{Result, Ok, Err}
use Rattle.std.specs.Result.{result_unwrap_or}
use Rattle.table.specs.declared.Table.{Table}
use Rattle.table.specs.Cells.{unborn_table}
use Rattle.image.specs.declared.ReadRefusal.{ReadRefusal}
use Rattle.image.specs.Images.{read_number}
use Rattle.take_grant.specs.declared.ImportRefusal.{ImportRefusal}
use Rattle.take_grant.specs.Imports.{import_number, table_after}
use Rattle.captable.specs.Crossing.{given, loaded, brought_in}

pub table_read : (r : Result Table ReadRefusal) → result_unwrap_or r unborn_table ≡ (loaded r).table
table_read (Ok t) = refl
table_read (Err why) = refl

pub table_imported : (r : Result Table ImportRefusal) → table_after r ≡ (brought_in r).table
table_imported (Ok t) = refl
table_imported (Err why) = refl

pub given_loaded : (r : Result Table ReadRefusal) → given read_number r ≡ loaded r
given_loaded (Ok t) = refl
given_loaded (Err why) = refl

pub given_brought : (r : Result Table ImportRefusal) → given import_number r ≡ brought_in r
given_brought (Ok t) = refl
given_brought (Err why) = refl
