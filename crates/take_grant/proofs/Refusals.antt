-- A walk that stops has a refusal, and its number is not 0, which is that of a table brought in: 20, 21 or 22. So the number tells a table from
-- the wholly unborn one that a refusal gives. Assumes nothing.
use mathlib.Core.Path.{◌≡◌, refl}
use mathlib.Core.List.{List}
use Prim.Native.Nat.{ℕ, suc}
use native.Mathlib.Omega.{arith}
use Rattle.std.specs.Prelude.{Result, Ok, Err}
use Rattle.std.specs.Result.{IsOk}
use Rattle.table.specs.declared.Table.{Table}
use Rattle.table.specs.Cells.{unborn_table}
use Rattle.take_grant.specs.declared.ImportRefusal.{ImportRefusal}
use Rattle.take_grant.specs.declared.ImportRefusal.TheVariants as R
use Rattle.take_grant.specs.Walk.{stopped, walk_of}
use Rattle.take_grant.specs.Imports.{import_number, table_after, number_after}

never_zero : (why : ImportRefusal) → import_number why ≡ 0 → ⊥
never_zero R.LengthWrong = λ z. omega arith
never_zero R.VersionWrong = λ z. omega arith
never_zero R.ValueWrong = λ z. omega arith

pub walk_refuses : (bytes : List ℕ) (why : ImportRefusal) → walk_of bytes ≡ stopped why → import_number why ≡ 0 → ⊥
walk_refuses bytes why e = never_zero why

-- by the number
pub zero_ok : (r : Result Table ImportRefusal) → number_after r ≡ 0 → r ≡ Ok (table_after r)
zero_ok (Ok t) e = refl
zero_ok (Err why) e = absurd (never_zero why e)

pub ok_zero : (r : Result Table ImportRefusal) → IsOk r → number_after r ≡ 0
ok_zero (Ok t) k = refl
ok_zero (Err why) k = absurd cc

pub refused_unborn : (r : Result Table ImportRefusal) (k : ℕ) → number_after r ≡ suc k → table_after r ≡ unborn_table
refused_unborn (Ok t) k e = absurd (omega arith)
refused_unborn (Err why) k e = refl
