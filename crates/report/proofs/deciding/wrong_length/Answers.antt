-- `wrong_length` meets its contract: an input with no count byte is too short for any count. Assumes nothing.
use mathlib.Core.Path.{refl, sym}
use native.Mathlib.Omega.{arith}
use Rattle.report.specs.Input.{wrong_length}
use Rattle.report.proofs.Inputs.{length_short}
use Rattle.report.proofs.deciding.wrong_length.Goals as goal

pub returns-then-input-lt1932 : goal.returns-then-input-lt1932
returns-then-input-lt1932 c = sym (length_short c.args.input.now c.if-input-lt1932.true)

pub overflow_cast-result : goal.overflow_cast-result
overflow_cast-result c = omega (arith, c.type_inv.input 1931)

pub overflow_mul-result : goal.overflow_mul-result
overflow_mul-result c = omega (arith, c.type_inv.input 1931)

pub overflow_add-result : goal.overflow_add-result
overflow_add-result c = omega (arith, c.type_inv.input 1931)

pub returns : goal.returns
unfolding wrong_length
returns c = refl
