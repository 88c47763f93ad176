-- What the code reads of its input is what the definitions read: the length, and the bytes of the list. Assumes nothing.
use mathlib.Core.Path.{◌≡◌, ap}
use mathlib.Core.Bool.{true, false, not}
use mathlib.Core.List.{List}
use Prim.Native.Nat.{ℕ, ◌+◌, ◌-◌, ◌*◌, ◌<◌}
use native.Mathlib.Omega.{arith}
use lib.ListN.{length, take, drop, length-drop, get_or-eq_default}
use lib.Seq.{take_all}
use borrow.Author.Tests.{eqb-true, ne_eqb, not-false}
use Rattle.report.specs.Input.{fixed_length, count_of, wrong_length}

-- the length ---------------------------------------------------------------------------
pub length_short : (input : List ℕ) → length input < fixed_length → wrong_length input ≡ true
unfolding wrong_length
length_short input h =
    let e : count_of input ≡ 0 = get_or-eq_default input 0 (omega arith) in
    ap not (ne_eqb (length input) (fixed_length + 2 * count_of input) (λ q. omega arith))

pub length_right : (input : List ℕ) → wrong_length input ≡ false → length input ≡ fixed_length + 2 * count_of input
unfolding wrong_length
length_right input e = eqb-true (length input) _ (not-false _ e)

-- the list -----------------------------------------------------------------------------
pub list_part : (input : List ℕ) → take (length input - fixed_length) (drop fixed_length input) ≡ drop fixed_length input
list_part input = take_all (length input - fixed_length) (drop fixed_length input) (omega (arith, length-drop fixed_length input))
