-- Example 11: the closure is computed, and the theorem that it is the least relation carries what it says, and what it denies,
-- to the relation itself. Assumes nothing.
use mathlib.Core.Path.{◌≡◌, refl}
use mathlib.Core.Bool.{Bool, true, false}
use Prim.Native.Nat.{ℕ, ◌<◌}
use native.Mathlib.Omega.{arith}
use Rattle.mask.specs.Sets.{has, bits, any_below}
use Rattle.mask.proofs.Tests.{clash}
use Rattle.relation.specs.Relation.{Right, rd, wr, wk, tx, Can, takes_part, holds_in, table_holding}
use Rattle.relation.specs.Closure.{grow, spread, only, reached, both_take_part, holds_strong, bond, link, row_of}
use Rattle.relation.specs.Exactness.{AccessExact}
use Rattle.relation.proofs.Exact.{access_exact, table_low}
use Rattle.examples.specs.TableK.{K}

row : (b : Right) → ℕ → ℕ → Bool
row b x y = has y (row_of (table_holding K) b x)

over_zero : (b : Right) → row b 5 0 ≡ true
unfolding row K bits any_below takes_part holds_in grow spread only reached both_take_part holds_strong bond link row_of
over_zero rd = refl
over_zero wr = refl
over_zero wk = refl
over_zero tx = refl

weak_one : (row wk 2 1 ≡ true) × (row rd 2 1 ≡ false) × (row wr 2 1 ≡ false) × (row tx 2 1 ≡ false)
unfolding row K bits any_below takes_part holds_in grow spread only reached both_take_part holds_strong bond link row_of
weak_one = (refl, refl, refl, refl)

none_back : (b : Right) → row b 1 2 ≡ false
unfolding row K bits any_below takes_part holds_in grow spread only reached both_take_part holds_strong bond link row_of
none_back rd = refl
none_back wr = refl
none_back wk = refl
none_back tx = refl

can : (b : Right) (x y : ℕ) → y < 64 → row b x y ≡ true → Can (table_holding K) b x y
unfolding row AccessExact
can b x y l e = (access_exact (table_holding K) (table_low K) b x y l).0 e

cannot : (b : Right) (x y : ℕ) → y < 64 → row b x y ≡ false → Can (table_holding K) b x y → ⊥
unfolding row AccessExact
cannot b x y l e c = clash ((access_exact (table_holding K) (table_low K) b x y l).1 c) e

pub eleven : ((b : Right) → Can (table_holding K) b 5 0)
    × (Can (table_holding K) wk 2 1 × (Can (table_holding K) rd 2 1 → ⊥) × (Can (table_holding K) wr 2 1 → ⊥) × (Can (table_holding K) tx 2 1 → ⊥))
    × ((b : Right) → Can (table_holding K) b 1 2 → ⊥)
eleven = (
  λ b. can b 5 0 (omega arith) (over_zero b),
  (can wk 2 1 (omega arith) weak_one.0, cannot rd 2 1 (omega arith) weak_one.1, cannot wr 2 1 (omega arith) weak_one.2, cannot tx 2 1 (omega arith) weak_one.3),
  λ b. cannot b 1 2 (omega arith) (none_back b),
)
