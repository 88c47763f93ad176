-- `octets::number_of` meets its contract. The loop's invariant: `n` is the number of the bytes that it has passed, and below 256 to
-- the power of how many they are, so that with eight bytes at most no step wraps. Assumes nothing.
use mathlib.Core.Path.{refl, sym, ◌∙◌, ap₂}
use Prim.Native.Nat.{ℕ, ◌+◌, ◌*◌}
use native.Mathlib.Omega.{arith}
use Rattle.octets.specs.BigEndian.{number_from}
use Rattle.octets.proofs.BigEndian.{number_next, number_fits, power_next}
use Rattle.octets.proofs.number_of.Goals as goal

pub loop-b-init : goal.loop-b-init
unfolding number_from
loop-b-init c = (refl, omega arith)

pub overflow_mul-n : goal.overflow_mul-n
overflow_mul-n c = omega (arith, number_fits c.loop-b.n 0 c.loop-b.b-index c.loop-b.invariant.1 (omega arith) (omega arith))

pub overflow_add-n : goal.overflow_add-n
overflow_add-n c = let b = c.type_inv.bytes c.loop-b.b-index in
    omega (arith, number_fits c.loop-b.n c.from.result c.loop-b.b-index c.loop-b.invariant.1 (omega arith) (omega arith))

pub loop-b-preserved : goal.loop-b-preserved
loop-b-preserved c = let e = c.from.ensures in
    let b = c.type_inv.bytes c.loop-b.b-index in (
      ap₂ (λ (x y : ℕ). x * 256 + y) c.loop-b.invariant.0 e ∙ sym (number_next c.args.bytes.now c.loop-b.b-index c.loop-b-test.true),
      power_next c.loop-b.n c.from.result c.loop-b.b-index c.loop-b.invariant.1 (omega arith),
    )
