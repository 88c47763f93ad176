-- `image::read_shared` meets its contract: each field is what its reader ensures. Four bytes fit 32 bits, so the word
-- fits and so do the two halves of the stock. Assumes nothing.
use native.Mathlib.Omega.{arith}
use Rattle.image.proofs.Load.{four_fits, stored_made}
use Rattle.image.proofs.read_shared.Goals as goal

pub overflow_cast-word : goal.overflow_cast-word
overflow_cast-word c = omega (arith, four_fits c.args.part.now 2 (omega arith) (λ i. (c.type_inv.part i).fits))

pub overflow_mul-stock : goal.overflow_mul-stock
overflow_mul-stock c = omega (arith, four_fits c.args.part.now 6 (omega arith) (λ i. (c.type_inv.part i).fits))

pub overflow_add-stock : goal.overflow_add-stock
overflow_add-stock c = omega (arith, four_fits c.args.part.now 6 (omega arith) (λ i. (c.type_inv.part i).fits), four_fits c.args.part.now 10 (omega arith) (λ i. (c.type_inv.part i).fits))

pub returns : goal.returns
returns c = stored_made c.args.part.now _ _ _ _ _ c.requires c.number_of-word.ensures c.number_of-high.ensures c.number_of-low.ensures c.read_slots-slots.ensures
