-- `image::writing::write_shared` meets its contract: two bytes are stored, and three parts lent in turn come back as their
-- writers ensure. Assumes nothing.
use mathlib.Core.Path.{◌∙◌}
use lib.ListN.{length-set}
use Rattle.image_out.proofs.Store.{shared_left}
use Rattle.image_out.proofs.write_shared.Goals as goal

pub shape_of-part : goal.shape_of-part
shape_of-part c = c.part-3-1.given.1 ∙ c.part-2-1.given.1 ∙ (simp length-set at c.part-1.given.1)

pub returns : goal.returns
returns c = shared_left c.args.part.now c.args.stored _ _ _ _ _ c.requires
    c.put_number-arg-1.given.2 c.put_number.ensures
    c.put_number-arg-2-1.given.2 c.put_number-2.ensures
    c.write_slots.ensures
