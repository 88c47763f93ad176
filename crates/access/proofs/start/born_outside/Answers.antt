-- `born_outside` is the definition's set: the born numbers, less the set. Assumes nothing.
use mathlib.Core.Path.{◌∙◌, ap}
use mathlib.Core.Bool.{Bool, not, ◌&&◌}
use Rattle.mask.specs.Sets.{has, less_of}
use Rattle.mask.proofs.Bits.{has_bits, bits_same}
use Rattle.access.specs.Answers.{born_outside}
use Rattle.access.proofs.start.born_outside.Goals as goal

pub returns : goal.returns
unfolding born_outside less_of
returns c = c.less.ensures
    ∙ rw c.born_numbers.ensures (bits_same 64 _ _ (λ k h. ap (λ (x : Bool). x && not (has k c.args.set)) (has_bits 64 k _ h)))
