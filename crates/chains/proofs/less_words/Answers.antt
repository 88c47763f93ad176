-- `less_words`: the words passed are without the members, the others as they were. Assumes nothing.
use Prim.Native.Nat.{ℕ}
use native.Mathlib.Omega.{arith}
use lib.ListN.{get_or}
use Rattle.std.proofs.lemmas.Grind.{common_steps}
use Rattle.mask.specs.Sets.{less_of}
use Rattle.table.proofs.Lists.{as_tabulate}
use Rattle.chains.specs.Helpers.{less_words}
use Rattle.chains.proofs.less_words.Goals as goal

pub returns : goal.returns
unfolding less_words
returns c = as_tabulate 64 (λ (x : ℕ). less_of (get_or c.args.words x 0) c.args.members) 0 _ (grind (arith, common_steps)) (λ i l. c.loop-w.invariant.0 i (grind (arith, common_steps)))
