-- `entries_in`: the entries passed are those of the bytes, and the others are empty. Assumes nothing.
use mathlib.Core.Path.{refl}
use native.Mathlib.Omega.{arith}
use Rattle.std.proofs.lemmas.Grind.{common_steps}
use Rattle.entries.specs.Entries.{entry_in}
use Rattle.entries.proofs.Filling.{filled_more, filled_padded}
use Rattle.entries.proofs.entries_in.Goals as goal

pub loop-k-preserved : goal.loop-k-preserved
unfolding entry_in
loop-k-preserved c = filled_more (entry_in c.args.bytes.now) c.loop-k.entry-items c.loop-k.k _ (grind (arith, common_steps)) refl c.loop-k.invariant

pub returns : goal.returns
returns c = filled_padded (entry_in c.args.bytes.now) c.loop-k.entry-items c.args.n c.requires.0 (grind (arith, common_steps)) (λ i h. c.loop-k.invariant i (grind (arith, common_steps)))
