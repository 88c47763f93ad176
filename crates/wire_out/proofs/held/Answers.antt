-- `held` meets its contract: the fields stand in front of zeros. Assumes nothing.
use Rattle.std.proofs.Common.{List, ℕ, [], ◌++◌, drop, length, ◌∙◌, ap}
use Rattle.table.specs.Lists.{tabulate, padded}
use Rattle.wire_out.specs.declared.Written.{Written}
use Rattle.wire_out.specs.Written.{held_bytes}
use Rattle.wire_out.proofs.Zeros.{zeros_fill}
use Rattle.wire_out.proofs.held.Goals as goal

pub returns : goal.returns
unfolding held_bytes padded tabulate
returns c = let xs = c.args.fields.now in
    ap {B = Written} (λ (l : List ℕ). record { bytes = l; count = length xs })
    (ap (λ (l : List ℕ). l ++ drop (length xs) (padded 22 0 [])) c.copy_from_slice.ensures.after ∙ zeros_fill 22 xs c.requires)
