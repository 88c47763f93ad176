-- `row_of` is the list of the record's eight slots: eight reads in range, then one law. Assumes nothing.
use native.Mathlib.Omega.{arith}
use mathlib.Core.Path.{◌≡◌}
use Prim.Native.Nat.{ℕ, ◌<◌}
use lib.ListN.{get_or, length}
use Rattle.std.proofs.Common.{rules}
use Rattle.table.specs.Cells.{empty_slot, slot_at}
use Rattle.copies.proofs.Pairs.{row_is}
use Rattle.copies.proofs.row_of.Goals as goal

pub returns : goal.returns
returns c =
    let z : length c.from_fn.result ≡ 8 = omega arith in
    let f : (j : ℕ) → j < 8 → get_or c.from_fn.result j empty_slot ≡ slot_at c.args.t c.args.k j = search rules in
    row_is c.args.t c.args.k c.from_fn.result z f
