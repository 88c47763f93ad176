-- `destroyed` is the definition's table: its slots filled in a row are the slots emptied one by one. Assumes nothing.
use native.Mathlib.Omega.{arith}
use mathlib.Core.Path.{◌≡◌, ap, ◌∙◌}
use lib.ListN.{length, replicate}
use Prim.Native.Nat.{◌+◌, ◌*◌, ◌-◌, ℕ}
use Rattle.std.proofs.lemmas.List.Edits.{length-between}
use Rattle.table.specs.Cells.{empty_slot}
use Rattle.effects.proofs.Several.{cleared, destroyed_is}
use Rattle.effects.proofs.destroyed.Goals as goal

pub returns : goal.returns
returns c =
    let z : length c.args.t.slots ≡ 512 = omega arith in
    let k : (c.args.g * 8 + 8) - c.args.g * 8 ≡ 8 = omega arith in
    let f : c.fill.new.self ≡ replicate 8 empty_slot = c.fill.ensures.after (λ y e. e)
    ∙ ap (λ (n : ℕ). replicate n empty_slot) (length-between c.args.t.slots (c.args.g * 8) (c.args.g * 8 + 8) (omega arith) ∙ k) in
    destroyed_is c.args.t _ c.args.a c.args.g _ (cleared c.args.t c.args.g _ _ z c.requires.1 k f) c.union.ensures
