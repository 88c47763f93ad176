-- `list_bad` is row 11: every entry passed is fine. Assumes nothing.
use mathlib.Core.Path.{◌∙◌, ap}
use Prim.Native.Nat.{◌<◌, ◌≤◌}
use native.Mathlib.Omega.{arith}
use Rattle.std.proofs.lemmas.Grind.{common_steps}
use Rattle.std.proofs.lemmas.List.{get_or-take}
use Rattle.confinement.specs.Helpers.{entry_refused}
use Rattle.confinement.proofs.Scans.{list_long, list_entry, list_fine}
use Rattle.confinement.proofs.checks.list_bad.Goals as goal

pub returns-then-l-gt8 : goal.returns-then-l-gt8
returns-then-l-gt8 c = list_long _ _ c.if-l-gt8.true

pub returns-then-entry_bad : goal.returns-then-entry_bad
returns-then-entry_bad c = let l = c.args.l in
    let h : c.loop-e.e-index < l.count = grind (arith, common_steps) in
    list_entry _ l _ _ h (c.entry_bad.ensures ∙ ap (entry_refused c.args.outside) (get_or-take l.count l.entries c.loop-e.e-index _ h)) c.if-entry_bad.true

pub returns : goal.returns
returns c = let h : c.args.l.count ≤ c.loop-e.e-index = grind (arith, common_steps) in list_fine _ _ _ c.if-l-gt8.false h c.loop-e.invariant
