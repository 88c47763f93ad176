-- `listed_for` is the union over the entries passed. Assumes nothing.
use mathlib.Core.Path.{sym, ◌∙◌, ap}
use Prim.Native.Nat.{◌<◌, ◌≤◌}
use native.Mathlib.Omega.{arith}
use Rattle.std.proofs.lemmas.Grind.{common_steps}
use Rattle.std.proofs.lemmas.List.{get_or-take}
use Rattle.mask.specs.Sets.{union_of}
use Rattle.table.specs.declared.Capability.{Capability}
use Rattle.confinement.proofs.Scans.{listed_none, listed_on, listed_off, listed_all}
use Rattle.confinement.proofs.checks.listed_for.Goals as goal
use Rattle.confinement.proofs.checks.listed_for.Goals.{else-e-target, then-e-target}

pub loop-e-init : goal.loop-e-init
loop-e-init c = listed_none _ _

pub loop-e-preserved : goal.loop-e-preserved
loop-e-preserved c = let l = c.args.l.list in
    let h : c.loop-e.e-index < l.count = grind (arith, common_steps) in
    let e = get_or-take l.count l.entries c.loop-e.e-index (record { target = 0; rights = 0 }) h in
    elim c.if-e-target.branch [
      | then-e-target w ↦ listed_on l _ _ _ _ h c.loop-e.invariant (ap (λ (x : Capability). x.target) (sym e) ∙ w.if-e-target.true)
          (w.found-is ∙ w.union-found.ensures ∙ ap (λ (x : Capability). union_of c.loop-e.found x.rights) e)
      | else-e-target w ↦ listed_off l _ _ _ _ h c.loop-e.invariant (λ z. w.if-e-target.false (ap (λ (x : Capability). x.target) e ∙ z)) w.found-is
    ]

pub returns : goal.returns
returns c = let l = c.args.l.list in
    let h : c.loop-e.e-index ≤ l.count = grind (arith, common_steps) in
    let g : l.count ≤ c.loop-e.e-index = grind (arith, common_steps) in
    c.loop-e.invariant ∙ listed_all _ _ _ h g
