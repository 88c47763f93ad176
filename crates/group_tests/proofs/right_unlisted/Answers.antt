-- `right_unlisted` is row 12: every member passed is fine. Assumes nothing.
use mathlib.Core.Path.{◌≡◌, sym, ◌∙◌, ap, subst}
use mathlib.Core.Bool.{false, not, ◌&&◌}
use Prim.Native.Nat.{◌<◌}
use lib.Dec.{eqb}
use Rattle.std.proofs.lemmas.Grind.{common_steps}
use Rattle.table.specs.declared.Capability.{Capability}
use Rattle.confinement.specs.Helpers.{slot_unlisted}
use native.Mathlib.Omega.{arith}
use borrow.Author.Count.{below_more}
use Rattle.bounds.specs.StandIn.{entries_of}
use Rattle.group_tests.proofs.Members.{Searching, slice_slot, search_none, search_found, search_skip, search_more, search_all}
use Rattle.group_tests.proofs.right_unlisted.Goals as goal
use Rattle.group_tests.proofs.right_unlisted.Goals.{then-c+else-slot_unlisted, else-c}

pub members-init : goal.members-init
members-init c = let e : c.into_iter-n-iterator.result.left ≡ c.args.members = cc in
    subst (Searching _ _ _) (sym e) (search_none c.args.t c.args.members (entries_of c.args.l.list))

pub returns-then-slot_unlisted : goal.returns-then-slot_unlisted
returns-then-slot_unlisted c = let a = c.args in
    let n = c.in-Some.n in
    let j = c.slots.c-index in
    let h : j < 8 = grind (arith, common_steps) in
    let e = slice_slot a.t n j (omega (arith, h)) in
    search_found a.t a.members (entries_of a.l.list) n j c.in-Some.ensures.steps.0.low h
    (ap (slot_unlisted a.members (entries_of a.l.list) n) (sym e) ∙ sym c.slot_unlisted.ensures ∙ c.if-slot_unlisted.true)

pub slots-preserved : goal.slots-preserved
slots-preserved c = let a = c.args in
    let n = c.in-Some.n in
    let j = c.slots.c-index in
    let h : j < 8 = grind (arith, common_steps) in
    let e = slice_slot a.t n j (omega (arith, h)) in
    below_more _ _ c.slots.invariant
    (elim c.if-c.branch [
      | then-c+else-slot_unlisted w ↦ ap (slot_unlisted a.members (entries_of a.l.list) n) (sym e) ∙ sym w.slot_unlisted.ensures ∙ w.if-slot_unlisted.false
      | else-c w ↦ search_skip a.t a.members (entries_of a.l.list) n j (subst (λ (x : Capability). (not (eqb x.rights 0) && not (eqb x.rights 4)) ≡ false) e w.if-c.false)
    ])

pub members-preserved : goal.members-preserved
members-preserved c = search_more _ _ _ _ _ _ _ c.in-Some.ensures.steps.0 (grind (arith, common_steps)) c.slots.invariant c.members.invariant c.in-Some.ensures.steps.1

pub returns : goal.returns
returns c = search_all _ _ _ _ c.in-None.ensures.steps.0 c.members.invariant
