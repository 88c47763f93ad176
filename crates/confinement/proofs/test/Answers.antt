-- `test` is the definition: after rows 1, 10 and 11 each way out is a law of Verdicts over what the checks found. Assumes nothing.
use mathlib.Core.Path.{refl, ◌∙◌, ap}
use Rattle.table.proofs.Value.{value_sized}
use Rattle.bounds.specs.declared.EntryList.{EntryList}
use Rattle.bounds.specs.StandIn.{entries_of}
use Rattle.bounds.specs.Helpers.{bound_grown}
use Rattle.confinement.specs.Refusals.{bad_held}
use Rattle.confinement.proofs.Verdicts.{test_12, test_13, test_0, standing}
use Rattle.confinement.proofs.test.Goals as goal

pub returns-then-right_unlisted : goal.returns-then-right_unlisted
returns-then-right_unlisted c = let a = c.args in
    let p = c.in_ok-admitted.ensures in
    let s = c.right_unlisted.ensures ∙ ap (λ (l : EntryList). bad_held a.t a.members (entries_of l)) p.0 in
    test_12 a.t a.members (entries_of a.list) _ refl p.2 _ refl p.3 _ p.1 _ refl p.4 _ s c.if-right_unlisted.true

pub returns-then-member_held : goal.returns-then-member_held
returns-then-member_held c = let a = c.args in
    let p = c.in_ok-admitted.ensures in
    let s = c.right_unlisted.ensures ∙ ap (λ (l : EntryList). bad_held a.t a.members (entries_of l)) p.0 in
    test_13 a.t a.members (entries_of a.list) _ refl p.2 _ refl p.3 _ p.1 _ refl p.4 _ s c.if-right_unlisted.false _ c.member_held.ensures c.if-member_held.true

pub bound-requires : goal.bound-requires
bound-requires c = let a = c.args in
    let p = c.in_ok-admitted.ensures in
    (standing a.t a.members (entries_of a.list) _ refl p.2 _ refl p.3, p.1)

pub returns : goal.returns
returns c = let a = c.args in
    let p = c.in_ok-admitted.ensures in
    let s = c.right_unlisted.ensures ∙ ap (λ (l : EntryList). bad_held a.t a.members (entries_of l)) p.0 in
    test_0 a.t a.members (entries_of a.list) _ refl p.2 _ refl p.3 _ p.1 _ refl p.4 _ s c.if-right_unlisted.false _ c.member_held.ensures (value_sized a.t _ c.well_formed.0) c.if-member_held.false
    _ (c.bound.ensures ∙ ap (λ (l : EntryList). bound_grown a.t a.members (entries_of l)) p.0)
