-- `test` is the definition: after rows 1, 10 and 11 each way out is a law of Verdicts over what was found. Assumes nothing.
use mathlib.Core.Path.{refl, ◌∙◌, ap}
use Rattle.table.proofs.Value.{value_sized}
use Rattle.bounds.specs.declared.EntryList.{EntryList}
use Rattle.bounds.specs.StandIn.{entries_of}
use Rattle.confinement.specs.Refusals.{bad_held}
use Rattle.confinement.proofs.Verdicts.{test_12, test_13, test_0, standing}
use Rattle.group_tests.specs.Helpers.{grown_along}
use Rattle.group_tests.proofs.Found.{some_member, grown_bound, astray_member}
use Rattle.group_tests.proofs.test.Goals as goal

pub returns-then-right_unlisted : goal.returns-then-right_unlisted
returns-then-right_unlisted c = let a = c.args in
    let p = c.in_ok-admitted.ensures in
    let s = c.right_unlisted.ensures ∙ ap (λ (l : EntryList). bad_held a.t a.members (entries_of l)) p.0 in
    test_12 a.t a.members (entries_of a.list) _ refl p.2 _ refl p.3 _ p.1 _ refl p.4 _ s c.if-right_unlisted.true

pub returns-then-held_words : goal.returns-then-held_words
returns-then-held_words c = let a = c.args in
    let p = c.in_ok-admitted.ensures in
    let s = c.right_unlisted.ensures ∙ ap (λ (l : EntryList). bad_held a.t a.members (entries_of l)) p.0 in
    test_13 a.t a.members (entries_of a.list) _ refl p.2 _ refl p.3 _ p.1 _ refl p.4 _ s c.if-right_unlisted.false
    _ (astray_member _ _ _ _ _ (value_sized a.t _ c.well_formed.0) refl p.2 p.1 c.held_words.ensures.0) c.if-held_words.true

pub grown-requires : goal.grown-requires
grown-requires c = let a = c.args in
    let p = c.in_ok-admitted.ensures in
    some_member _ (standing a.t a.members (entries_of a.list) _ refl p.2 _ refl p.3)

pub returns : goal.returns
returns c = let a = c.args in
    let p = c.in_ok-admitted.ensures in
    let z = value_sized a.t _ c.well_formed.0 in
    let s = c.right_unlisted.ensures ∙ ap (λ (l : EntryList). bad_held a.t a.members (entries_of l)) p.0 in
    let low = standing a.t a.members (entries_of a.list) _ refl p.2 _ refl p.3 in
    test_0 a.t a.members (entries_of a.list) _ refl p.2 _ refl p.3 _ p.1 _ refl p.4 _ s c.if-right_unlisted.false
    _ (astray_member _ _ _ _ _ z refl p.2 p.1 c.held_words.ensures.0) z c.if-held_words.false
    _ (grown_bound _ _ _ _ _ _ low p.1 (c.held_words.ensures.1 c.if-held_words.false).0
    (c.grown.ensures ∙ ap (λ (l : EntryList). grown_along c.held_words.new.joins a.members l c.in_ok-admitted.admitted.outside) p.0))
