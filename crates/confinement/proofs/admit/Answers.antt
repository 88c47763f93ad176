-- `admit`: each refusal is a law of Verdicts over what the checks found. Assumes nothing.
use mathlib.Core.Path.{refl, sym, ◌∙◌}
use Rattle.bounds.specs.StandIn.{entries_of}
use Rattle.confinement.proofs.Scans.{list_short}
use Rattle.confinement.proofs.Verdicts.{test_1, test_10, test_11}
use Rattle.confinement.proofs.admit.Goals as goal

pub returns-then-not-is_sound : goal.returns-then-not-is_sound
returns-then-not-is_sound c = test_1 c.args.t.now c.args.members (entries_of c.args.list) _ c.is_sound.ensures c.if-not-is_sound.true

pub returns-then-members_bad : goal.returns-then-members_bad
returns-then-members_bad c = test_10 c.args.t.now c.args.members (entries_of c.args.list) _ c.is_sound.ensures c.if-not-is_sound.false _ c.members_bad.ensures c.if-members_bad.true

pub returns-then-list_bad : goal.returns-then-list_bad
returns-then-list_bad c = test_11 c.args.t.now c.args.members (entries_of c.args.list) _ c.is_sound.ensures c.if-not-is_sound.false _ c.members_bad.ensures c.if-members_bad.false _ c.born_outside-outside.ensures _ c.list_bad.ensures c.if-list_bad.true

pub invariant_of-short : goal.invariant_of-short
invariant_of-short c = record { short = list_short _ _ (sym c.list_bad.ensures ∙ c.if-list_bad.false) }

pub returns : goal.returns
returns c = (refl, c.born_outside-outside.ensures, sym c.is_sound.ensures ∙ c.if-not-is_sound.false, sym c.members_bad.ensures ∙ c.if-members_bad.false, sym c.list_bad.ensures ∙ c.if-list_bad.false)
