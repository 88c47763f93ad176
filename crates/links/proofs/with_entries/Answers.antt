-- `with_entries`: the words have the links of the entries passed, each a law of Loops. Assumes nothing.
use mathlib.Core.Path.{sym, ◌∙◌, ap}
use Rattle.table.specs.declared.Capability.{Capability}
use Rattle.access.proofs.Marks.{has_low}
use Rattle.mask.specs.Sets.{has}
use Rattle.links.specs.Helpers.{link_if}
use Rattle.links.proofs.Value.{value_words}
use Rattle.links.proofs.Loops.{taken, entries_none, entries_more}
use Rattle.links.proofs.with_entries.Goals as goal

pub loop-c-init : goal.loop-c-init
loop-c-init c = entries_none _ _ _ _ (value_words c.args.words _ c.well_formed.0)

pub link_if-requires : goal.link_if-requires
link_if-requires c = λ e. (c.requires.1, has_low _ _ c.ranges.among.fits (sym c.has-on.ensures ∙ e))

pub loop-c-preserved : goal.loop-c-preserved
loop-c-preserved c =
    let at = taken _ _ c.args.entries c.loop-c-test.true in
    let on = c.has-on.ensures ∙ ap (λ (s : Capability). has s.target c.args.among) at in
    entries_more _ _ _ _ _ _ _ _ c.ranges.among.fits c.requires.1 c.loop-c.invariant on
    (c.link_if.ensures ∙ ap (link_if c.has-on.result c.loop-c.r c.args.x) at)
