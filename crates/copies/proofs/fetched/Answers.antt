-- `fetched` is what the definition takes, by the test of rd. Assumes nothing.
use mathlib.Core.Path.{sym, ◌∙◌}
use Rattle.copies.proofs.Fetches.{fetched_whole, fetched_weakened}
use Rattle.copies.proofs.fetched.Goals as goal

pub returns-then-has : goal.returns-then-has
returns-then-has c = sym (fetched_whole c.args.rights c.args.c (sym c.has.ensures ∙ c.if-has.true))

pub returns : goal.returns
returns c = c.weaken.ensures ∙ sym (fetched_weakened c.args.rights c.args.c (sym c.has.ensures ∙ c.if-has.false))
