-- `join` adds one number to one word where that is wanted, and else leaves the words. Assumes nothing.
use mathlib.Core.Path.{refl}
use Rattle.links.specs.Helpers.{edge_if}
use Rattle.links.proofs.join.Goals as goal

pub bounds-words-x : goal.bounds-words-x
bounds-words-x c = (c.requires c.if-on.true).0

pub with-requires : goal.with-requires
with-requires c = (c.requires c.if-on.true).1

pub bounds-words-x-then-on : goal.bounds-words-x-then-on
bounds-words-x-then-on c = (c.requires c.if-on.true).0

pub returns-then-on : goal.returns-then-on
unfolding edge_if
returns-then-on c = rw (c.if-on.true, c.with.ensures) refl

pub returns-else-on : goal.returns-else-on
unfolding edge_if
returns-else-on c = rw c.if-on.false refl
