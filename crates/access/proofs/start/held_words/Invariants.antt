use mathlib.Core.Path.{◌≡◌}
use Rattle.access.specs.Helpers.{own_marks, slot_marks}
use Rattle.access.proofs.start.held_words.Given as goal

abbrev pub invariant-own : goal.invariant-own
invariant-own l = l.r ≡ own_marks l.nodes l.i

abbrev pub invariant-slots : goal.invariant-slots
invariant-slots l = l.r ≡ slot_marks l.c-items l.among (own_marks l.fn.nodes 64) l.j
