use mathlib.Core.Path.{◌≡◌}
use mathlib.Core.Bool.{false}
use Rattle.links.specs.Links.{words_of}
use Rattle.held.proofs.Passed.{joins_to, over_to, astray_to, Taking}
use Rattle.held.proofs.held_words.Given as goal

abbrev pub invariant-slots : goal.invariant-slots
invariant-slots l = Taking l.slots l.among l.weakly l.x l.j l.h.strong l.h.over l.h.astray l.joins

abbrev pub invariant-holders : goal.invariant-holders
invariant-holders l = (l.joins ≡ words_of (joins_to l.slots l.among l.weakly l.x)) × (l.over ≡ words_of (over_to l.slots l.among l.weakly l.x)) × (false ≡ astray_to l.slots l.among l.weakly l.x)
