use mathlib.Core.Path.{◌≡◌}
use mathlib.Core.Bool.{true}
use Rattle.mask.specs.Sets.{all_below}
use Rattle.table.proofs.Scan.{taken_below, good_at}
use Rattle.links.specs.Links.{words_of}
use Rattle.held.specs.Helpers.{everyone}
use Rattle.held.proofs.Passed.{joins_to, over_to}
use Rattle.scans.proofs.Scanning.{Noting}
use Rattle.scans.proofs.scan_words.Given as goal

abbrev pub invariant-slots : goal.invariant-slots
invariant-slots l = Noting l.t l.weakly l.n l.j l.h l.odd l.joins

abbrev pub invariant-scan : goal.invariant-scan
invariant-scan l = (l.taken ≡ taken_below l.t l.n) × (all_below l.n (good_at l.t) ≡ true) × (l.joins ≡ words_of (joins_to l.t.slots everyone l.weakly l.n)) × (l.over ≡ words_of (over_to l.t.slots everyone l.weakly l.n))
