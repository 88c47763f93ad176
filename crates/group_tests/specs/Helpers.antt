-- What a helper promises: the bound and its rounds along words of links and the entries of a list, which the lowest member holds.
use Rattle.std.specs.Prelude.{List, ℕ}
use Rattle.mask.specs.Sets.{less_of}
use Rattle.links.specs.declared.Spread.{Spread}
use Rattle.links.specs.Links.{word_edge, joined, entry_link}
use Rattle.links.specs.Helpers.{spread_of}
use Rattle.bounds.specs.declared.EntryList.{EntryList}
use Rattle.bounds.specs.declared.Grown.{Grown}
use Rattle.bounds.specs.StandIn.{stand_in}

abbrev pub spread_along : List ℕ → ℕ → EntryList → ℕ → Spread
spread_along words members l outside = spread_of (word_edge (joined words (entry_link l.entries l.count outside (stand_in members)))) (stand_in members)

unfoldable pub grown_along : List ℕ → ℕ → EntryList → ℕ → Grown
grown_along words members l outside = record { bound = less_of (spread_along words members l outside).set members; rounds = (spread_along words members l outside).rounds }
