-- What helpers promise: v joined into word u, and the links of one capability, each where it is wanted; what rounds reach from x, and how
-- many of them add something. They add nothing to what a link is.
use Rattle.std.specs.Prelude.{Bool, true, false, ◌&&◌, ◌||◌, List, ℕ, get_or, set}
use Rattle.mask.specs.Sets.{including}
use Rattle.table.specs.declared.Capability.{Capability}
use Rattle.table.specs.Cells.{has_wk}
use Rattle.relation.specs.Closure.{grow, only, most_rounds, reached}
use Rattle.links.specs.declared.Spread.{Spread}
use Rattle.links.specs.Links.{has_strong}
use Rattle.links.specs.Rounds.{adding_from}

unfoldable pub edge_if : Bool → List ℕ → ℕ → ℕ → List ℕ
edge_if true words u v = set words u (including v (get_or words u 0))
edge_if false words u v = words

unfoldable pub link_if : Bool → List ℕ → ℕ → Capability → List ℕ
link_if on words holder c =
    edge_if (on && (has_strong c.rights || has_wk c.rights))
    (edge_if (on && has_strong c.rights) words holder c.target)
    c.target holder

-- x is there before the first round
unfoldable pub spread_of : (ℕ → ℕ → Bool) → ℕ → Spread
spread_of edge x = record { set = reached edge x; rounds = adding_from most_rounds edge (only x) (grow edge (only x)) }
