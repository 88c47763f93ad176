-- What helpers promise: the links of a chain as words, and words less a set. They add nothing to what is shown.
use Rattle.std.specs.Prelude.{List, ℕ, get_or}
use Rattle.mask.specs.Sets.{bits, less_of}
use Rattle.table.specs.declared.Capability.{Capability}
use Rattle.table.specs.declared.Table.{Table}
use Rattle.table.specs.Lists.{tabulate}
use Rattle.confinement.specs.Links.{object_link}

-- word u: the numbers one link of a chain from u
unfoldable pub chain_words : Table → ℕ → List Capability → List ℕ
chain_words t members list = tabulate 64 (λ u. bits 64 (object_link t members list u))

-- each word without the members
unfoldable pub less_words : List ℕ → ℕ → List ℕ
less_words words members = tabulate 64 (λ x. less_of (get_or words x 0) members)
