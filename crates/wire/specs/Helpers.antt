-- What the contracts of the crate's own functions say in short.
use Rattle.std.specs.Prelude.{Option, Some, None, cond, ◌&&◌, List, ℕ, ◌+◌, ◌*◌, leb, eqb, length}
use Rattle.table.specs.Lists.{tabulate}
use Rattle.octets.specs.BigEndian.{byte_at}
use Rattle.requests.specs.declared.Pair.{Pair}
use Rattle.requests.specs.declared.PairList.{PairList}
use Rattle.requests.specs.declared.Request.{Request}
use Rattle.requests.specs.Asks.{request_of, held_pairs}
use Rattle.wire.specs.declared.Asked.{Asked}
use Rattle.wire.specs.Wires.{fits_of, fields_of, asked_of}

-- pair k of a list's bytes
abbrev pub pair_at : List ℕ → ℕ → Pair
pair_at bs k = record { from = byte_at bs (2 * k); to = byte_at bs (2 * k + 1) }

-- the list of so many pairs that bytes are, no fewer and no more
unfoldable pub list_of : ℕ → List ℕ → Option PairList
list_of count bs = cond (leb count 4 && eqb (length bs) (2 * count)) (Some (held_pairs (tabulate count (pair_at bs)))) None

-- the request that bytes are, if they are one, and beside it the list
unfoldable pub plain_of : List ℕ → Option Request
plain_of bs = cond (fits_of bs) (Some (request_of (fields_of bs))) None

unfoldable pub asked_in : List ℕ → Option Asked
asked_in bs = cond (fits_of bs) (Some (asked_of (fields_of bs))) None
