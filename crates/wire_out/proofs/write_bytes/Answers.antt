-- `write_bytes` meets its contract: the word's bytes follow the slot. Assumes nothing.
use Rattle.std.proofs.Common.{List, ℕ, ◌∷◌, ◌∙◌, ap, arith}
use Rattle.requests.specs.Asks.{write}
use Rattle.wire_out.specs.Written.{field_bytes, request_bytes, held_bytes}
use Rattle.wire_out.proofs.Writes.{written_short, word_bytes}
use Rattle.wire_out.proofs.write_bytes.Goals as goal

pub returns : goal.returns
unfolding request_bytes field_bytes
returns c = c.held.ensures
    ∙ ap (λ (l : List ℕ). held_bytes (2 ∷ c.args.actor ∷ c.args.t ∷ l)) (word_bytes c.args.word _ c.to_be_bytes.ensures)
    ∙ written_short (write c.args.actor c.args.t c.args.word) (omega arith)
