-- `send_bytes` meets its contract: a list longer than 4 gives nothing; else the list stands behind the word, and the reply behind the list.
-- Assumes nothing.
use Rattle.std.proofs.Common.{List, ℕ, ◌≡◌, ◌∷◌, refl, ◌∙◌, ap, arith}
use borrow.Author.Rules.{rules}
use Rattle.table.specs.Lists.{padded}
use Rattle.octets.specs.BigEndian.{bytes_of}
use Rattle.wire_out.specs.declared.Written.{Written}
use Rattle.wire_out.specs.Written.{held_bytes}
use Rattle.wire_out.proofs.Writes.{list_long, send_room, send_left, word_bytes}
use Rattle.wire_out.proofs.send_bytes.Goals as goal

pub returns-then-n-gt4 : goal.returns-then-n-gt4
returns-then-n-gt4 c = list_long c.args.list _ _ refl (omega arith) c.held.ensures

pub with_list-bytes-requires : goal.with_list-bytes-requires
unfolding held_bytes
with_list-bytes-requires c =
    let e : c.held-fields.result.bytes ≡ padded 22 0 (6 ∷ c.args.actor ∷ c.args.t ∷ bytes_of 4 c.args.word) =
    ap (λ (w : Written). w.bytes) c.held-fields.ensures
    ∙ ap (λ (l : List ℕ). padded 22 0 (6 ∷ c.args.actor ∷ c.args.t ∷ l)) (word_bytes c.args.word _ c.to_be_bytes.ensures) in
    (omega arith, search rules, send_room c.args.list c.args.actor c.args.t c.args.word _ e)

pub returns : goal.returns
unfolding held_bytes
returns c =
    let e : c.held-fields.result.bytes ≡ padded 22 0 (6 ∷ c.args.actor ∷ c.args.t ∷ bytes_of 4 c.args.word) =
    ap (λ (w : Written). w.bytes) c.held-fields.ensures
    ∙ ap (λ (l : List ℕ). padded 22 0 (6 ∷ c.args.actor ∷ c.args.t ∷ l)) (word_bytes c.args.word _ c.to_be_bytes.ensures) in
    rw c.from-n.ensures (send_left c.args.list c.args.actor c.args.t c.args.word _ e (omega arith) c.args.reply _ c.with_list-bytes.ensures)
