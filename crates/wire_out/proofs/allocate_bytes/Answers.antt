-- `allocate_bytes` meets its contract: a list longer than 4 gives nothing; else the list stands behind the slot. Assumes nothing.
use Rattle.std.proofs.Common.{List, ℕ, ◌≡◌, ◌∷◌, [], ◌++◌, refl, ◌∙◌, ap, arith}
use borrow.Author.Rules.{rules}
use Rattle.table.specs.Lists.{padded}
use Rattle.octets.specs.BigEndian.{bytes_of}
use Rattle.wire_out.specs.declared.Written.{Written}
use Rattle.wire_out.specs.Written.{held_bytes}
use Rattle.wire_out.proofs.Writes.{list_long, allocate_room, allocate_left, part_bytes}
use Rattle.wire_out.proofs.allocate_bytes.Goals as goal

pub returns-then-count-gt4 : goal.returns-then-count-gt4
returns-then-count-gt4 c = list_long c.args.list _ _ refl (omega arith) c.held.ensures

pub with_list-requires : goal.with_list-requires
unfolding held_bytes
with_list-requires c =
    let e : c.held-fields.result.bytes ≡ padded 22 0 (7 ∷ c.args.actor ∷ c.args.n ∷ c.args.kind ∷ (bytes_of 8 c.args.part ++ (c.args.i ∷ []))) =
    ap (λ (w : Written). w.bytes) c.held-fields.ensures
    ∙ ap (λ (l : List ℕ). padded 22 0 (7 ∷ c.args.actor ∷ c.args.n ∷ c.args.kind ∷ l)) (part_bytes c.args.part c.args.i _ c.to_be_bytes.ensures) in
    (omega arith, search rules, allocate_room c.args.list c.args.actor c.args.n c.args.kind c.args.part c.args.i _ e)

pub returns : goal.returns
unfolding held_bytes
returns c =
    let e : c.held-fields.result.bytes ≡ padded 22 0 (7 ∷ c.args.actor ∷ c.args.n ∷ c.args.kind ∷ (bytes_of 8 c.args.part ++ (c.args.i ∷ []))) =
    ap (λ (w : Written). w.bytes) c.held-fields.ensures
    ∙ ap (λ (l : List ℕ). padded 22 0 (7 ∷ c.args.actor ∷ c.args.n ∷ c.args.kind ∷ l)) (part_bytes c.args.part c.args.i _ c.to_be_bytes.ensures) in
    rw c.from-count.ensures (allocate_left c.args.list c.args.actor c.args.n c.args.kind c.args.part c.args.i _ e (omega arith) _ c.with_list.ensures)
