-- `table_links`: the words of the slots between born numbers are those of the table. Assumes nothing.
use mathlib.Core.Path.{◌∙◌, ap}
use Prim.Native.Nat.{ℕ}
use Rattle.links.specs.Links.{link_words, slot_holding}
use Rattle.links.proofs.Holdings.{table_links}
use Rattle.links.proofs.table_links.Goals as goal

pub returns : goal.returns
returns c = let t = c.args.t in
    c.slot_links.ensures ∙ ap (λ (m : ℕ). link_words (slot_holding t.slots m)) c.born_outside-born.ensures ∙ table_links t
