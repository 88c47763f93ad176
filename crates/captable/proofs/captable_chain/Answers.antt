-- `captable::captable_chain` meets its contract: the list that is held is answered as the one of the bytes. Assumes nothing.
use mathlib.Core.Path.{◌≡◌, sym, ◌∙◌, ap}
use mathlib.Core.List.{List}
use Prim.Native.Nat.{ℕ}
use Rattle.table.specs.declared.Capability.{Capability}
use Rattle.table.specs.declared.Table.{Table}
use Rattle.bounds.specs.declared.EntryList.{EntryList}
use Rattle.bounds.specs.StandIn.{entries_of}
use Rattle.chains.specs.Answers.{chain_of}
use Rattle.chains.proofs.Ways.{long_refused, chain_refused}
use Rattle.entries.specs.Entries.{entries_in, held_entries}
use Rattle.entries.proofs.Lists.{by_length, test_bytes}
use Rattle.captable.specs.Crossing.{chained}
use Rattle.captable.proofs.captable_chain.Goals as goal

chain-bytes : (t : Table) (members z : ℕ) (bytes : List ℕ) → chain_of t members (entries_of (held_entries bytes)) z ≡ chain_of t members (entries_in bytes) z
chain-bytes t members z bytes = by_length bytes
    (ap (λ (l : List Capability). chain_of t members l z))
    (λ h e. sym (chain_refused t members (entries_in bytes) (entries_of (held_entries bytes)) z (sym (test_bytes t members bytes)) (long_refused t members (entries_in bytes) h)))

pub returns : goal.returns
returns c = c.from.ensures
    ∙ ap chained (c.chain.ensures ∙ ap (λ (x : EntryList). chain_of c.args.table c.args.members (entries_of x) c.args.object) c.list_of-entries.ensures ∙ chain-bytes c.args.table c.args.members c.args.object c.args.list.now)
