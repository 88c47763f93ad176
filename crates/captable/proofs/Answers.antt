-- What a call brings back of an answer, whichever way it was worked. Assumes nothing.
use mathlib.Core.Path.{◌≡◌, ◌∙◌, ap}
use mathlib.Core.List.{List}
use Prim.Native.Nat.{ℕ}
use Rattle.table.specs.declared.Table.{Table}
use Rattle.access.specs.declared.AccessRefusal.{AccessRefusal}
use Rattle.access.specs.Answers.{access_of}
use Rattle.bounds.specs.declared.EntryList.{EntryList}
use Rattle.bounds.specs.StandIn.{entries_of}
use Rattle.std.specs.Prelude.{Result}
use Rattle.bounds.specs.declared.Grown.{Grown}
use Rattle.confinement.specs.declared.TestRefusal.{TestRefusal}
use Rattle.confinement.specs.Tests.{test_of}
use Rattle.entries.specs.Entries.{entries_in, held_entries}
use Rattle.entries.proofs.Lists.{test_bytes}
use Rattle.captable.specs.Crossing.{related, found}

pub access_crosses : (t : Table) (a : Result (List ℕ) AccessRefusal) → a ≡ access_of t → related a ≡ related (access_of t)
access_crosses t a e = ap related e

pub test_crosses : (t : Table) (members : ℕ) (bytes : List ℕ) (l : EntryList) (r : Result Grown TestRefusal) → l ≡ held_entries bytes → r ≡ test_of t members (entries_of l)
    → found r ≡ found (test_of t members (entries_in bytes))
test_crosses t members bytes l r e f = ap found (f ∙ ap (λ (x : EntryList). test_of t members (entries_of x)) e ∙ test_bytes t members bytes)
