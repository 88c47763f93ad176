-- What crosses of a chain that is not shown: 63 zeros are the padding of no number. Assumes nothing.
use mathlib.Core.Path.{◌≡◌, sym, ◌∙◌, ap, ap₂}
use mathlib.Core.List.{List}
use Prim.Native.Nat.{ℕ}
use lib.ListN.{replicate}
use Rattle.std.specs.Prelude.{Result, Err}
use Rattle.walks.specs.declared.Walked.{Walked}
use Rattle.walks.proofs.Lengths.{none_padded}
use Rattle.chains.specs.declared.ChainRefusal.{ChainRefusal}
use Rattle.chains.specs.Answers.{chain_refusal_number}
use Rattle.captable.specs.declared.ShownChain.{ShownChain}
use Rattle.captable.specs.Crossing.{chained}
use Rattle.captable.proofs.ShownChainFromResultWalkedChainRefusal.from.Goals as goal

refused : (r : Result Walked ChainRefusal) (why : ChainRefusal) (n : ℕ) → r ≡ Err why → n ≡ chain_refusal_number why
    → ◌≡◌ {A = ShownChain} (record { numbers = replicate 63 0; count = 0; number = n }) (chained r)
refused r why n e f = ap₂ {C = ShownChain} (λ (l : List ℕ) (k : ℕ). record { numbers = l; count = 0; number = k }) none_padded f ∙ ap chained (sym e)

pub returns-in-Err : goal.returns-in-Err
returns-in-Err c = refused c.args.shown _ _ c.in-Err.is c.number.ensures
