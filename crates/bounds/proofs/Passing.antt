-- The lowest number that passes a test: it passes, it is below the limit, and no number that passes is lower, where there is one at
-- all. By the numbers that are looked at. Assumes nothing.
use mathlib.Core.Path.{◌≡◌}
use mathlib.Core.Bool.{Bool, true}
use Prim.Native.Nat.{ℕ, zero, suc, ◌+◌, ◌≤◌, ◌<◌}
use native.Mathlib.Omega.{arith}
use Rattle.mask.proofs.Tests.{by_cases, by_eq, clash}
use Rattle.bounds.specs.StandIn.{lowest_from}

-- what the lowest number from i on is, n numbers being looked at, where k among them passes
pub record Lowest (p : ℕ → Bool) (k low : ℕ) : Type 0 where
  pub passes : p low ≡ true
  pub least : low ≤ k

pub lowest_from_lem : (p : ℕ → Bool) (n i k : ℕ) → i ≤ k → k < n + i → p k ≡ true → Lowest p k (lowest_from n i p)
unfolding lowest_from
lowest_from_lem p zero i k h g e = absurd (omega arith)
lowest_from_lem p (suc n) i k h g e = by_cases (p i)
    (λ q. rw (q, lowest_from) (record { passes = q; least = h }))
    (λ q. rw (q, lowest_from) (by_eq i k
    (λ z. let f : p i ≡ true = rw z e in clash f q)
    (λ z. lowest_from_lem p n (suc i) k (omega arith) (omega arith) e)))
