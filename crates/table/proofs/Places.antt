-- A fact of what is read at a place of a list: of the element there, or of the default past the end. For lists that a
-- tabulation or a repeat has made, by induction on its length; for one that a put has made see Lists. Assumes nothing.
use Prim.Native.Nat.{ℕ, zero, suc}
use lib.ListN.{get_or, replicate}
use Rattle.table.specs.Lists.{tabulate}

module _ {A : Type 0} (P : A → Type 0) (d : A) where
  pub at_tabulate : (n : ℕ) (f : ℕ → A) (k : ℕ) → P (f k) → P d → P (get_or (tabulate n f) k d)
  unfolding tabulate
  at_tabulate zero f k within past = past
  at_tabulate (suc n) f zero within past = within
  at_tabulate (suc n) f (suc k) within past = at_tabulate n (λ i. f (suc i)) k within past

  pub at_replicate : (a : A) (n k : ℕ) → P a → P d → P (get_or (replicate n a) k d)
  at_replicate a zero k within past = past
  at_replicate a (suc n) zero within past = within
  at_replicate a (suc n) (suc k) within past = at_replicate a n k within past
