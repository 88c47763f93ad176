-- Bytes or a code that are no request still come from somebody: from a clean object they count as its request, and the reply to them is
-- among those that demand 3 compares. For every table, clean set and run. By the definitions at an unknown code. Assumes nothing.
use mathlib.Core.Path.{◌≡◌, refl}
use mathlib.Core.Bool.{true}
use mathlib.Core.List.{List, ◌∷◌}
use Prim.Native.Nat.{ℕ}
use Rattle.table.specs.declared.Table.{Table}
use Rattle.requests.specs.Asks.{Ask, unknown}
use Rattle.refusals.specs.Refusals.{refusal}
use Rattle.steps.specs.Steps.{after}
use Rattle.isolation.specs.Clean.{Clean, clean_after, clean_requests, clean_replies}

module _ (t : Table) (C : Clean) (code a : ℕ) (qs : List Ask) (clean : C a ≡ true) where
  pub nonsense_counts : clean_requests t C (unknown code a ∷ qs) ≡ unknown code a ∷ clean_requests (after t (unknown code a)) C qs
  unfolding clean_requests clean_after
  nonsense_counts = rw (clean, clean_requests) refl

  pub nonsense_replied : clean_replies t C (unknown code a ∷ qs) ≡ refusal t (unknown code a) ∷ clean_replies (after t (unknown code a)) C qs
  unfolding clean_replies clean_after
  nonsense_replied = rw (clean, clean_replies) refl
