-- The request that bytes are has at most 4 pairs, so the code's two values for it are that request: `asked_ask`. By the code. Assumes
-- nothing.
use mathlib.Core.Path.{◌≡◌, refl, sym, ap}
use mathlib.Core.Bool.{true}
use mathlib.Core.List.{List}
use Prim.Native.Nat.{ℕ, ◌≤◌}
use native.Mathlib.Omega.{arith}
use lib.ListN.{length}
use Rattle.mask.proofs.Tests.{by_cases, by_eq}
use Rattle.requests.specs.Asks.{pairs_in, ask_of}
use Rattle.requests.proofs.Held.{held_ask}
use Rattle.wire.specs.Wires.{code_in, count_in, fits_of, list_in, fields_of, ask_from, asked_of}
use Rattle.wire.proofs.Sizes.{send_count, allocate_count}
use Rattle.wire.proofs.Fields.{length_list, send_fields, allocate_fields, no_list, ask_fit, ask_unfit}

module _ (bs : List ℕ) where
  -- a list that is the bytes' list, or none
  as_list : pairs_in (fields_of bs) ≡ list_in bs → count_in bs ≤ 4 → length (pairs_in (fields_of bs)) ≤ 4
  as_list e h = rw e (omega (arith, length_list bs))

  fields_few : fits_of bs ≡ true → length (pairs_in (fields_of bs)) ≤ 4
  fields_few f =
      by_eq (code_in bs) 6 (λ e. as_list (ap pairs_in (sym (send_fields bs _ _ refl refl e _ refl _ refl))) (send_count bs f e))
      (λ n6. by_eq (code_in bs) 7 (λ e. as_list (ap pairs_in (sym (allocate_fields bs _ _ refl refl e _ _ _ refl refl refl))) (allocate_count bs f e))
      (λ n7. rw (no_list bs n6 n7) (omega arith)))

  pub ask_few : length (pairs_in (ask_from bs)) ≤ 4
  ask_few = by_cases (fits_of bs) (λ e. rw (← ask_fit bs e) (fields_few e)) (λ e. rw (← ask_unfit bs e) (omega arith))

  pub asked_ask : ask_of (asked_of (ask_from bs)).request (asked_of (ask_from bs)).list ≡ ask_from bs
  asked_ask = held_ask (ask_from bs) ask_few
