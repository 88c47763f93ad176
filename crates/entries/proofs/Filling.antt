-- The loop over the entries that are filled: those passed are the bytes' entries, and those past the count stay empty. Assumes nothing.
use mathlib.Core.Path.{◌≡◌, sym, ◌∙◌}
use mathlib.Core.List.{List, ◌++◌}
use Prim.Native.Nat.{ℕ, ◌+◌, ◌-◌, ◌≤◌, ◌<◌}
use native.Mathlib.Omega.{arith}
use lib.Dec.{ltb}
use lib.ListN.{length, length-append, get_or, get_or-eq_default, set, drop, replicate}
use borrow.Author.Tests.{ltb-true, ltb-false}
use Rattle.std.proofs.lemmas.List.{get_or_append_left, get_or-append_right, get_or-drop, get_or-replicate, get_or-set_same, get_or-set_other, length-drop}
use Rattle.mask.proofs.Tests.{by_cases, by_eq}
use Rattle.table.specs.declared.Capability.{Capability}
use Rattle.table.specs.Cells.{empty_slot}
use Rattle.table.specs.Lists.{tabulate, padded}
use Rattle.table.proofs.Lists.{length_tabulate, get_d_tabulate, as_tabulate}

module _ (f : ℕ → Capability) where
  pub filled_more : (items : List Capability) (k : ℕ) (a : Capability) → k < length items → a ≡ f k → ((i : ℕ) → i < k → get_or items i empty_slot ≡ f i)
      → (i : ℕ) → i < k + 1 → get_or (set items k a) i empty_slot ≡ f i
  filled_more items k a h e p i l = by_eq i k
      (λ q. rw q (get_or-set_same items k a empty_slot h ∙ e))
      (λ q. get_or-set_other items k i a empty_slot q ∙ p i (omega (arith, q)))

  pub filled_padded : (items : List Capability) (n : ℕ) → n ≤ 8 → length items ≡ n → ((i : ℕ) → i < n → get_or items i empty_slot ≡ f i)
      → items ++ drop n (replicate 8 empty_slot) ≡ padded 8 empty_slot (tabulate n f)
  unfolding padded
  filled_padded items n h e p =
      let rest = drop n (replicate 8 empty_slot) in
      as_tabulate 8 (λ k. get_or (tabulate n f) k empty_slot) empty_slot _
      (omega (arith, length-append items rest, length-drop n (replicate 8 empty_slot), e))
      (λ k g. by_cases (ltb k n)
      (λ q. let l = ltb-true k n q in get_or_append_left items rest empty_slot k (omega (arith, l, e)) ∙ p k l ∙ sym (get_d_tabulate n f k empty_slot l))
      (λ q. let l = ltb-false k n q in
      get_or-append_right items rest n k empty_slot e l ∙ get_or-drop n (replicate 8 empty_slot) (k - n) empty_slot
      ∙ get_or-replicate 8 (n + (k - n)) empty_slot empty_slot (omega (arith, l, g))
      ∙ sym (get_or-eq_default (tabulate n f) empty_slot (omega (arith, l, length_tabulate n f)))))
