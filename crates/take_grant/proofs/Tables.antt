-- The table of entities as the walk makes it: none yet, an entity begun, one capability more. By the places of a row that grows at its end.
-- Assumes nothing.
use mathlib.Core.Path.{◌≡◌, refl, sym, ◌∙◌, ap, ap₂}
use mathlib.Core.Logic.{◌≢◌}
use mathlib.Core.Bool.{true}
use mathlib.Core.List.{List, [], ◌∷◌, ◌++◌}
use Prim.Native.Nat.{ℕ, zero, suc, ◌+◌, ◌*◌, ◌/◌, ◌%◌, ◌<◌}
use native.Mathlib.Omega.{arith}
use lib.Dec.{ltb}
use lib.ListN.{length, get_or, set, length-set, length-append, get_or-eq_default}
use lib.Seq.{get_or-set_same, get_or-set_other, get_or_at}
use borrow.Author.Tests.{lt-ltb, ltb-true}
use Rattle.mask.proofs.Tests.{by_eq, bool_ext}
use Rattle.table.specs.declared.Table.{Table}
use Rattle.table.specs.Cells.{empty_slot, no_record, unborn_table, put_record, put_slot}
use Rattle.table.specs.Lists.{tabulate}
use Rattle.table.proofs.Lists.{length_tabulate, get_d_tabulate, as_tabulate}
use Rattle.table.proofs.Cells.{tables_same}
use Rattle.mask.specs.Sets.{bits}
use Rattle.take_grant.specs.Entities.{Cap, Entity, mapped, no_cap, cap_at}
use Rattle.take_grant.specs.Imports.{entity_record, record_for, slot_for, table_of}

-- a row with one more at its end ----------------------------------------------------------
module _ {A : Type 0} where
  others_at : (xs : List A) (x d : A) (n k : ℕ) → length xs ≡ n → k ≢ n → get_or (xs ++ (x ∷ [])) k d ≡ get_or xs k d
  others_at [] x d n zero e h = absurd (h e)
  others_at [] x d n (suc k) e h = refl
  others_at (y ∷ ys) x d n zero e h = refl
  others_at (y ∷ ys) x d n (suc k) e h = others_at ys x d (length ys) k refl (λ q. h (ap suc q ∙ e))

  -- a tabulated list of which one place changes, or none
  set_tabulate : (n : ℕ) (f g : ℕ → A) (i : ℕ) (a d : A) → i < n → a ≡ g i → ((k : ℕ) → k ≢ i → f k ≡ g k) → set (tabulate n f) i a ≡ tabulate n g
  set_tabulate n f g i a d h e o =
      let l = length_tabulate n f in
      as_tabulate n g d (set (tabulate n f) i a) (length-set (tabulate n f) i a ∙ l)
      (λ k b. by_eq k i
      (λ q. rw q (get_or-set_same (tabulate n f) i a d (omega arith) ∙ e))
      (λ q. get_or-set_other (tabulate n f) i k a d q ∙ get_d_tabulate n f k d b ∙ o k q))

  same_tabulate : (n : ℕ) (f g : ℕ → A) (d : A) → ((k : ℕ) → f k ≡ g k) → tabulate n f ≡ tabulate n g
  same_tabulate n f g d e = as_tabulate n g d (tabulate n f) (length_tabulate n f) (λ k b. get_d_tabulate n f k d b ∙ e k)

-- no entity: the wholly unborn table
pub table_none : unborn_table ≡ table_of []
unfolding unborn_table table_of tabulate mapped bits
table_none = refl

-- an entity is begun: its record is there, and no slot of it
module _ (es : List Entity) (n : ℕ) (e : length es ≡ n) where
  begun_record : (m : ℕ) → m ≢ n → record_for es m ≡ record_for (es ++ ([] ∷ [])) m
  begun_record m h =
      let l = length-append es ([] ∷ []) in
      let b : ltb m (length es) ≡ ltb m (length (es ++ ([] ∷ []))) = bool_ext _ _
      (λ q. let g = ltb-true m (length es) q in lt-ltb m _ (omega arith)) (λ q. let g = ltb-true m (length (es ++ ([] ∷ []))) q in lt-ltb m _ (omega arith)) in
      rw (b, record_for) refl

  begun_cap : (m k : ℕ) → cap_at es m k ≡ cap_at (es ++ ([] ∷ [])) m k
  begun_cap m k = by_eq m n
      (λ q. ap (λ (x : Entity). get_or x k no_cap) (get_or-eq_default es [] {n = m} (omega arith) ∙ sym (get_or_at es [] [] [] m (e ∙ sym q))))
      (λ q. ap (λ (x : Entity). get_or x k no_cap) (sym (others_at es [] [] n m e q)))

  pub begun : (t : Table) → n < 64 → t ≡ table_of es → put_record t n entity_record ≡ table_of (es ++ ([] ∷ []))
  unfolding table_of
  begun t h q =
      let l = length-append es ([] ∷ []) in
      let b : ltb n (length (es ++ ([] ∷ []))) ≡ true = lt-ltb n _ (omega arith) in
      rw q (tables_same
      (set_tabulate 64 (record_for es) (record_for (es ++ ([] ∷ []))) n entity_record no_record h (rw (b, record_for) refl) begun_record)
      (same_tabulate 512 _ _ empty_slot (λ i. ap slot_for (begun_cap (i / 8) (i % 8)))))

-- one capability more
module _ (es : List Entity) (cs : List Cap) (c : Cap) (n k : ℕ) (e : length es ≡ n) (f : length cs ≡ k) where
  more_same : cap_at (es ++ ((cs ++ (c ∷ [])) ∷ [])) n k ≡ c
  more_same = ap (λ (x : Entity). get_or x k no_cap) (get_or_at es (cs ++ (c ∷ [])) [] [] n e) ∙ get_or_at cs c [] no_cap k f

  more_other : (m j : ℕ) → ((m ≡ n) → (j ≡ k) → ⊥) → cap_at (es ++ (cs ∷ [])) m j ≡ cap_at (es ++ ((cs ++ (c ∷ [])) ∷ [])) m j
  more_other m j h = by_eq m n
      (λ q. ap (λ (x : Entity). get_or x j no_cap) (get_or_at es cs [] [] m (e ∙ sym q)) ∙ sym (others_at cs c no_cap k j f (h q))
      ∙ ap (λ (x : Entity). get_or x j no_cap) (sym (get_or_at es (cs ++ (c ∷ [])) [] [] m (e ∙ sym q))))
      (λ q. ap (λ (x : Entity). get_or x j no_cap) (others_at es cs [] n m e q ∙ sym (others_at es (cs ++ (c ∷ [])) [] n m e q)))

  more_length : (m : ℕ) → record_for (es ++ (cs ∷ [])) m ≡ record_for (es ++ ((cs ++ (c ∷ [])) ∷ [])) m
  more_length m = let l : length (es ++ (cs ∷ [])) ≡ length (es ++ ((cs ++ (c ∷ [])) ∷ [])) = length-append es _ ∙ sym (length-append es _) in rw (l, record_for) refl

  pub held_more : (t : Table) → n < 64 → k < 8 → t ≡ table_of (es ++ (cs ∷ [])) → put_slot t n k (slot_for c) ≡ table_of (es ++ ((cs ++ (c ∷ [])) ∷ []))
  unfolding table_of
  held_more t h g q = rw q (tables_same
      (same_tabulate 64 _ _ no_record more_length)
      (set_tabulate 512 _ _ (n * 8 + k) (slot_for c) empty_slot (omega arith)
      (sym (ap slot_for (ap₂ (λ (m j : ℕ). cap_at (es ++ ((cs ++ (c ∷ [])) ∷ [])) m j) (omega arith) (omega arith) ∙ more_same)))
      (λ i o. ap slot_for (more_other (i / 8) (i % 8) (λ a b. o (omega arith))))))
