-- The first k elements of a list changed: one more by a put, none at the start, all at the end, and then what that leaves of a table.
-- By the list. Assumes nothing.
use mathlib.Core.Path.{◌≡◌, refl, ap, ◌∙◌}
use mathlib.Core.List.{List, [], ◌∷◌, map}
use Prim.Native.Nat.{ℕ, zero, suc, ◌+◌, ◌≤◌, ◌<◌}
use native.Mathlib.Numerals.{add-one}
use native.Mathlib.Omega.{arith}
use lib.ListN.{length, get_or, set}
use Rattle.table.specs.declared.Capability.{Capability}
use Rattle.table.specs.declared.Record.{Record}
use Rattle.table.specs.declared.Table.{Table}
use Rattle.table.proofs.Cells.{tables_same}
use Rattle.forgetting.specs.Forgetting.{unnamed, unmade, slots_forgotten, makers_forgotten}

unfoldable pub map_first : {A : Type 0} → (A → A) → ℕ → List A → List A
map_first f zero l = l
map_first f (suc k) [] = []
map_first f (suc k) (x ∷ xs) = f x ∷ map_first f k xs

module _ {A : Type 0} (f : A → A) where
  pub mapped_none : (l : List A) → l ≡ map_first f 0 l
  unfolding map_first
  mapped_none l = refl

  one_more : (k : ℕ) (l : List A) (d : A) → k < length l → set (map_first f k l) k (f (get_or (map_first f k l) k d)) ≡ map_first f (suc k) l
  unfolding map_first
  one_more k [] d h = absurd (omega arith)
  one_more zero (x ∷ xs) d h = refl
  one_more (suc k) (x ∷ xs) d h = ap (λ (l : List A). f x ∷ l) (one_more k xs d (omega arith))

  pub mapped_more : (k : ℕ) (l u : List A) (d a : A) → k < length l → u ≡ map_first f k l → a ≡ f (get_or u k d) → set u k a ≡ map_first f (k + 1) l
  mapped_more k l u d a h e g = ap (set u k) g ∙ ap (λ (x : List A). set x k (f (get_or x k d))) e ∙ one_more k l d h ∙ rw (add-one k) refl

  pub mapped_length : (k : ℕ) (l : List A) → length (map_first f k l) ≡ length l
  unfolding map_first
  mapped_length zero l = refl
  mapped_length (suc k) [] = refl
  mapped_length (suc k) (x ∷ xs) = ap suc (mapped_length k xs)

  pub mapped_all : (k : ℕ) (l : List A) → length l ≡ k → map_first f k l ≡ map f l
  unfolding map_first
  mapped_all zero [] h = refl
  mapped_all zero (x ∷ xs) h = absurd (omega arith)
  mapped_all (suc k) [] h = refl
  mapped_all (suc k) (x ∷ xs) h = ap (λ (l : List A). f x ∷ l) (mapped_all k xs (omega arith))

-- a record with another maker byte
abbrev pub with_maker : Record → ℕ → Record
with_maker r m = record { status = r.status; kind = r.kind; maker = m; word = r.word; stock = r.stock }

-- all of a table's slots, and all of its maker bytes
pub slots_done : (t : Table) (u : List Capability) (g k : ℕ) → length t.slots ≡ 512 → 512 ≤ k → k ≤ 512 → u ≡ map_first (unnamed g) k t.slots
    → ◌≡◌ {A = Table} (record { records = t.records; slots = u }) (slots_forgotten t g)
unfolding slots_forgotten
slots_done t u g k z h l e = tables_same refl (e ∙ mapped_all (unnamed g) k t.slots (omega (arith, z)))

pub makers_done : (t : Table) (u : List Record) (g n : ℕ) → length t.records ≡ 64 → 64 ≤ n → n ≤ 64 → u ≡ map_first (unmade g) n t.records
    → ◌≡◌ {A = Table} (record { records = u; slots = t.slots }) (makers_forgotten t g)
unfolding makers_forgotten
makers_done t u g n z h l e = tables_same (e ∙ mapped_all (unmade g) n t.records (omega (arith, z))) refl
