-- The lowest member, as the zeros below it; who takes part in the test's holding, and what is held there. Assumes nothing.
use mathlib.Core.Path.{◌≡◌, refl, ◌∙◌, ap, subst}
use mathlib.Core.Bool.{Bool, true, false, not}
use mathlib.Core.List.{List}
use Prim.Native.Nat.{ℕ, zero, suc, ◌+◌, ◌-◌, ◌^◌, ◌≤◌, ◌<◌}
use native.Mathlib.Omega.{arith}
use native.Mathlib.Numerals.{add-one}
use lib.Count.{count_trailing_zeros}
use lib.Dec.{ltb, eqb}
use lib.ListN.{length}
use borrow.Author.Tests.{lt-ltb, eqb-true, eq-eqb, not-true}
use Rattle.mask.specs.Sets.{has}
use Rattle.mask.proofs.Tests.{by_cases, by_eq, and_true, and_intro}
use Rattle.mask.proofs.Bits.{has_zero}
use Rattle.mask.proofs.Lowest.{tz_there, tz_first, tz_none}
use Rattle.table.specs.declared.Capability.{Capability}
use Rattle.table.specs.declared.Table.{Table}
use Rattle.table.specs.Cells.{slot_of, empty_slot}
use Rattle.table.proofs.Lists.{length_tabulate, get_d_tabulate}
use Rattle.relation.specs.Relation.{Right, Holding, takes_part, holds_in}
use Rattle.access.specs.Answers.{born_outside}
use Rattle.access.proofs.TableWords.{outside_facts, outside_intro}
use Rattle.bounds.specs.declared.EntryList.{EntryList}
use Rattle.bounds.specs.StandIn.{entries_of, entry_at, listed, lowest_from, stand_in, test_node, test_held, test_holding}

-- the lowest member, as the zeros below it -------------------------------------------
-- no number below i is in the set
record Seek (set i : ℕ) : Type 0 where
  pub rest : lowest_from (64 - i) i (λ n. has n set) ≡ stand_in set

seek_none : (set : ℕ) → Seek set 0
unfolding stand_in
seek_none set = record { rest = refl }

seek_more : (set i : ℕ) → i < 64 → has i set ≡ false → Seek set i → Seek set (i + 1)
unfolding lowest_from
seek_more set i h e s =
    let f : 64 - i ≡ suc (64 - suc i) = omega arith in
    record { rest = rw add-one (rw (e, lowest_from) at (subst (λ (k : ℕ). lowest_from k i (λ n. has n set) ≡ stand_in set) f s.rest)) }

seek_found : (set i : ℕ) → i < 64 → has i set ≡ true → Seek set i → i ≡ stand_in set
unfolding lowest_from
seek_found set i h e s =
    let f : 64 - i ≡ suc (64 - (i + 1)) = omega arith in
    rw (e, lowest_from) at (subst (λ (k : ℕ). lowest_from k i (λ n. has n set) ≡ stand_in set) f s.rest)

seek_end : (set i : ℕ) → 64 ≤ i → i ≤ 64 → Seek set i → i ≡ stand_in set
unfolding lowest_from
seek_end set i h l s = let f : 64 - i ≡ 0 = omega arith in subst (λ (k : ℕ). lowest_from k i (λ n. has n set) ≡ stand_in set) f s.rest

seek_to : (set i : ℕ) → i ≤ 64 → ((j : ℕ) → j < i → has j set ≡ false) → Seek set i
seek_to set zero h f = seek_none set
seek_to set (suc i) h f = rw add-one at (seek_more set i (omega arith) (f i (omega arith)) (seek_to set i (omega arith) (λ j l. f j (omega arith))))

pub zeros_stand_in : (set : ℕ) → set < 2 ^ 64 → count_trailing_zeros 64 set ≡ stand_in set
zeros_stand_in set l = by_eq set 0
    (λ z. ap (count_trailing_zeros 64) z ∙ tz_none 64
    ∙ seek_end set 64 (omega arith) (omega arith) (seek_to set 64 (omega arith) (λ j h. ap (has j) z ∙ has_zero j)))
    (λ q. let t = tz_there 64 set (omega (arith, q)) l in
    seek_found set (count_trailing_zeros 64 set) t.0 t.1 (seek_to set (count_trailing_zeros 64 set) (omega (arith, t.0)) (tz_first 64 set)))

lowest_has : (f i : ℕ) (p : ℕ → Bool) → lowest_from f i p < f + i → p (lowest_from f i p) ≡ true
unfolding lowest_from
lowest_has zero i p h = absurd (omega arith)
lowest_has (suc f) i p h = by_cases (p i)
    (λ e. rw (e, lowest_from) e)
    (λ e. rw (e, lowest_from) (lowest_has f (suc i) p (omega (arith, rw (e, lowest_from) at h))))

pub standing : (set : ℕ) → stand_in set < 64 → has (stand_in set) set ≡ true
unfolding stand_in
standing set h = lowest_has 64 0 (λ n. has n set) (omega arith)

-- who takes part in the test's holding: the born non-members and the stand-in -----------------------
module _ (t : Table) (members : ℕ) where
  pub node_out : (n : ℕ) → takes_part t n ≡ true → has n members ≡ false → test_node t members n ≡ true
  unfolding test_node
  node_out n e o = rw (o, test_node) e

  pub node_born : (n : ℕ) → test_node t members n ≡ true → has n members ≡ false → takes_part t n ≡ true
  unfolding test_node
  node_born n e o = rw (o, test_node) at e

  pub node_x : stand_in members < 64 → test_node t members (stand_in members) ≡ true
  unfolding test_node
  node_x low = rw (standing members low, test_node)
      (and_intro (ltb (stand_in members) 64) (eqb (stand_in members) (stand_in members)) (lt-ltb (stand_in members) 64 low) (eq-eqb (stand_in members) (stand_in members) refl))

  pub node_x_only : (n : ℕ) → test_node t members n ≡ true → has n members ≡ true → n ≡ stand_in members
  unfolding test_node
  node_x_only n e m = eqb-true n (stand_in members) (and_true (ltb n 64) (eqb n (stand_in members)) (rw (m, test_node) at e)).1

-- and what is held there, with the list as the code has it ---------------------------------------------
module _ (t : Table) (members : ℕ) (l : EntryList) (low : stand_in members < 64) where
  abbrev X : ℕ
  X = stand_in members

  abbrev list : List Capability
  list = entries_of l

  abbrev H : Holding
  H = test_holding t members list

  abbrev F : ℕ
  F = born_outside t.records members

  lowest : has X members ≡ true
  lowest = standing members low

  pub free_node : (x : ℕ) → has x F ≡ true → test_node t members x ≡ true
  free_node x e = let p = outside_facts t members x e in node_out t members x p.0 p.1

  pub node_cases : {P : Type 0} (x : ℕ) → test_node t members x ≡ true → (has x members ≡ false → has x F ≡ true → P) → (has x members ≡ true → x ≡ X → P) → P
  node_cases x e f g = by_cases (has x members)
      (λ h. g h (node_x_only t members x e h))
      (λ h. f h (outside_intro t members x (node_born t members x e h) h))

  pub held_free : (b : Right) (x y : ℕ) → has x members ≡ false → has y members ≡ false → holds_in t b x y ≡ true → test_held t members list b x y ≡ true
  unfolding test_held
  held_free b x y u v e = rw (v, u, test_held) e

  pub held_x : (b : Right) (y : ℕ) → has y members ≡ false → listed list b y ≡ true → test_held t members list b X y ≡ true
  unfolding test_held
  held_x b y v e = rw (v, lowest, test_held) (and_intro (eqb X X) (listed list b y) (eq-eqb X X refl) e)

  pub held_not : (b : Right) (x y : ℕ) → test_held t members list b x y ≡ true → has y members ≡ false
  unfolding test_held
  held_not b x y e = not-true _ (and_true (not (has y members)) _ e).0

  pub held_cases : {P : Type 0} (b : Right) (x y : ℕ) → test_held t members list b x y ≡ true → has y members ≡ false
      → (has x members ≡ false → holds_in t b x y ≡ true → P) → (x ≡ X → listed list b y ≡ true → P) → P
  unfolding test_held
  held_cases b x y e v f g = by_cases (has x members)
      (λ h. let p = and_true (eqb x X) (listed list b y) (rw (v, h, test_held) at e) in g (eqb-true x X p.0) p.1)
      (λ h. f h (rw (v, h, test_held) at e))

  -- the list's entries, as the code holds them
  pub entry_at_lem : (k : ℕ) → k < l.count → entry_at list k ≡ slot_of l.entries k
  unfolding entries_of
  entry_at_lem k h = get_d_tabulate l.count _ k empty_slot h

  pub long : length list ≡ l.count
  unfolding entries_of
  long = length_tabulate l.count _
