-- Copying a list of pairs: one pair more, copies from a row that holds an object's eight slots, and what empty pairs do: none empties
-- a slot, they can be left out, and a later one wins where it is not empty. By induction on the count or on the list. Assumes nothing.
use mathlib.Core.Path.{◌≡◌, refl, sym, ◌∙◌, ap}
use mathlib.Core.Bool.{true, false, not, ◌&&◌, ◌||◌}
use mathlib.Core.List.{List, [], ◌∷◌, ◌++◌}
use Prim.Native.Nat.{ℕ, zero, suc, ◌+◌, ◌<◌}
use native.Mathlib.Numerals.{add-one}
use native.Mathlib.Omega.{arith}
use lib.Dec.{eqb}
use lib.ListN.{get_or, length}
use borrow.Author.Tests.{eq-eqb, ne_eqb}
use Rattle.mask.proofs.Tests.{by_cases, by_eq, or_none}
use Rattle.table.specs.declared.Capability.{Capability}
use Rattle.table.specs.declared.Table.{Table}
use Rattle.table.specs.Lists.{tabulate}
use Rattle.table.specs.Cells.{empty_slot, record_at, slot_at, put_slot, is_empty}
use Rattle.table.proofs.Cells.{Sized, table_sized, slot_same, slot_beside, sized_put_slot}
use Rattle.table.proofs.Lists.{get_d_tabulate, as_tabulate, tabulate_snoc}
use Rattle.requests.specs.declared.Pair.{Pair}
use Rattle.requests.specs.declared.PairList.{PairList}
use Rattle.requests.specs.Asks.{pair_at, pairs_of}
use Rattle.refusals.specs.Refusals.{no_slot, bad_slots}
use Rattle.refusals.specs.Helpers.{PairsFit}
use Rattle.refusals.proofs.Rows.{slots_placed}
use Rattle.copies.specs.declared.Row.{Row}
use Rattle.copies.specs.Copies.{landed, copy_to, copy_pairs}
use Rattle.copies.specs.Helpers.{row_at, cell_of}
use Rattle.copies.specs.Exactness.{EmptyCopyNothing, CopyEmptiesNone, LeftOut, none, kept, left, LeftOutSame, last_filled, LastFilledWins}
use Rattle.copies.proofs.Landing.{landed_filled, empty_copy_nothing, copy_empties_none}

-- copying ---------------------------------------------------------------------------------------------
copy_snoc : (t : Table) (source : ℕ → Capability) (n : ℕ) (ps : List Pair) (p : Pair)
    → copy_pairs t source n (ps ++ (p ∷ [])) ≡ copy_to (copy_pairs t source n ps) n p.to (source p.from)
unfolding copy_pairs
copy_snoc t source n [] p = refl
copy_snoc t source n (q ∷ ps) p = copy_snoc (copy_to t n q.to (source q.from)) source n ps p

-- no record is touched
pub copies_record : (t : Table) (source : ℕ → Capability) (n : ℕ) (ps : List Pair) (m : ℕ) → record_at (copy_pairs t source n ps) m ≡ record_at t m
unfolding copy_pairs
copies_record t source n [] m = refl
copies_record t source n (p ∷ ps) m = copies_record (copy_to t n p.to (source p.from)) source n ps m

pub copy_none : (t : Table) (source : ℕ → Capability) (n : ℕ) (f : ℕ → Pair) → t ≡ copy_pairs t source n (tabulate 0 f)
unfolding copy_pairs tabulate
copy_none t source n f = refl

-- `u` is the table after x pairs, `p` the pair at x, and `c` what landed by it
pub copy_more : (t u : Table) (source : ℕ → Capability) (n x : ℕ) (f : ℕ → Pair) (p : Pair) (c : Capability)
    → u ≡ copy_pairs t source n (tabulate x f) → p ≡ f x → c ≡ landed (slot_at u n p.to) (source p.from)
    → put_slot u n p.to c ≡ copy_pairs t source n (tabulate (x + 1) f)
copy_more t u source n x f p c e q h =
    ap (put_slot u n p.to) h
    ∙ ap (λ (v : Table). copy_to v n p.to (source p.from)) e
    ∙ ap (λ (r : Pair). copy_to (copy_pairs t source n (tabulate x f)) n r.to (source r.from)) q
    ∙ rw (add-one x, tabulate_snoc x f) (sym (copy_snoc t source n (tabulate x f) (f x)))

pub copy_all : (t : Table) (source : ℕ → Capability) (n x : ℕ) (l : PairList) → x ≡ l.count
    → copy_pairs t source n (tabulate x (pair_at l)) ≡ copy_pairs t source n (pairs_of l)
unfolding pairs_of
copy_all t source n x l e = ap (λ (k : ℕ). copy_pairs t source n (tabulate k (pair_at l))) e

copy_same : (t : Table) (f g : ℕ → Capability) (n x : ℕ) (p : ℕ → Pair) → ((k : ℕ) → k < x → f (p k).from ≡ g (p k).from)
    → copy_pairs t f n (tabulate x p) ≡ copy_pairs t g n (tabulate x p)
unfolding copy_pairs tabulate
copy_same t f g n zero p h = refl
copy_same t f g n (suc x) p h =
    copy_same (copy_to t n (p 0).to (f (p 0).from)) f g n x (λ k. p (suc k)) (λ k b. h (suc k) (omega arith))
    ∙ ap (λ (c : Capability). copy_pairs (copy_to t n (p 0).to c) g n (tabulate x (λ k. p (suc k)))) (h 0 (omega arith))

-- a record's eight slots as a row ------------------------------------------------------------------------
pub row_is : (t : Table) (k : ℕ) (cells : List Capability) → length cells ≡ 8 → ((j : ℕ) → j < 8 → get_or cells j empty_slot ≡ slot_at t k j)
    → record { cells = cells } ≡ row_at t k
unfolding row_at
row_is t k cells z f = ap {B = Row} (λ (l : List Capability). record { cells = l }) (as_tabulate 8 (slot_at t k) empty_slot cells z f)

cell_is : (t : Table) (k j : ℕ) → j < 8 → cell_of (row_at t k) j ≡ slot_at t k j
unfolding row_at
cell_is t k j h = get_d_tabulate 8 (slot_at t k) j empty_slot h

-- copies from a row that holds a's slots are copies from a's slots
pub copy_row : (t u : Table) (a n : ℕ) (l : PairList) (row : Row) → PairsFit l → row ≡ row_at t a
    → copy_pairs u (cell_of row) n (pairs_of l) ≡ copy_pairs u (slot_at t a) n (pairs_of l)
unfolding pairs_of
copy_row t u a n l row fit e = copy_same u (cell_of row) (slot_at t a) n l.count (pair_at l)
    (λ k h. ap (λ (r : Row). cell_of r (pair_at l k).from) e ∙ cell_is t a _ (fit.pairs k h).0)

pub copies_sized : (t : Table) (source : ℕ → Capability) (n : ℕ) (ps : List Pair) → Sized t → Sized (copy_pairs t source n ps)
unfolding copy_pairs
copies_sized t source n [] z = z
copies_sized t source n (p ∷ ps) z = copies_sized (copy_to t n p.to (source p.from)) source n ps (sized_put_slot t n p.to _ z)

-- empty pairs -----------------------------------------------------------------------------------------
pub copies_empty_none : (t : Table) (source : ℕ → Capability) (n : ℕ) (ps : List Pair) (m k : ℕ) → is_empty (slot_at t m k) ≡ false
    → is_empty (slot_at (copy_pairs t source n ps) m k) ≡ false
unfolding copy_pairs CopyEmptiesNone
copies_empty_none t source n [] m k full = full
copies_empty_none t source n (p ∷ ps) m k full =
    copies_empty_none (copy_to t n p.to (source p.from)) source n ps m k (copy_empties_none t n p.to (source p.from) m k full)

left_out : (source : ℕ → Capability) (n : ℕ) (t : Table) {list shorter : List Pair} → LeftOut source list shorter
    → copy_pairs t source n shorter ≡ copy_pairs t source n list
unfolding copy_pairs EmptyCopyNothing
left_out source n t none = refl
left_out source n t (kept p r) = left_out source n (copy_to t n p.to (source p.from)) r
left_out source n t (left p {list} e r) =
    left_out source n t r ∙ ap (λ (v : Table). copy_pairs v source n list) (sym (empty_copy_nothing t n p.to (source p.from) e))

pub left_out_same : LeftOutSame
unfolding LeftOutSame
left_out_same t source n list shorter r = left_out source n t r

-- the later one wins, where it is not empty
module _ (source : ℕ → Capability) (n j : ℕ) (hn : n < 64) (hj : j < 8) where
  lands : (t : Table) (i : ℕ) (c : Capability) → Sized t → i < 8
      → slot_at (copy_to t n i c) n j ≡ elim (eqb i j && not (is_empty c)) [ true ↦ c | false ↦ slot_at t n j ]
  unfolding EmptyCopyNothing
  lands t i c z hi = by_eq i j
      (λ e. by_cases (is_empty c)
      (λ f. rw (eq-eqb i j e, f) (ap (λ (v : Table). slot_at v n j) (empty_copy_nothing t n i c f)))
      (λ f. rw (eq-eqb i j e, f, ← e) (slot_same t n i _ z hn hi ∙ landed_filled (slot_at t n i) c f)))
      (λ e. rw (ne_eqb i j e) (slot_beside t n i n j _ (λ q. e (sym q)) hi hj))

  pub wins : (t : Table) (ps : List Pair) → Sized t → bad_slots ps ≡ false → slot_at (copy_pairs t source n ps) n j ≡ last_filled source j (slot_at t n j) ps
  unfolding copy_pairs last_filled bad_slots
  wins t [] z e = refl
  wins t (p ∷ ps) z e =
      let a = or_none (no_slot p.from || no_slot p.to) (bad_slots ps) e in
      wins (copy_to t n p.to (source p.from)) ps (sized_put_slot t n p.to _ z) a.1
      ∙ ap (λ (x : Capability). last_filled source j x ps) (lands t p.to (source p.from) z (slots_placed p.from p.to a.0).1)

pub last_filled_wins : LastFilledWins
unfolding LastFilledWins
last_filled_wins t source n j list it hn hj e = wins source n j hn hj t list (table_sized t it) e
