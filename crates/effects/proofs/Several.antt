-- The requests that change several places: the table that the code has put together is the one that the definition names.
-- By putting in what each call ensures. Assumes nothing.
use mathlib.Core.Path.{◌≡◌, refl, sym, ◌∙◌, ap, ap₂}
use mathlib.Core.List.{List, []}
use Prim.Native.Nat.{ℕ, zero, suc, ◌+◌, ◌*◌, ◌≤◌, ◌<◌}
use native.Mathlib.Omega.{arith}
use native.Mathlib.Numerals.{add-one}
use borrow.Author.Tests.{lt-ltb, le-ltb}
use borrow.Rule.Slice.PartMut.{put_mid}
use lib.ListN.{length, set, replicate}
use lib.Seq.{paste}
use Rattle.std.proofs.lemmas.List.Edits.{paste_none, fill_from_more}
use Rattle.std.proofs.lemmas.Slice.{put_mid-paste}
use Rattle.table.specs.declared.Capability.{Capability}
use Rattle.table.proofs.Cells.{tables_same}
use Rattle.mask.specs.Sets.{including, excluding, less_of, union_of}
use Rattle.table.specs.declared.Table.{Table}
use Rattle.table.specs.Cells.{empty_slot, unborn_record, record_at, slot_at, stock_at, put_record, put_slot}
use Rattle.requests.specs.declared.PairList.{PairList}
use Rattle.copies.specs.declared.Row.{Row}
use Rattle.requests.specs.Asks.{pairs_of}
use Rattle.effects.specs.Effects.{answer_slot, clear_slots, with_word, with_stock, made, died, full_over, stock_less, sent, allocated, destroyed, joined, reclaimed}
use Rattle.copies.specs.Copies.{copy_pairs}
use Rattle.forgetting.specs.Forgetting.{forgotten}
use Rattle.refusals.specs.Helpers.{PairsFit}
use Rattle.copies.specs.Helpers.{row_at, cell_of}
use Rattle.copies.proofs.Pairs.{copy_row}

-- send: with a reply slot, and without
module _ (t u : Table) (a g word reply : ℕ) (l : PairList) (row : Row) (fit : PairsFit l) (e : row ≡ row_at t a)
    (f : u ≡ copy_pairs (put_record t g (with_word (record_at t g) word)) (cell_of row) g (pairs_of l)) where
  answered : answer_slot u g reply a ≡ sent t a g word (pairs_of l) reply
  unfolding sent
  answered = ap (λ (v : Table). answer_slot v g reply a) (f ∙ copy_row t (put_record t g (with_word (record_at t g) word)) a g l row fit e)

  pub sent_answered : reply < 8 → put_slot u g reply (record { target = a; rights = 8 }) ≡ sent t a g word (pairs_of l) reply
  unfolding answer_slot
  sent_answered h = (let k : put_slot u g reply (record { target = a; rights = 8 }) ≡ answer_slot u g reply a = rw (lt-ltb reply 8 h, answer_slot) refl in k) ∙ answered

  pub sent_silent : 8 ≤ reply → u ≡ sent t a g word (pairs_of l) reply
  unfolding answer_slot
  sent_silent h = (let k : u ≡ answer_slot u g reply a = rw (le-ltb reply 8 h, answer_slot) refl in k) ∙ answered

-- allocate: `rest` is the giver's stock less n, `stock` that less the part
pub allocated_is : (t u : Table) (a n kind part i : ℕ) (l : PairList) (row : Row) (rest stock : ℕ) → PairsFit l → row ≡ row_at t a
    → rest ≡ excluding n (stock_at t a) → stock ≡ less_of rest part
    → u ≡ copy_pairs (put_record (put_record t a (with_stock (record_at t a) stock)) n (made a kind part)) (cell_of row) n (pairs_of l)
    → put_slot u a i (full_over n) ≡ allocated t a n kind part i (pairs_of l)
unfolding allocated stock_less
allocated_is t u a n kind part i l row rest stock fit e p q f =
    ap (λ (v : Table). put_slot v a i (full_over n))
    (f ∙ copy_row t _ a n l row fit e
    ∙ ap (λ (m : ℕ). copy_pairs (put_record (put_record t a (with_stock (record_at t a) m)) n (made a kind part)) (slot_at t a) n (pairs_of l))
    (q ∙ ap (λ (x : ℕ). less_of x part) p))

-- destroy: the slots in a row, then the two records. `cells` is what the slots were filled with
clear_rows : (t : Table) (g k : ℕ) → (clear_slots t g k).records ≡ t.records
unfolding clear_slots
clear_rows t g zero = refl
clear_rows t g (suc k) = clear_rows t g k

clear_pasted : (t : Table) (g k : ℕ) → g * 8 + k ≤ length t.slots
    → (clear_slots t g k).slots ≡ paste t.slots (g * 8) (replicate k empty_slot) k
unfolding clear_slots
clear_pasted t g zero h = paste_none t.slots (g * 8) []
clear_pasted t g (suc k) h =
    ap (λ (l : List Capability). set l (g * 8 + k) empty_slot) (clear_pasted t g k (omega arith))
    ∙ fill_from_more t.slots (g * 8) k empty_slot (omega arith)
    ∙ rw add-one refl

pub cleared : (t : Table) (g k : ℕ) (cells : List Capability) → length t.slots ≡ 512 → g < 64 → k ≡ 8 → cells ≡ replicate 8 empty_slot
    → ◌≡◌ {A = Table} (record { records = t.records; slots = put_mid (g * 8) k t.slots cells }) (clear_slots t g 8)
cleared t g k cells z h q e = tables_same (sym (clear_rows t g 8))
    (put_mid-paste (g * 8) k t.slots cells (replicate 8 empty_slot) 8 e (sym q) refl ∙ sym (clear_pasted t g 8 (omega arith)))

pub destroyed_is : (t u : Table) (a g stock : ℕ) → u ≡ clear_slots t g 8 → stock ≡ union_of (stock_at t a) (stock_at t g)
    → put_record (put_record u g (died (record_at t g))) a (with_stock (record_at t a) stock) ≡ destroyed t a g
unfolding destroyed
destroyed_is t u a g stock e f =
    ap₂ (λ (v : Table) (m : ℕ). put_record (put_record v g (died (record_at t g))) a (with_stock (record_at t a) m)) e f

-- reclaim: the two records of a table where the number is forgotten
pub reclaimed_is : (t u : Table) (a g stock : ℕ) → u ≡ forgotten t g → stock ≡ including g (stock_at (put_record u g unborn_record) a)
    → put_record (put_record u g unborn_record) a (with_stock (record_at (put_record u g unborn_record) a) stock) ≡ reclaimed t a g
unfolding reclaimed joined
reclaimed_is t u a g stock e f =
    ap (λ (x : ℕ). put_record (put_record u g unborn_record) a (with_stock (record_at (put_record u g unborn_record) a) x)) f ∙ ap (λ (v : Table). joined (put_record v g unborn_record) a g) e
