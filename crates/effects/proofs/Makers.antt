-- Whose maker an effect leaves: everybody's, but for the object that an allocate makes. Slots that are put touch no record, and a record
-- that is put in another's place keeps its maker. Whatever the size of the table. Assumes nothing.
use mathlib.Core.Path.{◌≡◌, refl, sym, ◌∙◌, ap}
use mathlib.Core.Logic.{◌≢◌}
use mathlib.Core.List.{List}
use Prim.Native.Nat.{ℕ, zero, suc, ◌<◌}
use lib.Dec.{ltb}
use Rattle.mask.specs.Sets.{union_of}
use Rattle.mask.proofs.Tests.{by_cases}
use Rattle.table.specs.declared.Record.{Record}
use Rattle.table.specs.declared.Table.{Table}
use Rattle.table.specs.Cells.{no_record, record_at, slot_at, maker_at, stock_at, put_record}
use Rattle.table.proofs.Lists.{put_any}
use Rattle.table.proofs.Cells.{Sized, sized_put_record, record_same, record-other}
use Rattle.requests.specs.declared.Pair.{Pair}
use Rattle.copies.proofs.Pairs.{copies_record}
use Rattle.effects.specs.Effects.{answer_slot, clear_slots, with_word, with_stock, made, died, stock_less, sent, allocated, destroyed}

-- slots ----------------------------------------------------------------------------------------------
answer_record : (t : Table) (n reply actor m : ℕ) → record_at (answer_slot t n reply actor) m ≡ record_at t m
unfolding answer_slot
answer_record t n reply actor m = by_cases (ltb reply 8) (λ e. rw (e, answer_slot) refl) (λ e. rw (e, answer_slot) refl)

pub clear_record : (t : Table) (y k m : ℕ) → record_at (clear_slots t y k) m ≡ record_at t m
unfolding clear_slots
clear_record t y zero m = refl
clear_record t y (suc k) m = clear_record t y k m

-- a record with the maker that stands there -----------------------------------------------------------
pub same_maker : (t : Table) (n m : ℕ) (r : Record) → r.maker ≡ maker_at t n → maker_at (put_record t n r) m ≡ maker_at t m
same_maker t n m r e = put_any (λ x. x.maker ≡ maker_at t m) t.records n m r no_record (λ q. e ∙ ap (maker_at t) (sym q)) refl

-- the requests that change several places ---------------------------------------------------------------
abbrev maker_of : Record → ℕ
maker_of r = r.maker

pub sent_maker : (t : Table) (a g w : ℕ) (l : List Pair) (y m : ℕ) → maker_at (sent t a g w l y) m ≡ maker_at t m
unfolding sent
sent_maker t a g w l y m =
    ap maker_of (answer_record _ g y a m ∙ copies_record (put_record t g (with_word (record_at t g) w)) (slot_at t a) g l m)
    ∙ same_maker t g m (with_word (record_at t g) w) refl

pub destroyed_maker : (t : Table) (a g m : ℕ) → maker_at (destroyed t a g) m ≡ maker_at t m
unfolding destroyed
destroyed_maker t a g m =
    let bare = clear_slots t g 8 in
    let cleared : (k : ℕ) → maker_at bare k ≡ maker_at t k = λ k. ap maker_of (clear_record t g 8 k) in
    let dead : (k : ℕ) → maker_at (put_record bare g (died (record_at t g))) k ≡ maker_at t k
    = λ k. same_maker bare g k (died (record_at t g)) (sym (cleared g)) ∙ cleared k in
    same_maker (put_record bare g (died (record_at t g))) a m (with_stock (record_at t a) (union_of (stock_at t a) (stock_at t g))) (sym (dead a)) ∙ dead m

module _ (t : Table) (a n k p i : ℕ) (l : List Pair) where
  less : Table
  less = put_record t a (with_stock (record_at t a) (stock_less n p (stock_at t a)))

  made_record : (m : ℕ) → record_at (allocated t a n k p i l) m ≡ record_at (put_record less n (made a k p)) m
  unfolding allocated less
  made_record m = copies_record _ (slot_at t a) n l m

  pub allocated_maker : (m : ℕ) → m ≢ n → maker_at (allocated t a n k p i l) m ≡ maker_at t m
  unfolding less
  allocated_maker m ne = ap maker_of (made_record m ∙ record-other less n m (made a k p) ne) ∙ same_maker t a m _ refl

  pub allocated_made : Sized t → n < 64 → maker_at (allocated t a n k p i l) n ≡ a
  unfolding less
  allocated_made z h = ap maker_of (made_record n ∙ record_same less n (made a k p) (sized_put_record t a _ z) h)
