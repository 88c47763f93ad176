-- A request with its fields within their bits leaves a table value a table value, refused or not; so does a run of them. Every
-- effect is puts of records and slots, and what is put is made of the table's fields and the request's; what a reclaim forgets becomes
-- empty or 64. Assumes nothing.
use mathlib.Core.List.{List, [], ◌∷◌}
use Prim.Native.Nat.{ℕ, zero, suc, ◌+◌, ◌*◌, ◌^◌, ◌<◌}
use native.Mathlib.Omega.{arith}
use lib.Dec.{ltb}
use Rattle.mask.specs.Sets.{including, less_of, union_of}
use Rattle.mask.proofs.Tests.{by_cases}
use Rattle.mask.proofs.Bits.{bits_lt}
use Rattle.table.specs.declared.Capability.{Capability}
use Rattle.table.specs.declared.Table.{Table}
use Rattle.table.specs.Cells.{IsTable, unborn_record, record_at, slot_at, maker_at, slot_of, empty_slot}
use Rattle.table.proofs.Cells.{table_sized}
use Rattle.table.proofs.Value.{RecordValue, SlotValue, record-value, slot_value, empty_value, slot_of_lem, table_put_record, table_put_slot}
use Rattle.rights.proofs.Weakening.{weak_over}
use Rattle.requests.specs.declared.Pair.{Pair}
use Rattle.requests.specs.Asks.{Ask, read, write, fetch, store, revoke, send, allocate, destroy, reclaim, unknown, InBits}
use Rattle.refusals.specs.Replies.{is_done}
use Rattle.refusals.specs.Refusals.{target_of, rights_of, refusal}
use Rattle.effects.specs.Effects.{answer_slot, clear_slots, with_word, with_stock, made, died, full_over, stock_less, sent, allocated, destroyed, joined, reclaimed, effect}
use Rattle.forgetting.specs.Forgetting.{forgotten}
use Rattle.forgetting.proofs.Left.{unnamed_elim, left_elim, forgotten_place, forgotten_sized, forgotten_any}
use Rattle.copies.specs.Copies.{fetched, copy_to, copy_pairs}
use Rattle.copies.proofs.Landing.{landed_elim}
use Rattle.copies.proofs.Fetches.{fetched_elim}
use Rattle.steps.specs.Steps.{after, run_table}
use Rattle.steps.proofs.Refused.{refused_keeps, done_effects}

-- what is put: records ------------------------------------------------------------------------
word_value : (t : Table) (n w : ℕ) → IsTable t → w < 2 ^ 32 → RecordValue (with_word (record_at t n) w)
word_value t n w z h = record-value (with_word (record_at t n) w) (z.statuses n) (z.kinds n) (z.makers n) h (z.stocks n)

stock_value : (t : Table) (n s : ℕ) → IsTable t → s < 2 ^ 64 → RecordValue (with_stock (record_at t n) s)
stock_value t n s z h = record-value (with_stock (record_at t n) s) (z.statuses n) (z.kinds n) (z.makers n) (z.words n) h

less_lt : (n part stock : ℕ) → stock_less n part stock < 2 ^ 64
unfolding stock_less less_of
less_lt n part stock = bits_lt 64 _

joined_lt : (n stock : ℕ) → including n stock < 2 ^ 64
unfolding including
joined_lt n stock = bits_lt 64 _

union_lt : (a b : ℕ) → union_of a b < 2 ^ 64
unfolding union_of
union_lt a b = bits_lt 64 _

-- and slots
fetched_value : (rights : ℕ) (c : Capability) → c.target < 2 ^ 8 → c.rights < 2 ^ 8 → SlotValue (fetched rights c)
fetched_value rights c h g =
    fetched_elim SlotValue rights c (λ e. slot_value c h g) (λ e p. slot_value (weak_over c.target) h (omega arith)) empty_value

-- puts one after the other -----------------------------------------------------------------------
copy_keeps : (t : Table) (n j : ℕ) (c : Capability) → IsTable t → SlotValue c → IsTable (copy_to t n j c)
copy_keeps t n j c z v = table_put_slot t n j _ z (landed_elim SlotValue (slot_at t n j) c (slot_of_lem t z (n * 8 + j)) (λ e. v))

pairs_keep : (t : Table) (source : ℕ → Capability) (n : ℕ) (ps : List Pair) → IsTable t → ((j : ℕ) → SlotValue (source j))
    → IsTable (copy_pairs t source n ps)
unfolding copy_pairs
pairs_keep t source n [] z v = z
pairs_keep t source n (p ∷ ps) z v =
    pairs_keep (copy_to t n p.to (source p.from)) source n ps (copy_keeps t n p.to (source p.from) z (v p.from)) v

answer_keeps : (t : Table) (n reply actor : ℕ) → IsTable t → actor < 2 ^ 8 → IsTable (answer_slot t n reply actor)
unfolding answer_slot
answer_keeps t n reply actor z h = by_cases (ltb reply 8)
    (λ e. rw (e, answer_slot) (table_put_slot t n reply (record { target = actor; rights = 8 }) z (slot_value _ h (omega arith))))
    (λ e. rw (e, answer_slot) z)

clear_keeps : (t : Table) (n k : ℕ) → IsTable t → IsTable (clear_slots t n k)
unfolding clear_slots
clear_keeps t n zero z = z
clear_keeps t n (suc k) z = table_put_slot (clear_slots t n k) n k empty_slot (clear_keeps t n k z) empty_value

forgotten_keeps : (t : Table) (g : ℕ) → IsTable t → IsTable (forgotten t g)
forgotten_keeps t g z =
    let s = forgotten_sized t g (table_sized t z) in
    record {
      records = s.records;
      slots = s.slots;
      statuses = λ n. forgotten_any (λ r. r.status < 2 ^ 8) t g n (z.statuses n) (λ e. omega arith);
      kinds = λ n. forgotten_any (λ r. r.kind < 2 ^ 8) t g n (z.kinds n) (λ e. omega arith);
      makers = λ n. forgotten_any (λ r. r.maker < 2 ^ 8) t g n (left_elim (λ m. m < 2 ^ 8) g (maker_at t n) (λ e. omega arith) (λ e. z.makers n)) (λ e. omega arith);
      words = λ n. forgotten_any (λ r. r.word < 2 ^ 32) t g n (z.words n) (λ e. omega arith);
      stocks = λ n. forgotten_any (λ r. r.stock < 2 ^ 64) t g n (z.stocks n) (λ e. omega arith);
      targets = λ k. rw (forgotten_place t g k) (unnamed_elim (λ c. c.target < 2 ^ 8) g (slot_of t.slots k) (omega arith) (λ e. z.targets k));
      rights = λ k. rw (forgotten_place t g k) (unnamed_elim (λ c. c.rights < 2 ^ 8) g (slot_of t.slots k) (omega arith) (λ e. z.rights k));
    }

-- the requests ---------------------------------------------------------------------------------------
effect_keeps : (t : Table) (q : Ask) → IsTable t → InBits q → IsTable (effect t q)
unfolding effect sent allocated destroyed reclaimed joined
effect_keeps t (read a s) z h = table_put_record t a _ z (word_value t a _ z (z.words (target_of t a s)))
effect_keeps t (write a s w) z h = table_put_record t (target_of t a s) _ z (word_value t (target_of t a s) w z h.2)
effect_keeps t (fetch a s i j) z h =
    let k = target_of t a s * 8 + i in
    copy_keeps t a j _ z (fetched_value (rights_of t a s) _ (z.targets k) (z.rights k))
effect_keeps t (store a s i j) z h = copy_keeps t (target_of t a s) j _ z (slot_of_lem t z (a * 8 + i))
effect_keeps t (revoke a s j) z h = table_put_slot t (target_of t a s) j empty_slot z empty_value
effect_keeps t (send a s w l y) z h =
    let g = target_of t a s in
    let told = table_put_record t g _ z (word_value t g w z h.2) in
    answer_keeps _ g y a (pairs_keep _ (slot_at t a) g l told (λ j. slot_of_lem t z (a * 8 + j))) h.0
effect_keeps t (allocate a n k p i l) z h =
    let less = table_put_record t a _ z (stock_value t a _ z (less_lt n p (record_at t a).stock)) in
    let born = table_put_record _ n (made a k p) less (record-value (made a k p) (omega arith) h.2 h.0 (omega arith) h.3) in
    let filled = pairs_keep _ (slot_at t a) n l born (λ j. slot_of_lem t z (a * 8 + j)) in
    table_put_slot _ a i (full_over n) filled (slot_value (full_over n) h.1 (omega arith))
effect_keeps t (destroy a s) z h =
    let g = target_of t a s in
    let dead = record-value (died (record_at t g)) (omega arith) (z.kinds g) (z.makers g) (omega arith) (omega arith) in
    table_put_record _ a _ (table_put_record _ g _ (clear_keeps t g 8 z) dead) (stock_value t a _ z (union_lt _ _))
effect_keeps t (reclaim a s) z h =
    let g = target_of t a s in
    let nobody = record-value unborn_record (omega arith) (omega arith) (omega arith) (omega arith) (omega arith) in
    let bare = table_put_record (forgotten t g) g unborn_record (forgotten_keeps t g z) nobody in
    table_put_record _ a _ bare (stock_value _ a _ bare (joined_lt g _))
effect_keeps t (unknown c a) z h = z

pub step_keeps_table : (t : Table) (q : Ask) → IsTable t → InBits q → IsTable (after t q)
step_keeps_table t q z h = by_cases (is_done (refusal t q))
    (λ e. rw (done_effects t q e) (effect_keeps t q z h))
    (λ e. rw (refused_keeps t q e) z)

-- every request of a list
abbrev pub AllInBits : List Ask → Type 0
AllInBits [] = Unit {0}
AllInBits (q ∷ qs) = InBits q × AllInBits qs

pub run_keeps_table : (t : Table) (qs : List Ask) → IsTable t → AllInBits qs → IsTable (run_table t qs)
unfolding run_table
run_keeps_table t [] z h = z
run_keeps_table t (q ∷ qs) z h = run_keeps_table (after t q) qs (step_keeps_table t q z h.0) h.1
