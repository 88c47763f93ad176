-- Document 01, "The eight requests", the column "Effect", and what a reclaim does (document 02, 2.8), read only where no refusal is met.
-- Each effect is puts of records and slots, one after the other; a reclaim first forgets its number in the whole table.
use Rattle.std.specs.Prelude.{true, false, List, ℕ, zero, suc, ltb}
use Rattle.mask.specs.Sets.{including, excluding, less_of, union_of}
use Rattle.table.specs.declared.Capability.{Capability}
use Rattle.table.specs.declared.Record.{Record}
use Rattle.table.specs.declared.Table.{Table}
use Rattle.table.specs.Cells.{empty_slot, unborn_record, record_at, slot_at, stock_at, put_record, put_slot}
use Rattle.requests.specs.declared.Pair.{Pair}
use Rattle.requests.specs.Asks.{Ask, read, write, fetch, store, revoke, send, allocate, destroy, reclaim, unknown}
use Rattle.refusals.specs.Refusals.{target_of, target_record, rights_of}
use Rattle.copies.specs.Copies.{fetched, copy_to, copy_pairs}
use Rattle.forgetting.specs.Forgetting.{forgotten}

-- "if reply is 0 to 7, that slot of the target gets (actor, tx); 8 means none"
unfoldable pub answer_slot : Table → ℕ → ℕ → ℕ → Table
answer_slot tb n reply actor =
    elim (ltb reply 8) [ true ↦ put_slot tb n reply (record { target = actor; rights = 8 }) | false ↦ tb ]

-- the first k slots of n emptied
unfoldable pub clear_slots : Table → ℕ → ℕ → Table
clear_slots tb n zero = tb
clear_slots tb n (suc k) = put_slot (clear_slots tb n k) n k empty_slot

abbrev pub with_word : Record → ℕ → Record
with_word r w = record { status = r.status; kind = r.kind; maker = r.maker; word = w; stock = r.stock }

abbrev pub with_stock : Record → ℕ → Record
with_stock r s = record { status = r.status; kind = r.kind; maker = r.maker; word = r.word; stock = s }

-- "n becomes alive with the kind, word 0, stock part"; its maker is "the number of the object that made it" (document 02, 2.7), the actor
abbrev pub made : ℕ → ℕ → ℕ → Record
made actor kind part = record { status = 1; kind = kind; maker = actor; word = 0; stock = part }

-- "target becomes dead, keeps its kind, loses word and slots"; its stock goes to the actor. "a dead one keeps its byte" (2.7)
abbrev pub died : Record → Record
died r = record { status = 2; kind = r.kind; maker = r.maker; word = 0; stock = 0 }

-- the actor's slot i "gets (n, 15)"
abbrev pub full_over : ℕ → Capability
full_over n = record { target = n; rights = 15 }

-- "n and part leave the actor's stock"
unfoldable pub stock_less : ℕ → ℕ → ℕ → ℕ
stock_less n part stock = less_of (excluding n stock) part

-- send, to the target g
unfoldable pub sent : Table → ℕ → ℕ → ℕ → List Pair → ℕ → Table
sent tb a g word list reply =
    answer_slot (copy_pairs (put_record tb g (with_word (record_at tb g) word)) (slot_at tb a) g list) g reply a

-- allocate: the actor's stock, the new record, its slots, then the actor's slot
unfoldable pub allocated : Table → ℕ → ℕ → ℕ → ℕ → ℕ → List Pair → Table
allocated tb a n kind part i list =
    put_slot
    (copy_pairs
    (put_record (put_record tb a (with_stock (record_at tb a) (stock_less n part (stock_at tb a)))) n (made a kind part))
    (slot_at tb a) n list)
    a i (full_over n)

-- destroy of g: its slots, its record, then the actor's stock, which "its stock joins"
unfoldable pub destroyed : Table → ℕ → ℕ → Table
destroyed tb a g =
    put_record (put_record (clear_slots tb g 8) g (died (record_at tb g))) a
    (with_stock (record_at tb a) (union_of (stock_at tb a) (stock_at tb g)))

-- reclaim of g: "every capability naming it anywhere becomes an empty slot, and every maker byte naming it becomes 64"; "The number becomes
-- unborn", the whole unborn record, "and joins the actor's stock"
unfoldable pub joined : Table → ℕ → ℕ → Table
joined tb a g = put_record tb a (with_stock (record_at tb a) (including g (stock_at tb a)))

unfoldable pub reclaimed : Table → ℕ → ℕ → Table
reclaimed tb a g = joined (put_record (forgotten tb g) g unborn_record) a g

unfoldable pub effect : Table → Ask → Table
effect tb (read a t) = put_record tb a (with_word (record_at tb a) (target_record tb a t).word)
effect tb (write a t w) = put_record tb (target_of tb a t) (with_word (target_record tb a t) w)
effect tb (fetch a t i j) = copy_to tb a j (fetched (rights_of tb a t) (slot_at tb (target_of tb a t) i))
effect tb (store a t i j) = copy_to tb (target_of tb a t) j (slot_at tb a i)
effect tb (revoke a t j) = put_slot tb (target_of tb a t) j empty_slot
effect tb (send a t w l y) = sent tb a (target_of tb a t) w l y
effect tb (allocate a n k p i l) = allocated tb a n k p i l
effect tb (destroy a t) = destroyed tb a (target_of tb a t)
effect tb (reclaim a t) = reclaimed tb a (target_of tb a t)
effect tb (unknown c a) = tb
