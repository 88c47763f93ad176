-- Document 01, "Why something is turned down", rows 1 to 9: "Checks run in number order, among those that apply."
-- Each row is a test of its cause; the first cause that holds gives the reply. "allocate meets only 1, 2, 3 and 9". Row 24 is document
-- 02's, 2.8: "between 4 and 6, if the target is alive", of reclaim alone, to which "refusal 5 does not apply".
use Rattle.std.specs.Prelude.{Bool, true, false, not, ◌&&◌, ◌||◌, List, [], ◌∷◌, ℕ, ltb, eqb, length, Err}
use Rattle.mask.specs.Sets.{has, excluding, subset_of}
use Rattle.table.specs.declared.Capability.{Capability}
use Rattle.table.specs.declared.Record.{Record}
use Rattle.table.specs.declared.Table.{Table}
use Rattle.table.specs.Cells.{record_at, slot_at, is_alive, is_born, is_active, is_empty}
use Rattle.table.specs.Soundness.{sound}
use Rattle.rights.specs.declared.Need.TheVariants.{ReadOrWeak, Write, Send}
use Rattle.rights.specs.declared.Need.{Need}
use Rattle.rights.specs.Rows.{need_met}
use Rattle.requests.specs.declared.Pair.{Pair}
use Rattle.refusals.specs.Replies.{Reply, Done}
use Rattle.refusals.specs.declared.Refusal.TheVariants.{TableUnsound, FieldInvalid, ActorUnfit, SlotEmpty, TargetDead, RightAbsent, TargetPassive, ActorItself, NotInStock, TargetAlive}
use Rattle.requests.specs.Asks.{Ask, read, write, fetch, store, revoke, send, allocate, destroy, reclaim, unknown, actor_of}

-- the reply where the cause holds, else what is left to check
abbrev pub refuse : Bool → Reply → Reply → Reply
refuse true why rest = why
refuse false why rest = rest

-- row 2: "slot above 7 (reply above 8), actor or n above 63, kind above 1, list above 4 pairs, code not 1 to 8"; "Codes run to 9 at refusal 2"
-- (document 02, 2.8)
abbrev pub no_slot : ℕ → Bool
no_slot j = ltb 7 j

abbrev pub no_object : ℕ → Bool
no_object n = ltb 63 n

unfoldable pub bad_slots : List Pair → Bool
bad_slots [] = false
bad_slots (p ∷ ps) = no_slot p.from || no_slot p.to || bad_slots ps

unfoldable pub bad_list : List Pair → Bool
bad_list list = ltb 4 (length list) || bad_slots list

unfoldable pub bad_field : Ask → Bool
bad_field (read a t) = no_object a || no_slot t
bad_field (write a t w) = no_object a || no_slot t
bad_field (fetch a t i j) = no_object a || no_slot t || no_slot i || no_slot j
bad_field (store a t i j) = no_object a || no_slot t || no_slot i || no_slot j
bad_field (revoke a t j) = no_object a || no_slot t || no_slot j
bad_field (send a t w l y) = no_object a || no_slot t || bad_list l || ltb 8 y
bad_field (allocate a n k p i l) = no_object a || no_object n || ltb 1 k || no_slot i || bad_list l
bad_field (destroy a t) = no_object a || no_slot t
bad_field (reclaim a t) = no_object a || no_slot t
bad_field (unknown c a) = true

-- row 3: "actor not alive, or passive"
abbrev pub unfit : Record → Bool
unfit actor = not (is_alive actor) || not (is_active actor)

-- the status that a request wants of its target: reclaim "needs wr over a dead target", every other an alive one
abbrev pub alive : ℕ
alive = 1

abbrev pub dead : ℕ
dead = 2

-- rows 5 and 24: a target that is born with another status than the wanted one
abbrev pub other_status : ℕ → Record → Bool
other_status wanted target = is_born target && not (eqb target.status wanted)

-- row 5, "target dead", where an alive one is wanted; where a dead one is, row 24, "if the target is alive"
unfoldable pub wrong_status : ℕ → Reply
wrong_status wanted = elim (eqb wanted alive) [ true ↦ Err TargetDead | false ↦ Err TargetAlive ]

-- rows 4 to 6, by the slot that is used, its target's record, the status that is wanted of it, and whether the slot has the needed
-- right
unfoldable pub through : Capability → Record → ℕ → Bool → Reply → Reply
through slot target wanted able rest =
    refuse (is_empty slot) (Err SlotEmpty) (refuse (other_status wanted target) (wrong_status wanted) (refuse (not able) (Err RightAbsent) rest))

-- row 9: "n not in own stock, or part not within the stock less n"
unfoldable pub not_in_stock : ℕ → ℕ → ℕ → Bool
not_in_stock n part stock = not (has n stock) || not (subset_of part (excluding n stock))

-- the target of the actor's slot t
abbrev pub target_of : Table → ℕ → ℕ → ℕ
target_of tb a t = (slot_at tb a t).target

abbrev pub target_record : Table → ℕ → ℕ → Record
target_record tb a t = record_at tb (target_of tb a t)

abbrev pub rights_of : Table → ℕ → ℕ → ℕ
rights_of tb a t = (slot_at tb a t).rights

-- rows 4 to 6 for the actor's slot t
unfoldable pub through_slot : Table → ℕ → ℕ → ℕ → Need → Reply → Reply
through_slot tb a t wanted need rest = through (slot_at tb a t) (target_record tb a t) wanted (need_met need (rights_of tb a t)) rest

-- rows 4 to 9, with the right that each request needs
unfoldable pub later_rows : Table → Ask → Reply
later_rows tb (read a t) = through_slot tb a t alive ReadOrWeak Done
later_rows tb (write a t w) = through_slot tb a t alive Write Done
later_rows tb (fetch a t i j) = through_slot tb a t alive ReadOrWeak Done
later_rows tb (store a t i j) = through_slot tb a t alive Write Done
later_rows tb (revoke a t j) = through_slot tb a t alive Write Done
later_rows tb (send a t w l y) =
    through_slot tb a t alive Send (refuse (not (is_active (target_record tb a t))) (Err TargetPassive) Done)
later_rows tb (allocate a n k p i l) = refuse (not_in_stock n p (record_at tb a).stock) (Err NotInStock) Done
later_rows tb (destroy a t) = through_slot tb a t alive Write (refuse (eqb (target_of tb a t) a) (Err ActorItself) Done)
later_rows tb (reclaim a t) = through_slot tb a t dead Write Done
later_rows tb (unknown c a) = Err FieldInvalid

-- rows 1 to 9, and 24
unfoldable pub refusal : Table → Ask → Reply
refusal tb q =
    refuse (not (sound tb)) (Err TableUnsound)
    (refuse (bad_field q) (Err FieldInvalid) (refuse (unfit (record_at tb (actor_of q))) (Err ActorUnfit) (later_rows tb q)))
