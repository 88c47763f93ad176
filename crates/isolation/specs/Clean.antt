-- Document 01, "Two runs", with document 02, 2.8: the clean objects along a run, the requests that come from them, the replies that these
-- got, and whose maker byte is compared at the end.
-- "Whether a request comes from a clean object goes by its actor when the request is made; an unborn number is nobody, and so is
-- an actor above 63": so neither is ever clean (proofs/Invariant.antt).
use Rattle.std.specs.Prelude.{Bool, true, false, cond, not, ◌&&◌, ◌||◌, List, [], ◌∷◌, ℕ, eqb}
use Rattle.mask.specs.Sets.{has}
use Rattle.table.specs.declared.Capability.{Capability}
use Rattle.table.specs.declared.Table.{Table}
use Rattle.table.specs.Cells.{no_maker, maker_at}
use Rattle.relation.specs.Relation.{takes_part}
use Rattle.bounds.specs.StandIn.{bound_of}
use Rattle.refusals.specs.Replies.{Reply, is_done}
use Rattle.requests.specs.Asks.{Ask, read, write, fetch, store, revoke, send, allocate, destroy, reclaim, unknown, actor_of}
use Rattle.refusals.specs.Refusals.{refusal, target_of}
use Rattle.steps.specs.Steps.{after}

-- a set of objects, by its test
abbrev pub Clean : Type 0
Clean = ℕ → Bool

-- "At the start of a run the clean objects are the born non-members outside the bound"
unfoldable pub clean_at_start : Table → ℕ → List Capability → Clean
clean_at_start t members list n = takes_part t n && not (has n members) && not (has n (bound_of t members list))

-- the same set, but that `inside` says whether n is in it
abbrev pub setting : ℕ → Bool → Clean → Clean
setting n inside C = λ m. cond (eqb m n) inside (C m)

-- "An allocate from a clean actor that is answered 0 makes its n clean; nothing else makes an object clean. A clean object that
-- dies stays clean". Document 02, 2.8: "Clean now goes by the object's latest making". So an allocate that is done makes its n clean if the
-- actor is clean, and not clean if the actor is not, whatever n was before; and a number that is reclaimed is unborn, and nobody. The
-- clean objects after a request on the table t
unfoldable pub clean_after : Table → Clean → Ask → Clean
clean_after t C (read a s) = C
clean_after t C (write a s w) = C
clean_after t C (fetch a s i j) = C
clean_after t C (store a s i j) = C
clean_after t C (revoke a s j) = C
clean_after t C (send a s w l y) = C
clean_after t C (allocate a n k p i l) = elim (is_done (refusal t (allocate a n k p i l))) [ true ↦ setting n (C a) C | false ↦ C ]
clean_after t C (destroy a s) = C
clean_after t C (reclaim a s) = elim (is_done (refusal t (reclaim a s))) [ true ↦ setting (target_of t a s) false C | false ↦ C ]
clean_after t C (unknown c a) = C

-- the clean objects at the end of a run
unfoldable pub clean_at_end : Table → Clean → List Ask → Clean
clean_at_end t C [] = C
clean_at_end t C (q ∷ qs) = clean_at_end (after t q) (clean_after t C q) qs

-- "With only the requests from clean actors kept"
unfoldable pub clean_requests : Table → Clean → List Ask → List Ask
clean_requests t C [] = []
clean_requests t C (q ∷ qs) = elim (C (actor_of q)) [
  | true ↦ q ∷ clean_requests (after t q) (clean_after t C q) qs
  | false ↦ clean_requests (after t q) (clean_after t C q) qs
]

-- the replies to those, first to last
unfoldable pub clean_replies : Table → Clean → List Ask → List Reply
clean_replies t C [] = []
clean_replies t C (q ∷ qs) = elim (C (actor_of q)) [
  | true ↦ refusal t q ∷ clean_replies (after t q) (clean_after t C q) qs
  | false ↦ clean_replies (after t q) (clean_after t C q) qs
]

-- Document 02, 2.8: "The equal-records claim leaves out the maker byte of an object born at the start, unless its maker was clean at the
-- start". So it is compared, at the start, where the maker is clean; and where it is 64, which nobody else can change
unfoldable pub compared_at_start : Table → Clean → Clean
compared_at_start t C n = eqb (maker_at t n) no_maker || C (maker_at t n)

-- and that of an object which a clean object made in the run: by its latest making
unfoldable pub compared_after : Table → Clean → Clean → Ask → Clean
compared_after t C B (read a s) = B
compared_after t C B (write a s w) = B
compared_after t C B (fetch a s i j) = B
compared_after t C B (store a s i j) = B
compared_after t C B (revoke a s j) = B
compared_after t C B (send a s w l y) = B
compared_after t C B (allocate a n k p i l) = elim (C a && is_done (refusal t (allocate a n k p i l))) [ true ↦ setting n true B | false ↦ B ]
compared_after t C B (destroy a s) = B
compared_after t C B (reclaim a s) = B
compared_after t C B (unknown c a) = B

-- the objects whose maker byte is compared at the end of a run, where they are clean then
unfoldable pub compared_at_end : Table → Clean → Clean → List Ask → Clean
compared_at_end t C B [] = B
compared_at_end t C B (q ∷ qs) = compared_at_end (after t q) (clean_after t C q) (compared_after t C B q) qs
