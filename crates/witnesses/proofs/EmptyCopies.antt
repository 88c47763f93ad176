-- A witness that demand 3 covers copies that come out empty, document 02, 2.4: on the two tables of `Witness`, 0 fetches an empty slot
-- onto the very slot through which it then writes to 1, in both runs, and the write is done; in one run the member does the like with
-- a copy that weakening leaves nothing of. Computed, and by the theorems that such fetches leave the table as it was. Assumes nothing.
use mathlib.Core.Path.{◌≡◌, refl, sym, ◌∙◌}
use mathlib.Core.Bool.{true}
use mathlib.Core.List.{List, [], ◌∷◌}
use Rattle.mask.specs.Sets.{bits, all_below, any_below, less_of}
use Rattle.table.specs.Cells.{record_at, slot_at, is_empty}
use Rattle.table.specs.Soundness.{stock_sound, sound_at, sound}
use Rattle.rights.specs.Rows as Rights
use Rattle.relation.specs.Relation.{takes_part, holds_in}
use Rattle.relation.specs.Closure.{grow, spread, only, reached, both_take_part, holds_strong, link, influenced_set}
use Rattle.bounds.specs.StandIn.{listed, lowest_from, stand_in, test_node, test_held, bound_of}
use Rattle.refusals.specs.Replies.{Done}
use Rattle.requests.specs.Asks.{Ask, write, fetch}
use Rattle.refusals.specs.Refusals as Refusals
use Rattle.effects.specs.Effects.{effect}
use Rattle.copies.specs.Copies.{fetched, landed}
use Rattle.steps.specs.Steps.{after, run_table}
use Rattle.steps.specs.Exactness.{EmptyFetchKeeps, WeakenedFetchKeeps}
use Rattle.steps.proofs.Emptying.{empty_fetch_keeps, weakened_fetch_keeps}
use Rattle.isolation.specs.Clean.{clean_at_start, clean_after, clean_requests, clean_replies}
use Rattle.isolation.specs.Demand.{Alike, TwoRuns}
use Rattle.isolation.proofs.TwoRuns.{two_runs}
use Rattle.witnesses.proofs.Witness.{alive, over, base, other, members, list, both, C, D}

-- 0 fetches 1's empty slot 2 onto its slot 0, over 1; it writes 1 through it
unfoldable pub kept_left : List Ask
kept_left = fetch 0 0 2 0 ∷ write 0 0 4 ∷ []

-- 2 fetches 1's slot 3, wr alone, through wk onto its slot 0, over 3, and writes 3 through it; 0 as on the left
unfoldable pub kept_right : List Ask
kept_right = fetch 2 1 3 0 ∷ fetch 0 0 2 0 ∷ write 2 0 6 ∷ write 0 0 4 ∷ []

-- the slot holds something, the copy comes out empty, and nothing is changed
pub channel_kept : (slot_at base 0 0 ≡ over 1 15) × (is_empty (slot_at base 1 2) ≡ true) × (after base (fetch 0 0 2 0) ≡ base)
unfolding base over fetched EmptyFetchKeeps
channel_kept = (refl, refl, empty_fetch_keeps base 0 0 2 0 refl)

pub member_kept : (slot_at other 2 0 ≡ over 3 2) × (slot_at other 2 1 ≡ over 1 4) × (slot_at other 1 3 ≡ over 1 2) × (after other (fetch 2 1 3 0) ≡ other)
unfolding other base over WeakenedFetchKeeps
member_kept = (refl, refl, refl, weakened_fetch_keeps other 2 1 3 0 refl refl refl)

-- the member's write through the kept slot shows at the end
pub member_writes : (record_at (run_table other kept_right) 3).word ≡ 6
unfolding kept_right other base alive over bits all_below any_below stock_sound sound_at sound Refusals.bad_field Rights.rows Rights.worth_of Rights.need_met Refusals.through Refusals.through_slot Refusals.later_rows Refusals.refusal Rights.weaken fetched landed effect after run_table
member_writes = refl

-- the requests of 0 are the same, and on the left both are done
left_asked : clean_requests base C kept_left ≡ kept_left
unfolding kept_left base members list alive over bits all_below any_below less_of takes_part holds_in grow spread only reached both_take_part holds_strong link influenced_set listed lowest_from stand_in test_node test_held bound_of clean_at_start clean_after clean_requests
left_asked = refl

right_asked : clean_requests other D kept_right ≡ kept_left
unfolding kept_left kept_right other base members list alive over bits all_below any_below less_of takes_part holds_in grow spread only reached both_take_part holds_strong link influenced_set listed lowest_from stand_in test_node test_held bound_of clean_at_start clean_after clean_requests
right_asked = refl

pub kept_done : clean_replies base C kept_left ≡ Done ∷ Done ∷ []
unfolding kept_left base members list alive over bits all_below any_below less_of takes_part holds_in grow spread only reached both_take_part holds_strong link influenced_set listed lowest_from stand_in test_node test_held bound_of clean_at_start clean_after stock_sound sound_at sound Refusals.bad_field Rights.rows Rights.worth_of Rights.need_met Refusals.through Refusals.through_slot Refusals.later_rows Refusals.refusal Rights.weaken fetched landed effect after clean_replies
kept_done = refl

-- the theorem at work, and so done on the right
pub kept_witnessed : Alike base other C D kept_left kept_right
unfolding TwoRuns
kept_witnessed = (two_runs base other members list both).runs kept_left kept_right (left_asked ∙ sym right_asked)

pub kept_right_done : clean_replies other D kept_right ≡ Done ∷ Done ∷ []
kept_right_done = sym kept_witnessed.replies ∙ kept_done
