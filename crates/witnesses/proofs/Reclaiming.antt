-- Two witnesses on numbers that are used again, document 02, 2.8, computed. The first, `exception_needed`: the exception on the maker byte is
-- needed. A clean object 0 was made, in an earlier run, by 2, which is dead; the member 1 has wr over 2, and the test accepts. In one run
-- the member reclaims 2, in the other nothing is asked: 0's maker byte is 64 in the one and 2 in the other. The second: demand 3 at work
-- where numbers are made, destroyed, reclaimed and made again, by a clean object in both runs and by the member in one. Assumes nothing.
use mathlib.Core.Path.{◌≡◌, refl, sym, ◌∙◌}
use mathlib.Core.Bool.{true, false}
use mathlib.Core.List.{List, [], ◌∷◌, ◌++◌}
use Prim.Native.Nat.{ℕ, ◌^◌}
use native.Mathlib.Omega.{arith}
use lib.ListN.{replicate}
use Rattle.mask.specs.Sets.{bits, all_below, any_below, including, less_of, excluding, union_of, subset_of}
use Rattle.table.specs.declared.Capability.{Capability}
use Rattle.table.specs.declared.Table.{Table}
use Rattle.table.specs.Cells.{IsTable, empty_slot, no_maker, unborn_record, record_at, maker_at, put_slot}
use Rattle.table.specs.Soundness.{stock_sound, sound_at, sound}
use Rattle.rights.specs.Rows as Rights
use Rattle.relation.specs.Relation.{takes_part, holds_in}
use Rattle.relation.specs.Closure.{grow, spread, only, reached, both_take_part, holds_strong, link, influenced_set}
use Rattle.bounds.specs.StandIn.{listed, lowest_from, stand_in, test_node, test_held, bound_of}
use Rattle.confinement.specs.Refusals.{verdict_number, bad_members, bad_entry, bad_list, all_listed, passes, bad_held, member_held, verdict_of}
use Rattle.bounds.specs.Agreement.{AgreeOutside}
use Rattle.refusals.specs.Replies.{Done}
use Rattle.requests.specs.Asks.{Ask, allocate, destroy, reclaim}
use Rattle.refusals.specs.Refusals as Refusals
use Rattle.forgetting.specs.Forgetting.{unnamed, maker_left, slots_forgotten, makers_forgotten}
use Rattle.effects.specs.Effects.{clear_slots, stock_less, allocated, destroyed, joined, reclaimed, effect}
use Rattle.copies.specs.Copies.{landed, copy_pairs}
use Rattle.steps.specs.Steps.{after, run_table}
use Rattle.isolation.specs.Clean.{Clean, clean_at_start, clean_after, clean_at_end, clean_requests, clean_replies}
use Rattle.isolation.specs.Demand.{Alike, BothAccepted, TwoRuns, AllMakersSame, ExceptionNeeded}
use Rattle.isolation.proofs.TwoRuns.{two_runs}
use Rattle.witnesses.proofs.Witness.{record_fits, slot_fits, value_of, alive, over}

-- two runs from one table ----------------------------------------------------------------------------
agree_self : (members : ℕ) (t : Table) → AgreeOutside members t t
agree_self members t = record { records = λ n l o. refl; slots = λ n j l hj o. refl }

one_table : (t : Table) (members : ℕ) (list : List Capability) → IsTable t → verdict_number (verdict_of t members list) ≡ 0 → BothAccepted t t members list
one_table t members list z e = record { left = z; right = z; accepted_left = e; accepted_right = e; agree = agree_self members t }

-- the exception is needed --------------------------------------------------------------------------------
-- 0 is passive and was made by 2; the member 1 is active, with wr over 2; 2 is dead
unfoldable pub orphan : Table
unfolding alive over
orphan = put_slot (record {
  records = (record { status = 1; kind = 0; maker = 2; word = 0; stock = 0 } ∷ alive 1 0 0 ∷ record { status = 2; kind = 0; maker = no_maker; word = 0; stock = 0 } ∷ [])
      ++ replicate 61 unborn_record;
  slots = replicate 512 empty_slot;
}) 1 0 (over 2 2)

unfoldable pub member : ℕ
member = 2 ^ 1

unfoldable pub listing : List Capability
unfolding over
listing = over 2 2 ∷ []

orphan_value : IsTable orphan
unfolding orphan alive over record_fits slot_fits all_below
orphan_value = value_of orphan refl refl refl refl

orphan_accepted : verdict_number (verdict_of orphan member listing) ≡ 0
unfolding orphan member listing alive over bits all_below any_below stock_sound sound_at sound takes_part holds_in listed bad_members bad_entry bad_list all_listed passes bad_held member_held verdict_of
orphan_accepted = refl

abbrev E : Clean
E = clean_at_start orphan member listing

-- the member reclaims 2
unfoldable pub one_reclaims : List Ask
one_reclaims = reclaim 1 0 ∷ []

orphan_clean : clean_at_end orphan E one_reclaims 0 ≡ true
unfolding one_reclaims orphan member listing alive over bits all_below any_below less_of stock_sound sound_at sound takes_part holds_in grow spread only reached both_take_part holds_strong link influenced_set listed lowest_from stand_in test_node test_held bound_of clean_at_start clean_after clean_at_end Refusals.bad_field Rights.rows Rights.worth_of Rights.need_met Refusals.through Refusals.through_slot Refusals.later_rows Refusals.refusal
orphan_clean = refl

-- no request of a clean object, in either run
nobody_asked : clean_requests orphan E one_reclaims ≡ clean_requests orphan E []
unfolding one_reclaims orphan member listing alive over bits all_below any_below less_of takes_part holds_in grow spread only reached both_take_part holds_strong link influenced_set listed lowest_from stand_in test_node test_held bound_of clean_at_start clean_requests
nobody_asked = refl

pub bytes_differ : (maker_at (run_table orphan one_reclaims) 0 ≡ no_maker) × (maker_at (run_table orphan []) 0 ≡ 2)
unfolding one_reclaims orphan member listing alive over bits all_below any_below including stock_sound sound_at sound Refusals.bad_field Rights.rows Rights.worth_of Rights.need_met Refusals.through Refusals.through_slot Refusals.later_rows Refusals.refusal unnamed maker_left slots_forgotten makers_forgotten joined reclaimed effect after run_table
bytes_differ = (refl, refl)

pub exception_needed : ExceptionNeeded
unfolding ExceptionNeeded AllMakersSame
exception_needed claim =
    let e = claim orphan orphan member listing (one_table orphan member listing orphan_value orphan_accepted) one_reclaims [] nobody_asked 0 orphan_clean in
    absurd (omega (arith, e, bytes_differ.0, bytes_differ.1))

-- numbers made again ----------------------------------------------------------------------------------------
-- 0 is active with 8 in stock; the member 1 is active with 9 in stock
unfoldable pub pair : Table
unfolding alive
pair = record {
  records = (alive 1 0 (2 ^ 8) ∷ alive 1 0 (2 ^ 9) ∷ []) ++ replicate 62 unborn_record;
  slots = replicate 512 empty_slot;
}

pair_value : IsTable pair
unfolding pair alive record_fits slot_fits all_below
pair_value = value_of pair refl refl refl refl

pair_accepted : verdict_number (verdict_of pair member []) ≡ 0
unfolding pair member alive bits all_below any_below stock_sound sound_at sound takes_part holds_in listed bad_members bad_entry bad_list all_listed passes bad_held member_held verdict_of
pair_accepted = refl

abbrev F : Clean
F = clean_at_start pair member []

-- 0 makes 8, passive, destroys it, reclaims it and makes it again, active
unfoldable pub again : List Ask
again = allocate 0 8 0 0 3 [] ∷ destroy 0 3 ∷ reclaim 0 3 ∷ allocate 0 8 1 0 4 [] ∷ []

-- in between the member does the like with 9
unfoldable pub both_again : List Ask
both_again = allocate 1 9 0 0 0 [] ∷ allocate 0 8 0 0 3 [] ∷ destroy 1 0 ∷ destroy 0 3 ∷ reclaim 1 0 ∷ reclaim 0 3 ∷ allocate 1 9 1 0 5 [] ∷ allocate 0 8 1 0 4 [] ∷ []

again_asked : clean_requests pair F again ≡ again
unfolding again pair member alive bits all_below any_below including excluding less_of union_of subset_of stock_sound sound_at sound takes_part holds_in grow spread only reached both_take_part holds_strong link influenced_set listed lowest_from stand_in test_node test_held bound_of clean_at_start clean_after clean_requests Refusals.bad_slots Refusals.bad_list Refusals.bad_field Rights.rows Rights.worth_of Rights.need_met Refusals.through Refusals.through_slot Refusals.not_in_stock Refusals.later_rows Refusals.refusal landed copy_pairs clear_slots unnamed maker_left slots_forgotten makers_forgotten stock_less allocated destroyed joined reclaimed effect after
again_asked = refl

both_asked : clean_requests pair F both_again ≡ again
unfolding again both_again pair member alive bits all_below any_below including excluding less_of union_of subset_of stock_sound sound_at sound takes_part holds_in grow spread only reached both_take_part holds_strong link influenced_set listed lowest_from stand_in test_node test_held bound_of clean_at_start clean_after clean_requests Refusals.bad_slots Refusals.bad_list Refusals.bad_field Rights.rows Rights.worth_of Rights.need_met Refusals.through Refusals.through_slot Refusals.not_in_stock Refusals.later_rows Refusals.refusal landed copy_pairs clear_slots unnamed maker_left slots_forgotten makers_forgotten stock_less allocated destroyed joined reclaimed effect after
both_asked = refl

pub again_done : clean_replies pair F again ≡ Done ∷ Done ∷ Done ∷ Done ∷ []
unfolding again pair member alive bits all_below any_below including excluding less_of union_of subset_of stock_sound sound_at sound takes_part holds_in grow spread only reached both_take_part holds_strong link influenced_set listed lowest_from stand_in test_node test_held bound_of clean_at_start clean_after clean_replies Refusals.bad_slots Refusals.bad_list Refusals.bad_field Rights.rows Rights.worth_of Rights.need_met Refusals.through Refusals.through_slot Refusals.not_in_stock Refusals.later_rows Refusals.refusal landed copy_pairs clear_slots unnamed maker_left slots_forgotten makers_forgotten stock_less allocated destroyed joined reclaimed effect after
again_done = refl

-- 8 is clean at the end, and 9, which the member made, is not; the member's 9 is there on the right alone
pub who_is_clean : (clean_at_end pair F both_again 8 ≡ true) × (clean_at_end pair F both_again 9 ≡ false) × ((record_at (run_table pair both_again) 9).status ≡ 1) × ((record_at (run_table pair again) 9).status ≡ 0)
unfolding again both_again pair member alive bits all_below any_below including excluding less_of union_of subset_of stock_sound sound_at sound takes_part holds_in grow spread only reached both_take_part holds_strong link influenced_set listed lowest_from stand_in test_node test_held bound_of clean_at_start clean_after clean_at_end Refusals.bad_slots Refusals.bad_list Refusals.bad_field Rights.rows Rights.worth_of Rights.need_met Refusals.through Refusals.through_slot Refusals.not_in_stock Refusals.later_rows Refusals.refusal landed copy_pairs clear_slots unnamed maker_left slots_forgotten makers_forgotten stock_less allocated destroyed joined reclaimed effect after run_table
who_is_clean = (refl, refl, refl, refl)

-- the theorem at work: the same replies on the right
pub again_witnessed : Alike pair pair F F again both_again
unfolding TwoRuns
again_witnessed = (two_runs pair pair member [] (one_table pair member [] pair_value pair_accepted)).runs again both_again (again_asked ∙ sym both_asked)

pub again_right_done : clean_replies pair F both_again ≡ Done ∷ Done ∷ Done ∷ Done ∷ []
again_right_done = sym again_witnessed.replies ∙ again_done
