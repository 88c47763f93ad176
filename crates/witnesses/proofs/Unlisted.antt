-- A witness that demand 3 covers what 2.3 lets pass, computed: a member holds an unlisted wk over a clean object and reads it, in
-- one run only. On the right the table is that of Witness.antt, where the member 2 holds (1, wk); on the left 2 holds nothing over
-- 1. The list is (3, wr) alone, so the wk stands in no list (`unlisted`); the test accepts both tables (`accepted_blind`,
-- `accepted_other`), and 1 is clean in both (`who_is_clean`). In the right-hand run 2 reads 1: that is answered 0, and 2 has 1's word
-- (`read_done`), to the end; in the left-hand run it keeps its own (`in_one_run`). Assumes nothing.
use mathlib.Core.Path.{◌≡◌, refl, sym, ◌∙◌, ap, fun_ext}
use mathlib.Core.Bool.{true, false, not, ◌&&◌}
use mathlib.Core.List.{List, [], ◌∷◌}
use Prim.Native.Nat.{ℕ, ◌^◌}
use native.Mathlib.Omega.{arith}
use Rattle.mask.specs.Sets.{has, bits, all_below, any_below, less_of, excluding, subset_of}
use Rattle.table.specs.declared.Capability.{Capability}
use Rattle.table.specs.declared.Table.{Table}
use Rattle.table.specs.Cells.{IsTable, empty_slot, record_at, slot_at, put_record, put_slot}
use Rattle.table.specs.Soundness.{stock_sound, sound_at, sound}
use Rattle.table.proofs.Cells.{record-other, slot_other}
use Rattle.rights.specs.Rows as Rights
use Rattle.relation.specs.Relation.{Right, rd, wr, wk, tx, takes_part, holds_in}
use Rattle.relation.specs.Closure.{grow, spread, only, reached, both_take_part, holds_strong, link, influenced_set}
use Rattle.bounds.specs.StandIn.{listed, lowest_from, stand_in, test_node, test_held, bound_of}
use Rattle.bounds.specs.Exactness.{WithWeak, none, kept, put, WeakEntriesFree}
use Rattle.bounds.specs.Agreement.{AgreeOutside}
use Rattle.bounds.proofs.Weak.{weak_entries_free}
use Rattle.confinement.specs.Refusals.{verdict_number, bad_members, bad_entry, bad_list, all_listed, passes, bad_held, member_held, verdict_of}
use Rattle.refusals.specs.Replies.{Done}
use Rattle.requests.specs.Asks.{read, allocate}
use Rattle.refusals.specs.Refusals as Refusals
use Rattle.effects.specs.Effects.{stock_less, allocated, effect}
use Rattle.copies.specs.Copies.{landed, copy_pairs}
use Rattle.steps.specs.Steps.{after, run_table}
use Rattle.isolation.specs.Clean.{Clean, clean_at_start, clean_after, clean_requests}
use Rattle.isolation.specs.Demand.{Alike, BothAccepted, TwoRuns}
use Rattle.isolation.proofs.TwoRuns.{two_runs}
use Rattle.witnesses.proofs.Witness.{record_fits, slot_fits, value_of, alive, over, base, other, members, list, left_list, right_list, other_value, apart, D, asked, right_asked}

-- the table on the left: the member holds nothing over 1
pub blind : Table
blind = put_slot base 2 1 empty_slot

-- the list without the wk
pub short : List Capability
unfolding over
short = over 3 2 ∷ []

-- what is held and what is listed
pub unlisted : (slot_at other 2 1 ≡ over 1 4) × (listed short wk 1 ≡ false) × ((b : Right) → holds_in blind b 2 1 ≡ false)
unfolding blind other base short alive over any_below listed holds_in
unlisted = (refl, refl, none_over)
  where
    none_over : (b : Right) → holds_in blind b 2 1 ≡ false
    none_over rd = refl
    none_over wr = refl
    none_over wk = refl
    none_over tx = refl

blind_value : IsTable blind
unfolding blind base alive over record_fits slot_fits all_below
blind_value = value_of blind refl refl refl refl

tables_agree : AgreeOutside members blind other
unfolding blind other
tables_agree = record {
  records = λ n l o. sym (record-other base 2 n (alive 1 9 0) (apart n o));
  slots = λ n j l hj o.
      slot_other base 2 1 n j empty_slot (omega arith) hj (apart n o)
      ∙ sym (slot_other (put_record base 2 (alive 1 9 0)) 2 5 n j (over 3 2) (omega arith) hj (apart n o));
}

pub accepted_blind : verdict_number (verdict_of blind members short) ≡ 0
unfolding blind base members short alive over bits all_below any_below stock_sound sound_at sound takes_part holds_in listed bad_members bad_entry bad_list all_listed passes bad_held member_held verdict_of
accepted_blind = refl

pub accepted_other : verdict_number (verdict_of other members short) ≡ 0
unfolding base other members short alive over bits all_below any_below stock_sound sound_at sound takes_part holds_in listed bad_members bad_entry bad_list all_listed passes bad_held member_held verdict_of
accepted_other = refl

pub both : BothAccepted blind other members short
both = record { left = blind_value; right = other_value; accepted_left = accepted_blind; accepted_right = accepted_other; agree = tables_agree }

-- the clean objects: by the theorem on entries of wk alone, those of the longer list
abbrev B : Clean
B = clean_at_start blind members short

abbrev E : Clean
E = clean_at_start other members short

longer : WithWeak short list
unfolding short list over
longer = kept (over 3 2) (put (over 1 4) refl none)

same_clean : E ≡ D
unfolding clean_at_start WeakEntriesFree
same_clean = fun_ext (λ n. ap (λ (b : ℕ). takes_part other n && not (has n members) && not (has n b)) (sym (weak_entries_free other members short list longer)))

pub who_is_clean : (bound_of blind members short ≡ 2 ^ 3) × (B 0 ≡ true) × (B 1 ≡ true) × (E 1 ≡ true) × (B 2 ≡ false) × (B 3 ≡ false)
unfolding blind other base members short alive over bits all_below any_below less_of takes_part holds_in grow spread only reached both_take_part holds_strong link influenced_set listed lowest_from stand_in test_node test_held bound_of clean_at_start
who_is_clean = (refl, refl, refl, refl, refl, refl)

-- the read, at its place in the right-hand run
pub at_read : Table
at_read = after other (allocate 0 8 1 0 3 [])

pub read_done : (Refusals.refusal at_read (read 2 1) ≡ Done) × ((record_at at_read 2).word ≡ 9) × ((record_at at_read 1).word ≡ 6) × ((record_at (after at_read (read 2 1)) 2).word ≡ 6)
unfolding at_read other base alive over bits all_below any_below excluding less_of subset_of stock_sound sound_at sound Refusals.bad_slots Refusals.bad_list Refusals.bad_field Rights.rows Rights.worth_of Rights.need_met Refusals.through Refusals.through_slot Refusals.not_in_stock Refusals.later_rows Refusals.refusal landed copy_pairs stock_less allocated effect after
read_done = (refl, refl, refl, refl)

-- 2's word at the end: its own on the left, 1's on the right
pub in_one_run : ((record_at (run_table blind left_list) 2).word ≡ 5) × ((record_at (run_table other right_list) 2).word ≡ 6)
unfolding left_list right_list blind other base alive over bits all_below any_below excluding less_of subset_of stock_sound sound_at sound Refusals.bad_slots Refusals.bad_list Refusals.bad_field Rights.rows Rights.worth_of Rights.need_met Refusals.through Refusals.through_slot Refusals.not_in_stock Refusals.later_rows Refusals.refusal landed copy_pairs stock_less allocated effect after run_table
in_one_run = (refl, refl)

-- the theorem at work
left_asked : clean_requests blind B left_list ≡ asked
unfolding asked left_list blind base members short alive over bits all_below any_below less_of excluding subset_of stock_sound sound_at sound takes_part holds_in grow spread only reached both_take_part holds_strong link influenced_set listed lowest_from stand_in test_node test_held bound_of clean_at_start clean_after clean_requests Refusals.bad_slots Refusals.bad_list Refusals.bad_field Rights.rows Rights.worth_of Rights.need_met Refusals.through Refusals.through_slot Refusals.not_in_stock Refusals.later_rows Refusals.refusal landed copy_pairs stock_less allocated effect after
left_asked = refl

pub unlisted_witnessed : Alike blind other B E left_list right_list
unfolding TwoRuns
unlisted_witnessed = (two_runs blind other members short both).runs left_list right_list
    (left_asked ∙ sym (ap (λ (C : Clean). clean_requests other C right_list) same_clean ∙ right_asked))
