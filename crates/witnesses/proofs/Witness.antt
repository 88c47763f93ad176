-- A witness that demand 3 is no empty claim, computed: two different sound tables that agree outside the member 2; a test that
-- accepts, with the bound {3} and the clean objects 0 and 1; two different lists in which the same clean requests, an allocate
-- among them, are answered 0, and the member's requests change the table; the theorem applied to them; and who made the new object. Assumes
-- nothing.
use mathlib.Core.Path.{◌≡◌, refl, sym, ◌∙◌, ap}
use mathlib.Core.Logic.{◌≢◌}
use mathlib.Core.Bool.{Bool, true, false, ◌&&◌}
use mathlib.Core.List.{List, [], ◌∷◌, ◌++◌}
use Prim.Native.Nat.{ℕ, ◌^◌}
use native.Mathlib.Omega.{arith}
use lib.Dec.{ltb}
use lib.ListN.{length, get_or, replicate, get_or-eq_default}
use borrow.Author.Tests.{ltb-true, ltb-false}
use Rattle.mask.specs.Sets.{has, bits, all_below, any_below, less_of, excluding, subset_of}
use Rattle.mask.proofs.Tests.{by_cases, clash, and_true}
use Rattle.mask.proofs.Below.{all_at}
use Rattle.table.specs.declared.Capability.{Capability}
use Rattle.table.specs.declared.Record.{Record}
use Rattle.table.specs.declared.Table.{Table}
use Rattle.table.specs.Cells.{IsTable, no_maker, empty_slot, no_record, unborn_record, record_at, maker_at, put_record, put_slot}
use Rattle.table.specs.Soundness.{stock_sound, sound_at, sound}
use Rattle.table.proofs.Cells.{record-other, slot_other}
use Rattle.rights.specs.Rows as Rights
use Rattle.relation.specs.Relation.{takes_part, holds_in}
use Rattle.relation.specs.Closure.{grow, spread, only, reached, both_take_part, holds_strong, link, influenced_set}
use Rattle.bounds.specs.StandIn.{listed, lowest_from, stand_in, test_node, test_held, bound_of}
use Rattle.confinement.specs.Refusals.{verdict_number, bad_members, bad_entry, bad_list, all_listed, passes, bad_held, member_held, verdict_of}
use Rattle.bounds.specs.Agreement.{AgreeOutside}
use Rattle.refusals.specs.Replies.{Done}
use Rattle.requests.specs.Asks.{Ask, read, write, allocate}
use Rattle.refusals.specs.Refusals as Refusals
use Rattle.effects.specs.Effects.{stock_less, allocated, effect}
use Rattle.copies.specs.Copies.{landed, copy_pairs}
use Rattle.steps.specs.Steps.{after, run_table}
use Rattle.isolation.specs.Clean.{Clean, clean_at_start, clean_after, clean_at_end, clean_requests, clean_replies, compared_at_start, compared_after, compared_at_end}
use Rattle.isolation.specs.Demand.{Alike, BothAccepted, TwoRuns, MakersAgree}
use Rattle.isolation.proofs.TwoRuns.{two_runs}

-- a value of the table type, by trying every record and slot ------------------------
unfoldable pub record_fits : Record → Bool
record_fits r = ltb r.status 256 && ltb r.kind 256 && ltb r.word (2 ^ 32) && ltb r.stock (2 ^ 64) && ltb r.maker 256

unfoldable pub slot_fits : Capability → Bool
slot_fits c = ltb c.target 256 && ltb c.rights 256

-- a fact of every element, from those below the length and the default
each : {A : Type 0} (P : A → Bool) (d : A) (l : List A) (n : ℕ) → length l ≡ n → P d ≡ true → all_below n (λ k. P (get_or l k d)) ≡ true → (k : ℕ) → P (get_or l k d) ≡ true
each P d l n e h f k = by_cases (ltb k n)
    (λ q. all_at n _ f k (ltb-true k n q))
    (λ q. ap P (get_or-eq_default l d (omega (arith, ltb-false k n q))) ∙ h)

pub value_of : (t : Table) → length t.records ≡ 64 → length t.slots ≡ 512
    → all_below 64 (λ n. record_fits (get_or t.records n no_record)) ≡ true
    → all_below 512 (λ k. slot_fits (get_or t.slots k empty_slot)) ≡ true → IsTable t
unfolding record_fits slot_fits
value_of t p q f g = record {
  records = p;
  slots = q;
  statuses = λ n. ltb-true _ _ (and_true _ _ (and_true _ _ (and_true _ _ (fields n)).0).0).0;
  kinds = λ n. ltb-true _ _ (and_true (ltb (record_at t n).status 256) _ (and_true _ _ (and_true _ _ (fields n)).0).0).1;
  makers = λ n. ltb-true _ _ (and_true (unmade (record_at t n)) _ (rec n)).1;
  words = λ n. ltb-true _ _ (and_true (ltb (record_at t n).status 256 && ltb (record_at t n).kind 256) _ (and_true _ _ (fields n)).0).1;
  stocks = λ n. ltb-true _ _ (and_true (ltb (record_at t n).status 256 && ltb (record_at t n).kind 256 && ltb (record_at t n).word (2 ^ 32)) _ (fields n)).1;
  targets = λ k. ltb-true _ _ (and_true (ltb (get_or t.slots k empty_slot).target 256) _ (cap k)).0;
  rights = λ k. ltb-true _ _ (and_true (ltb (get_or t.slots k empty_slot).target 256) _ (cap k)).1;
}
  where
    rec : (n : ℕ) → record_fits (record_at t n) ≡ true
    rec = each record_fits no_record t.records 64 p refl f

    -- all but the maker
    unmade : Record → Bool
    unmade r = ltb r.status 256 && ltb r.kind 256 && ltb r.word (2 ^ 32) && ltb r.stock (2 ^ 64)

    fields : (n : ℕ) → unmade (record_at t n) ≡ true
    fields n = (and_true (unmade (record_at t n)) _ (rec n)).0

    cap : (k : ℕ) → slot_fits (get_or t.slots k empty_slot) ≡ true
    cap = each slot_fits empty_slot t.slots 512 q refl g

-- the tables -------------------------------------------------------------------------
unfoldable pub alive : ℕ → ℕ → ℕ → Record
alive kind word stock = record { status = 1; kind = kind; maker = no_maker; word = word; stock = stock }

unfoldable pub over : ℕ → ℕ → Capability
over target rights = record { target = target; rights = rights }

-- 0 has 8 in stock and everything over 1; 1 has wr over itself; the member 2 may write 3 and read 1 weakly
unfoldable pub base : Table
unfolding alive over
base = put_slot (put_slot (put_slot (put_slot (record {
  records = (alive 1 0 (2 ^ 8) ∷ alive 0 6 0 ∷ alive 1 5 0 ∷ alive 0 0 0 ∷ []) ++ replicate 60 unborn_record;
  slots = replicate 512 empty_slot;
}) 0 0 (over 1 15)) 1 3 (over 1 2)) 2 0 (over 3 2)) 2 1 (over 1 4)

-- another word and another slot of the member
unfoldable pub other : Table
unfolding alive over
other = put_slot (put_record base 2 (alive 1 9 0)) 2 5 (over 3 2)

unfoldable pub members : ℕ
members = 2 ^ 2

unfoldable pub list : List Capability
unfolding over
list = over 3 2 ∷ over 1 4 ∷ []

-- 2 writes 3 through slot 0; 0 makes 8; 0 writes 1
unfoldable pub left_list : List Ask
left_list = write 2 0 7 ∷ allocate 0 8 1 0 3 [] ∷ write 0 0 4 ∷ []

-- 0 makes 8; 2 reads 1 and writes 3 twice; 0 writes 1
unfoldable pub right_list : List Ask
right_list = allocate 0 8 1 0 3 [] ∷ read 2 1 ∷ write 2 0 6 ∷ write 2 5 3 ∷ write 0 0 4 ∷ []

base_value : IsTable base
unfolding base alive over record_fits slot_fits all_below
base_value = value_of base refl refl refl refl

pub other_value : IsTable other
unfolding other base alive over record_fits slot_fits all_below
other_value = value_of other refl refl refl refl

-- a non-member is not 2
pub apart : (n : ℕ) → has n members ≡ false → n ≢ 2
unfolding members
apart n o e = clash refl (rw e at o)

tables_agree : AgreeOutside members base other
unfolding other
tables_agree = record {
  records = λ n l o. sym (record-other base 2 n (alive 1 9 0) (apart n o));
  slots = λ n j l hj o. sym (slot_other (put_record base 2 (alive 1 9 0)) 2 5 n j (over 3 2) (omega arith) hj (apart n o));
}

accepted_base : verdict_number (verdict_of base members list) ≡ 0
unfolding base other members list alive over bits all_below any_below stock_sound sound_at sound takes_part holds_in listed bad_members bad_entry bad_list all_listed passes bad_held member_held verdict_of
accepted_base = refl

accepted_other : verdict_number (verdict_of other members list) ≡ 0
unfolding base other members list alive over bits all_below any_below stock_sound sound_at sound takes_part holds_in listed bad_members bad_entry bad_list all_listed passes bad_held member_held verdict_of
accepted_other = refl

pub both : BothAccepted base other members list
both = record { left = base_value; right = other_value; accepted_left = accepted_base; accepted_right = accepted_other; agree = tables_agree }

-- what is computed -----------------------------------------------------------------------
abbrev pub C : Clean
C = clean_at_start base members list

abbrev pub D : Clean
D = clean_at_start other members list

pub tables_differ : base ≢ other
unfolding base other alive over
tables_differ e = absurd (omega (arith, ap (λ (t : Table). (record_at t 2).word) e))

pub who_is_clean : (bound_of base members list ≡ 2 ^ 3) × (C 0 ≡ true) × (C 1 ≡ true) × (C 2 ≡ false) × (C 3 ≡ false)
unfolding base members list alive over bits all_below any_below less_of takes_part holds_in grow spread only reached both_take_part holds_strong link influenced_set listed lowest_from stand_in test_node test_held bound_of clean_at_start
who_is_clean = (refl, refl, refl, refl, refl)

-- the member's write is done, and shows
pub others_act : (record_at (after base (write 2 0 7)) 3).word ≡ 7
unfolding base members list alive over bits all_below any_below stock_sound sound_at sound Refusals.bad_field Rights.rows Rights.worth_of Rights.need_met Refusals.through Refusals.through_slot Refusals.later_rows Refusals.refusal effect after
others_act = refl

-- the clean requests of the two lists, and the replies to them
unfoldable pub asked : List Ask
asked = allocate 0 8 1 0 3 [] ∷ write 0 0 4 ∷ []

left_asked : clean_requests base C left_list ≡ asked
unfolding asked left_list base members list alive over bits all_below any_below less_of excluding subset_of stock_sound sound_at sound takes_part holds_in grow spread only reached both_take_part holds_strong link influenced_set listed lowest_from stand_in test_node test_held bound_of clean_at_start clean_after clean_requests Refusals.bad_slots Refusals.bad_list Refusals.bad_field Rights.rows Rights.worth_of Rights.need_met Refusals.through Refusals.through_slot Refusals.not_in_stock Refusals.later_rows Refusals.refusal landed copy_pairs stock_less allocated effect after
left_asked = refl

pub right_asked : clean_requests other D right_list ≡ asked
unfolding asked right_list other base members list alive over bits all_below any_below less_of excluding subset_of stock_sound sound_at sound takes_part holds_in grow spread only reached both_take_part holds_strong link influenced_set listed lowest_from stand_in test_node test_held bound_of clean_at_start clean_after clean_requests Refusals.bad_slots Refusals.bad_list Refusals.bad_field Rights.rows Rights.worth_of Rights.need_met Refusals.through Refusals.through_slot Refusals.not_in_stock Refusals.later_rows Refusals.refusal landed copy_pairs stock_less allocated effect after
right_asked = refl

pub left_done : clean_replies base C left_list ≡ Done ∷ Done ∷ []
unfolding left_list base members list alive over bits all_below any_below less_of excluding subset_of stock_sound sound_at sound takes_part holds_in grow spread only reached both_take_part holds_strong link influenced_set listed lowest_from stand_in test_node test_held bound_of clean_at_start clean_after clean_replies Refusals.bad_slots Refusals.bad_list Refusals.bad_field Rights.rows Rights.worth_of Rights.need_met Refusals.through Refusals.through_slot Refusals.not_in_stock Refusals.later_rows Refusals.refusal landed copy_pairs stock_less allocated effect after
left_done = refl

-- the theorem at work: the same replies in the other run, and 8 clean in both with equal records
pub witnessed : Alike base other C D left_list right_list
unfolding TwoRuns
witnessed = (two_runs base other members list both).runs left_list right_list (left_asked ∙ sym right_asked)

pub right_done : clean_replies other D right_list ≡ Done ∷ Done ∷ []
right_done = sym witnessed.replies ∙ left_done

-- the new object is clean, and its maker is 0: computed on the left, and so on the right
new_clean : clean_at_end base C left_list 8 ≡ true
unfolding left_list base members list alive over bits all_below any_below less_of excluding subset_of stock_sound sound_at sound takes_part holds_in grow spread only reached both_take_part holds_strong link influenced_set listed lowest_from stand_in test_node test_held bound_of clean_at_start clean_after clean_at_end Refusals.bad_slots Refusals.bad_list Refusals.bad_field Rights.rows Rights.worth_of Rights.need_met Refusals.through Refusals.through_slot Refusals.not_in_stock Refusals.later_rows Refusals.refusal landed copy_pairs stock_less allocated effect after
new_clean = refl

pub maker_left_lem : maker_at (run_table base left_list) 8 ≡ 0
unfolding left_list base alive over bits all_below any_below less_of excluding subset_of stock_sound sound_at sound Refusals.bad_slots Refusals.bad_list Refusals.bad_field Rights.rows Rights.worth_of Rights.need_met Refusals.through Refusals.through_slot Refusals.not_in_stock Refusals.later_rows Refusals.refusal landed copy_pairs stock_less allocated effect after run_table
maker_left_lem = refl

new_compared : compared_at_end base C (compared_at_start base C) left_list 8 ≡ true
unfolding left_list base members list alive over bits all_below any_below less_of excluding subset_of stock_sound sound_at sound takes_part holds_in grow spread only reached both_take_part holds_strong link influenced_set listed lowest_from stand_in test_node test_held bound_of clean_at_start clean_after compared_at_start compared_after compared_at_end Refusals.bad_slots Refusals.bad_list Refusals.bad_field Rights.rows Rights.worth_of Rights.need_met Refusals.through Refusals.through_slot Refusals.not_in_stock Refusals.later_rows Refusals.refusal landed copy_pairs stock_less allocated effect after
new_compared = refl

pub maker_right : maker_at (run_table other right_list) 8 ≡ 0
unfolding MakersAgree
maker_right = sym (witnessed.makers 8 new_clean new_compared) ∙ maker_left_lem
