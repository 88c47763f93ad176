-- Rounds on two tables, computed: 2 in example 1, and 63 along a row of 64 objects. Assumes nothing.
use mathlib.Core.Path.{◌≡◌, refl}
use mathlib.Core.Bool.{◌&&◌}
use mathlib.Core.List.{[], ◌∷◌}
use Prim.Native.Nat.{ℕ, ◌+◌, ◌*◌, ◌/◌}
use native.Mathlib.Omega.{arith}
use lib.Dec.{ltb, eqb}
use borrow.Author.Tests.{ltb-true}
use Rattle.mask.specs.Sets.{bits, all_below, any_below}
use Rattle.mask.proofs.Tests.{by_cases, and_true}
use Rattle.table.specs.Lists.{tabulate}
use Rattle.table.specs.Cells.{IsTable, empty_slot, no_record}
use Rattle.table.specs.Soundness.{stock_sound, sound_at, sound}
use Rattle.table.proofs.Lists.{length_tabulate}
use Rattle.table.proofs.Places.{at_tabulate}
use Rattle.table.proofs.Value.{RecordValue, SlotValue, record-value, slot_value, none_value, empty_value, values_are_table}
use Rattle.relation.specs.Relation.{takes_part}
use Rattle.relation.specs.Closure.{grow}
use Rattle.links.specs.Links.{capability_link}
use Rattle.links.specs.Rounds.{there_after, adding_from, rounds_from}
use Rattle.bounds.specs.StandIn.{listed, lowest_from, stand_in}
use Rattle.confinement.specs.Refusals.{verdict_number, bad_members, bad_entry, bad_list, all_listed, passes, bad_held, member_held, verdict_of}
use Rattle.confinement.specs.Links.{slots_link, list_link, linked, object_link}
use Rattle.confinement.specs.Rounds.{rounds_of}
use Rattle.confinement.specs.Tests.{test_of, rounds_in}
use Rattle.examples.specs.TableK.{K, active, over, wr_right}
use Rattle.examples.specs.Statement.{the}
use Rattle.examples.specs.Rounds.{row_slot, row, RoundsOnTables}

example : rounds_in (test_of K (the 5) (over 1 wr_right ∷ [])) ≡ 2
unfolding K bits all_below any_below stock_sound sound_at sound takes_part grow capability_link there_after adding_from rounds_from listed lowest_from stand_in bad_members bad_entry bad_list all_listed passes bad_held member_held verdict_of slots_link list_link linked object_link rounds_of test_of
example = refl

accepted : verdict_number (verdict_of row (the 0) (over 1 wr_right ∷ [])) ≡ 0
unfolding row tabulate bits all_below any_below stock_sound sound_at sound takes_part listed lowest_from stand_in bad_members bad_entry bad_list all_listed passes bad_held member_held verdict_of
accepted = refl

farthest : rounds_in (test_of row (the 0) (over 1 wr_right ∷ [])) ≡ 63
unfolding row tabulate bits all_below any_below stock_sound sound_at sound takes_part grow capability_link there_after adding_from rounds_from listed lowest_from stand_in bad_members bad_entry bad_list all_listed passes bad_held member_held verdict_of slots_link list_link linked object_link rounds_of test_of
farthest = refl

slot_fits_lem : (k : ℕ) → SlotValue (row_slot k)
slot_fits_lem k = by_cases (eqb (k / 8 * 8) k && ltb k 504)
    (λ e. let h = ltb-true k 504 (and_true (eqb (k / 8 * 8) k) (ltb k 504) e).1 in
    rw (e, row_slot) (slot_value (over (k / 8 + 1) wr_right) (omega arith) (omega arith)))
    (λ e. rw (e, row_slot) empty_value)

row_value : IsTable row
unfolding row
row_value = values_are_table row (length_tabulate 64 _) (length_tabulate 512 _)
    (λ n. at_tabulate RecordValue no_record 64 _ n (record-value (active 0) (omega arith) (omega arith) (omega arith) (omega arith) (omega arith)) none_value)
    (λ k. at_tabulate SlotValue empty_slot 512 _ k (slot_fits_lem k) empty_value)

pub rounds_on_tables : RoundsOnTables
rounds_on_tables = record { example = example; accepts = record { table = row_value; accepted = accepted }; farthest = farthest }
