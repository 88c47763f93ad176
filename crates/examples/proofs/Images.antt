-- Examples 1 and 12, computed from the bytes. Assumes nothing.
use mathlib.Core.Path.{◌≡◌, refl}
use mathlib.Core.List.{[], ◌∷◌}
use lib.ListN.{take, set}
use Rattle.std.specs.Result.{IsErrAnd}
use Rattle.mask.specs.Sets.{bits, all_below, any_below, less_of}
use Rattle.table.specs.Lists.{tabulate}
use Rattle.table.specs.Soundness.{stock_sound, sound_at, sound}
use Rattle.relation.specs.Relation.{takes_part, holds_in}
use Rattle.relation.specs.Closure.{grow, spread, only, reached, both_take_part, holds_strong, link, influenced_set}
use Rattle.bounds.specs.StandIn.{listed, lowest_from, stand_in, test_node, test_held, bound_of}
use Rattle.confinement.specs.Refusals.{bad_members, bad_entry, bad_list, all_listed, passes, bad_held, member_held, verdict_of}
use Rattle.confinement.specs.Tests.{test_of}
use Rattle.octets.specs.BigEndian.{bytes_of, number_from}
use Rattle.image.specs.declared.Version.TheVariants.{One}
use Rattle.image.specs.Layout.{stored_at, object_bytes, slots_bytes, shared_bytes, stored_bytes, records_bytes, image_of, part_of, record_with, slot_from, table_from}
use Rattle.image.specs.Images.{head_refusal, read_of, read_number}
use Rattle.entries.specs.Entries.{entry_in, entries_in}
use Rattle.report.specs.Input.{wrong_length, members_of, list_of}
use Rattle.report.specs.Decisions.{decision_of}
use Rattle.lines.specs.Lines.{decimal, number_lines, refused_line, accepted_lines}
use Rattle.report.specs.Printed.{printed_of}
use Rattle.examples.specs.TableK.{K}
use Rattle.examples.specs.Statement.{input}

pub one : printed_of input ≡ 97 ∷ 99 ∷ 99 ∷ 101 ∷ 112 ∷ 116 ∷ 101 ∷ 100 ∷ 10 ∷ 48 ∷ 10 ∷ 49 ∷ 10 ∷ 50 ∷ 10 ∷ []
unfolding K input bits all_below any_below less_of tabulate stock_sound sound_at sound takes_part holds_in grow spread only reached both_take_part holds_strong link influenced_set listed lowest_from stand_in test_node test_held bound_of bad_members bad_entry bad_list all_listed passes bad_held member_held verdict_of test_of bytes_of number_from stored_at object_bytes slots_bytes shared_bytes stored_bytes records_bytes image_of part_of record_with slot_from table_from head_refusal read_of wrong_length members_of entry_in entries_in list_of decision_of decimal number_lines refused_line accepted_lines
one = refl

pub twelve : IsErrAnd (read_of (take 1922 (image_of One K))) (λ why. read_number why ≡ 14) × IsErrAnd (read_of (set (image_of One K) 2 0)) (λ why. read_number why ≡ 15)
unfolding K bytes_of number_from stored_at object_bytes slots_bytes shared_bytes stored_bytes records_bytes image_of head_refusal read_of
twelve = (refl, refl)
