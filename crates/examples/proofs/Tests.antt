-- Examples 2 to 5, computed. Assumes nothing.
use mathlib.Core.Path.{◌≡◌, refl}
use mathlib.Core.List.{List, [], ◌∷◌}
use Rattle.mask.specs.Sets.{bits, all_below, any_below, less_of}
use Rattle.table.specs.declared.Capability.{Capability}
use Rattle.table.specs.Soundness.{stock_sound, sound_at, sound}
use Rattle.relation.specs.Relation.{takes_part, holds_in}
use Rattle.relation.specs.Closure.{grow, spread, only, reached, both_take_part, holds_strong, link, influenced_set}
use Rattle.bounds.specs.StandIn.{listed, lowest_from, stand_in, test_node, test_held, bound_of}
use Rattle.confinement.specs.Refusals.{verdict_number, bad_members, bad_entry, bad_list, all_listed, passes, bad_held, member_held, verdict_of}
use Rattle.confinement.specs.Tests.{test_of, verdict_in, bound_in}
use Rattle.examples.specs.TableK.{K, over, wr_right, wk_right}
use Rattle.examples.specs.Statement.{the, weak_k, watched_k}

pub two : ((verdict_number (verdict_in (test_of weak_k (the 5) (over 1 wk_right ∷ []))) ≡ 0) × (bound_in (test_of weak_k (the 5) (over 1 wk_right ∷ [])) ≡ 0))
    × ((verdict_number (verdict_in (test_of weak_k (the 5) [])) ≡ 0) × (bound_in (test_of weak_k (the 5) []) ≡ 0))
unfolding weak_k K bits all_below any_below less_of stock_sound sound_at sound takes_part holds_in grow spread only reached both_take_part holds_strong link influenced_set listed lowest_from stand_in test_node test_held bound_of bad_members bad_entry bad_list all_listed passes bad_held member_held verdict_of test_of
two = ((refl, refl), (refl, refl))

pub three : verdict_number (verdict_in (test_of K (the 5) [])) ≡ 12
unfolding K bits all_below any_below stock_sound sound_at sound takes_part listed bad_members bad_entry bad_list all_listed passes bad_held verdict_of test_of
three = refl

pub four : verdict_number (verdict_in (test_of watched_k (the 5) (over 1 wr_right ∷ []))) ≡ 13
unfolding watched_k K bits all_below any_below stock_sound sound_at sound takes_part listed bad_members bad_entry bad_list all_listed passes bad_held member_held verdict_of test_of
four = refl

pub five : (list : List Capability) → (verdict_number (verdict_in (test_of K 0 list)) ≡ 10) × (verdict_number (verdict_in (test_of K (the 10) list)) ≡ 10)
unfolding K bits all_below any_below stock_sound sound_at sound bad_members verdict_of test_of
five list = (refl, refl)
