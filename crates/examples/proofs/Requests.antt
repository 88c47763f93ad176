-- Examples 6 to 10, computed. Assumes nothing.
use mathlib.Core.Path.{◌≡◌, refl}
use Prim.Native.Nat.{ℕ}
use Rattle.mask.specs.Sets.{bits, all_below, excluding, less_of, subset_of}
use Rattle.table.specs.Cells.{record_at, stock_at, empty_slot}
use Rattle.table.specs.Soundness.{stock_sound, sound_at, sound}
use Rattle.rights.specs.Rows.{rows, worth_of, need_met, weaken}
use Rattle.requests.specs.Asks.{read, write}
use Rattle.refusals.specs.Replies.{number}
use Rattle.refusals.specs.Refusals.{bad_slots, bad_list, bad_field, through, through_slot, not_in_stock, later_rows, refusal}
use Rattle.effects.specs.Effects.{stock_less, allocated, effect}
use Rattle.copies.specs.Copies.{copy_pairs}
use Rattle.steps.specs.Steps.{after, step_of}
use Rattle.examples.specs.TableK.{K, over}
use Rattle.examples.specs.Statement.{the, making}

pub six : (number (step_of K (making 10)).reply ≡ 0) × (stock_at (step_of K (making 10)).table 10 ≡ the 11) × (stock_at (step_of K (making 10)).table 5 ≡ 0)
unfolding K bits all_below excluding less_of subset_of stock_sound sound_at sound bad_slots bad_list bad_field rows worth_of need_met through through_slot not_in_stock later_rows refusal copy_pairs stock_less allocated effect after step_of
six = (refl, refl, refl)

pub seven : number (refusal K (making 12)) ≡ 9
unfolding K bits all_below excluding subset_of stock_sound sound_at sound bad_slots bad_list bad_field not_in_stock later_rows refusal
seven = refl

pub eight : (target : ℕ) → (weaken (over target 1) ≡ over target 4) × (weaken (over target 15) ≡ over target 4) × (weaken (over target 10) ≡ empty_slot)
unfolding rows worth_of weaken
eight target = (refl, refl, refl)

pub nine : ((record_at (after K (write 4 0 7)) 3).word ≡ 7) × (number (refusal K (write 2 0 7)) ≡ 6)
unfolding K bits all_below stock_sound sound_at sound bad_field rows worth_of need_met through through_slot later_rows refusal effect after
nine = (refl, refl)

pub ten : (number (refusal K (read 1 8)) ≡ 2) × (number (refusal K (read 1 0)) ≡ 3) × (number (refusal K (read 0 5)) ≡ 4)
unfolding K bits all_below stock_sound sound_at sound bad_field rows worth_of need_met through through_slot later_rows refusal
ten = (refl, refl, refl)
