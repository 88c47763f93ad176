-- `potential_access` answers the closure of the table, worked by groups, or that it is not sound. Assumes nothing.
use mathlib.Core.Path.{refl}
use Rattle.table.proofs.Value.{value_sized}
use Rattle.access.proofs.TableWords.{access_refused}
use Rattle.groups.proofs.Answered.{Worked, none_astray, named_held, joined_words, leading_words, own_words, access_done}
use Rattle.groups.proofs.potential_access.Goals as goal

pub returns-then-not-is_sound : goal.returns-then-not-is_sound
returns-then-not-is_sound c = access_refused _ _ c.is_sound.ensures c.if-not-is_sound.true

pub group_words-leading-requires : goal.group_words-leading-requires
group_words-leading-requires c = let t = c.args.t in let z = value_sized t _ c.well_formed.0 in let s = c.is_sound.ensures in let e = c.if-not-is_sound.false in let b = c.born_outside-born.ensures in let h = c.held_words.ensures.1 (none_astray t _ _ _ z s e b c.held_words.ensures.0) in (joined_words t _ _ b h.0, refl, refl)

pub led_words-led-requires : goal.led_words-led-requires
led_words-led-requires c = let t = c.args.t in let z = value_sized t _ c.well_formed.0 in let s = c.is_sound.ensures in let e = c.if-not-is_sound.false in let b = c.born_outside-born.ensures in let h = c.held_words.ensures.1 (none_astray t _ _ _ z s e b c.held_words.ensures.0) in let w : Worked t _ _ _ _ _ = record { born = b; joins = h.0; over = named_held t _ _ _ z s e h.1; groups = c.group_words-leading.ensures.0; links = c.group_words-leading.ensures.1 } in (leading_words _ _ _ _ _ _ w, own_words _ _ _ _ _ _ w, c.group_words-leading.ensures.2)

pub returns : goal.returns
returns c = let t = c.args.t in let z = value_sized t _ c.well_formed.0 in let s = c.is_sound.ensures in let e = c.if-not-is_sound.false in let b = c.born_outside-born.ensures in let h = c.held_words.ensures.1 (none_astray t _ _ _ z s e b c.held_words.ensures.0) in let w : Worked t _ _ _ _ _ = record { born = b; joins = h.0; over = named_held t _ _ _ z s e h.1; groups = c.group_words-leading.ensures.0; links = c.group_words-leading.ensures.1 } in access_done t _ _ _ _ _ w _ _ _ s e c.led_words-led.ensures c.laid_out-rows.ensures
