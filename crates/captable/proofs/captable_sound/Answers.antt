-- `captable::captable_sound` meets its contract. Assumes nothing.
use mathlib.Core.Path.{◌∙◌, ap, sym}
use mathlib.Core.Bool.{Bool, cond}
use Rattle.captable.proofs.captable_sound.Goals as goal

pub returns-then-is_sound : goal.returns-then-is_sound
returns-then-is_sound c = ap (λ (b : Bool). cond b 0 1) (sym c.if-is_sound.true ∙ c.is_sound.ensures)

pub returns-else-is_sound : goal.returns-else-is_sound
returns-else-is_sound c = ap (λ (b : Bool). cond b 0 1) (sym c.if-is_sound.false ∙ c.is_sound.ensures)
