-- `lines::put_accepted` meets its contract: the numbers' lines join the word's line. Assumes nothing.
use mathlib.Core.Path.{◌∙◌}
use mathlib.Core.List.{[], ◌∷◌, ◌++◌}
use Rattle.lines.specs.Lines.{newline, accepted_word, number_lines, accepted_lines}
use Rattle.lines.proofs.Buffers.{begun_next}
use Rattle.lines.proofs.put_accepted.Goals as goal

pub returns : goal.returns
unfolding accepted_lines
returns c = let b = begun_next c.args.out.now (accepted_word ++ (newline ∷ [])) c.put_word-at.new.out (number_lines c.args.bound 64) c.put_word-at.result c.put_word-at.ensures.next c.put_word-at.ensures.left in
    record { next = c.put_numbers.ensures.next ∙ b.0; left = c.put_numbers.ensures.left ∙ b.1 }
