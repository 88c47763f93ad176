-- `lines::put_refused` meets its contract: the number's line joins the word. Assumes nothing.
use mathlib.Core.Path.{◌∙◌}
use Rattle.lines.specs.Lines.{refused_word, number_line, refused_line}
use Rattle.lines.proofs.Buffers.{begun_next}
use Rattle.lines.proofs.put_refused.Goals as goal

pub returns : goal.returns
unfolding refused_line
returns c = let b = begun_next c.args.out.now refused_word c.put_word-at.new.out (number_line c.args.n) c.put_word-at.result c.put_word-at.ensures.next c.put_word-at.ensures.left in
    record { next = c.put_line.ensures.next ∙ b.0; left = c.put_line.ensures.left ∙ b.1 }
