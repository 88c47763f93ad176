-- `sent` is the definition's table, with a reply slot and without: what `row_of` and `copy_pairs` ensure, put into the law of each.
-- Assumes nothing.
use Rattle.effects.proofs.Several.{sent_answered, sent_silent}
use Rattle.effects.proofs.sent.Goals as goal

pub returns-then-reply-lt8 : goal.returns-then-reply-lt8
returns-then-reply-lt8 c = sent_answered c.args.t _ c.args.a c.args.g c.args.word c.args.reply c.args.l _ c.requires.1.1 c.row_of-row.ensures c.copy_pairs-u.ensures c.if-reply-lt8.true

pub returns-else-reply-lt8 : goal.returns-else-reply-lt8
returns-else-reply-lt8 c = sent_silent c.args.t _ c.args.a c.args.g c.args.word c.args.reply c.args.l _ c.requires.1.1 c.row_of-row.ensures c.copy_pairs-u.ensures c.if-reply-lt8.false
