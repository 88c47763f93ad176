-- `lines::put_line` meets its contract: the stores are a run of the line's bytes. Assumes nothing.
use Rattle.lines.proofs.Buffers.{line_put_one, line_put_two}
use Rattle.lines.proofs.put_line.Goals as goal

pub returns-then-n-lt10 : goal.returns-then-n-lt10
returns-then-n-lt10 c = let p = line_put_one c.args.out.now c.args.at c.args.n c.requires.0 c.if-n-lt10.true in record { next = p.0; left = p.1 }

pub returns : goal.returns
returns c = let p = line_put_two c.args.out.now c.args.at c.args.n c.requires.0 c.if-n-lt10.false in record { next = p.0; left = p.1 }
