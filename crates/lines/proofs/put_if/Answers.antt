-- `lines::put_if` meets its contract, by the answer of `has`. Assumes nothing.
use mathlib.Core.Path.{sym, ◌∙◌}
use Rattle.lines.proofs.Buffers.{if_in, if_out, none_put}
use Rattle.lines.proofs.put_if.Goals as goal

pub returns-then-has : goal.returns-then-has
returns-then-has c = rw (if_in c.args.set c.args.n (sym c.has.ensures ∙ c.if-has.true)) c.put_line.ensures

pub returns : goal.returns
returns c = rw (if_out c.args.set c.args.n (sym c.has.ensures ∙ c.if-has.false)) (let p = none_put c.args.out.now c.args.at in record { next = p.0; left = p.1 })
