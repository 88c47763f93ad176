-- `worth_of` is the row of the definitions, arm by arm: in an arm the remainder is the arm's number, and in the last one, where it is
-- none of the fifteen before, 15. Assumes nothing.
use native.Mathlib.Omega.{arith}
use Rattle.rights.specs.Rows.{rows}
use Rattle.rights.proofs.Values.{row_at_lem}
use Rattle.rights.proofs.worth_of.Goals as goal

pub returns-in-0 : goal.returns-in-0
unfolding rows
returns-in-0 c = row_at_lem c.args.rights c.in-0.is

pub returns-in-1 : goal.returns-in-1
unfolding rows
returns-in-1 c = row_at_lem c.args.rights c.in-1.is

pub returns-in-2 : goal.returns-in-2
unfolding rows
returns-in-2 c = row_at_lem c.args.rights c.in-2.is

pub returns-in-3 : goal.returns-in-3
unfolding rows
returns-in-3 c = row_at_lem c.args.rights c.in-3.is

pub returns-in-4 : goal.returns-in-4
unfolding rows
returns-in-4 c = row_at_lem c.args.rights c.in-4.is

pub returns-in-5 : goal.returns-in-5
unfolding rows
returns-in-5 c = row_at_lem c.args.rights c.in-5.is

pub returns-in-6 : goal.returns-in-6
unfolding rows
returns-in-6 c = row_at_lem c.args.rights c.in-6.is

pub returns-in-7 : goal.returns-in-7
unfolding rows
returns-in-7 c = row_at_lem c.args.rights c.in-7.is

pub returns-in-8 : goal.returns-in-8
unfolding rows
returns-in-8 c = row_at_lem c.args.rights c.in-8.is

pub returns-in-9 : goal.returns-in-9
unfolding rows
returns-in-9 c = row_at_lem c.args.rights c.in-9.is

pub returns-in-10 : goal.returns-in-10
unfolding rows
returns-in-10 c = row_at_lem c.args.rights c.in-10.is

pub returns-in-11 : goal.returns-in-11
unfolding rows
returns-in-11 c = row_at_lem c.args.rights c.in-11.is

pub returns-in-12 : goal.returns-in-12
unfolding rows
returns-in-12 c = row_at_lem c.args.rights c.in-12.is

pub returns-in-13 : goal.returns-in-13
unfolding rows
returns-in-13 c = row_at_lem c.args.rights c.in-13.is

pub returns-in-14 : goal.returns-in-14
unfolding rows
returns-in-14 c = row_at_lem c.args.rights c.in-14.is

pub returns-in-15-to-255 : goal.returns-in-15-to-255
unfolding rows
returns-in-15-to-255 c = row_at_lem c.args.rights {k = 15} (omega arith)
