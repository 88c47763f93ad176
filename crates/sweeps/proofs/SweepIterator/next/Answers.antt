-- `next` of a sweep: without the number that it gives fewer are left. Assumes nothing.
use Rattle.sweeps.proofs.Numbers.{fewer_left}
use Rattle.sweeps.proofs.SweepIterator.next.Goals as goal

pub returns-clause-goes : goal.returns-clause-goes
returns-clause-goes c = let q = c.lowest-x.ensures in
    record { on = λ f. (tt, f, fewer_left _ _ _ q (c.beyond-self.ensures _ q)); keeps = tt; rests = λ f. tt }
