use Rattle.leads.specs.Helpers.{Leading}
use Rattle.leads.proofs.Walking.{Walk, to_do}
use Rattle.leads.proofs.settle_from.Given as goal

abbrev pub invariant-walk : goal.invariant-walk
invariant-walk l = (w : Leading l.groups l.links) × Walk l.groups l.links w l.settled l.x l.rows l.path l.objects l.s l.looked l.free l.done l.depth

abbrev pub decreases-walk : goal.decreases-walk
decreases-walk l = to_do l.free l.depth l.looked
