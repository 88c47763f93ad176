use Rattle.take_grant.proofs.Loops.{Taken, Within}
use Rattle.take_grant.proofs.entities.Given as goal

abbrev pub invariant-capabilities : goal.invariant-capabilities
invariant-capabilities l = Within l.bytes l.count l.n l.initial.at l.capabilities l.k l.at l.t

abbrev pub invariant-entities : goal.invariant-entities
invariant-entities l = Taken l.bytes l.count l.n l.at l.t
