-- What a helper promises: the slot that a capability becomes, or why there is none.
use Rattle.std.specs.Prelude.{Result, Ok, Err}
use Rattle.table.specs.declared.Capability.{Capability}
use Rattle.take_grant.specs.declared.ImportRefusal.{ImportRefusal}
use Rattle.take_grant.specs.Entities.{Cap}
use Rattle.take_grant.specs.Walk.{Found, found, stopped}
use Rattle.take_grant.specs.Imports.{slot_for}

abbrev pub held_of : Found Cap → Result Capability ImportRefusal
held_of (found c rest) = Ok (slot_for c)
held_of (stopped why) = Err why
