-- Document 01, "Why something is turned down": a reply, and the number of each, 0 for done. 24 is document 02's, 2.8.
use Rattle.std.specs.Prelude.{Bool, true, false, ℕ, Result, Ok, Err}
use Rattle.refusals.specs.declared.Refusal.{Refusal}
use Rattle.refusals.specs.declared.Refusal.TheVariants.{TableUnsound, FieldInvalid, ActorUnfit, SlotEmpty, TargetDead, RightAbsent, TargetPassive, ActorItself, NotInStock, TargetAlive}

-- done, or why not
abbrev pub Reply : Type 0
Reply = Result (Unit {0}) Refusal

abbrev pub Done : Reply
Done = Ok tt

-- the number of a refusal
abbrev pub number_of : Refusal → ℕ
number_of TableUnsound = 1
number_of FieldInvalid = 2
number_of ActorUnfit = 3
number_of SlotEmpty = 4
number_of TargetDead = 5
number_of RightAbsent = 6
number_of TargetPassive = 7
number_of ActorItself = 8
number_of NotInStock = 9
number_of TargetAlive = 24

abbrev pub number : Reply → ℕ
number (Ok u) = 0
number (Err why) = number_of why

abbrev pub is_done : Reply → Bool
is_done (Ok u) = true
is_done (Err why) = false
