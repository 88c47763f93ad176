-- What a request comes to: the table that it leaves, or why it is refused. A step is this put together with the table that was there.
use Rattle.std.specs.Prelude.{Result, Ok, Err}
use Rattle.table.specs.declared.Table.{Table}
use Rattle.refusals.specs.declared.Refusal.{Refusal}
use Rattle.requests.specs.Asks.{Ask}
use Rattle.refusals.specs.Replies.{Done}
use Rattle.refusals.specs.Refusals.{refusal}
use Rattle.effects.specs.Effects.{effect}
use Rattle.steps.specs.declared.Stepped.{Stepped}

unfoldable pub outcome_of : Table → Ask → Result Table Refusal
outcome_of tb q = elim (refusal tb q) [ Ok u ↦ Ok (effect tb q) | Err why ↦ Err why ]

-- the step of an outcome: a refused one leaves the table as it was
abbrev pub put_together : Table → Result Table Refusal → Stepped
put_together tb (Ok u) = record { reply = Done; table = u }
put_together tb (Err why) = record { reply = Err why; table = tb }
