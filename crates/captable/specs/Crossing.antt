-- What crosses to C and Rust: every answer by document 01's number, 0 for done, with what goes with it.
use Rattle.std.specs.Prelude.{cond, List, ℕ, replicate, Result, Ok, Err}
use Rattle.std.specs.Result.{result_unwrap_or}
use Rattle.table.specs.declared.Table.{Table}
use Rattle.table.specs.Cells.{unborn_table}
use Rattle.table.specs.Soundness.{sound}
use Rattle.steps.specs.declared.Stepped.{Stepped}
use Rattle.refusals.specs.Replies.{number}
use Rattle.access.specs.declared.AccessRefusal.{AccessRefusal}
use Rattle.access.specs.Answers.{access_number}
use Rattle.bounds.specs.declared.Grown.{Grown}
use Rattle.confinement.specs.declared.TestRefusal.{TestRefusal}
use Rattle.confinement.specs.Refusals.{verdict_number}
use Rattle.confinement.specs.Tests.{verdict_in, bound_in, rounds_in}
use Rattle.walks.specs.declared.Walked.{Walked}
use Rattle.chains.specs.declared.ChainRefusal.{ChainRefusal}
use Rattle.chains.specs.Answers.{chain_number, reply_in, walked_in}
use Rattle.image.specs.declared.ReadRefusal.{ReadRefusal}
use Rattle.image.specs.Images.{table_loaded, number_loaded}
use Rattle.image_out.specs.declared.WriteRefusal.{WriteRefusal}
use Rattle.image_out.specs.Written.{write_number}
use Rattle.take_grant.specs.declared.ImportRefusal.{ImportRefusal}
use Rattle.take_grant.specs.Imports.{table_after, number_after}
use Rattle.numbers.specs.Answered.{answer_number}
use Rattle.captable.specs.declared.Outcome.{Outcome}
use Rattle.captable.specs.declared.Relation.{Relation}
use Rattle.captable.specs.declared.Finding.{Finding}
use Rattle.captable.specs.declared.ShownChain.{ShownChain}

-- the version of the calls, 0.10.0: the first number times 65,536, the second times 256, the third
abbrev pub version : ℕ
version = 2560

abbrev pub sound_number : Table → ℕ
sound_number t = cond (sound t) 0 1

abbrev pub stepped : Stepped → Outcome
stepped s = record { table = s.table; number = number s.reply }

abbrev pub related : Result (List ℕ) AccessRefusal → Relation
related (Ok rows) = record { rows = rows; number = 0 }
related (Err why) = record { rows = replicate 256 0; number = access_number why }

abbrev pub found : Result Grown TestRefusal → Finding
found r = record { bound = bound_in r; rounds = rounds_in r; number = verdict_number (verdict_in r) }

abbrev pub chained : Result Walked ChainRefusal → ShownChain
chained r = record { numbers = (walked_in r).numbers; count = (walked_in r).count; number = chain_number (reply_in r) }

-- what was read or brought in; on a refusal "the unborn table", document 01
abbrev pub given : {E : Type 0} → (E → ℕ) → Result Table E → Outcome
given of_refusal r = record { table = result_unwrap_or r unborn_table; number = answer_number of_refusal r }

-- of a reading and of an import, by the table and the number that their own definitions give
abbrev pub loaded : Result Table ReadRefusal → Outcome
loaded r = record { table = table_loaded r; number = number_loaded r }

abbrev pub brought_in : Result Table ImportRefusal → Outcome
brought_in r = record { table = table_after r; number = number_after r }

abbrev pub written_number : Result (Unit {0}) WriteRefusal → ℕ
written_number = answer_number write_number
