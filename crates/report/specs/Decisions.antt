-- What `confine` decides of an input, document 01: the bound, or a refusal by its number, with which no bound goes. 17 is checked first, then 15
-- "at any other version byte" than 1 (document 02, 2.7), then the image's other refusals, then the test's.
use Rattle.std.specs.Prelude.{true, false, List, ℕ, Result, Ok, Err}
use Rattle.table.specs.declared.Table.{Table}
use Rattle.bounds.specs.declared.Grown.{Grown}
use Rattle.confinement.specs.declared.TestRefusal.{TestRefusal}
use Rattle.confinement.specs.Refusals.{refusal_number}
use Rattle.confinement.specs.Tests.{test_of}
use Rattle.image.specs.declared.ReadRefusal.{ReadRefusal}
use Rattle.image.specs.Images.{read_of, read_number}
use Rattle.lines.specs.declared.Refused.{Refused}
use Rattle.report.specs.Input.{wrong_length, other_version, image_part, members_of, list_of}

-- a refusal
abbrev pub refused_by : ℕ → Refused
refused_by n = record { number = n }

-- by the test's result
abbrev pub test_decision : Result Grown TestRefusal → Result ℕ Refused
test_decision (Ok g) = Ok g.bound
test_decision (Err why) = Err (refused_by (refusal_number why))

-- by what reading gives
abbrev pub image_decision : Result Table ReadRefusal → Result Table Refused
image_decision (Ok t) = Ok t
image_decision (Err why) = Err (refused_by (read_number why))

-- once the image is read, or not
abbrev pub loaded_decision : Result Table Refused → List ℕ → Result ℕ Refused
loaded_decision (Ok t) input = test_decision (test_of t (members_of input) (list_of input))
loaded_decision (Err why) input = Err why

unfoldable pub decision_of : List ℕ → Result ℕ Refused
decision_of input =
    elim (wrong_length input) [
      | true ↦ Err (refused_by 17)
      | false ↦ elim (other_version input) [
        | true ↦ Err (refused_by 15)
        | false ↦ loaded_decision (image_decision (read_of (image_part input))) input
      ]
    ]
