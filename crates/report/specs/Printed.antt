-- Document 01: what the program prints for an input, the lines of what it decides of it.
use Rattle.std.specs.Prelude.{List, ℕ}
use Rattle.lines.specs.Lines.{lines_of}
use Rattle.report.specs.Decisions.{decision_of}

-- what `confine` prints
abbrev pub printed_of : List ℕ → List ℕ
printed_of input = lines_of (decision_of input)
