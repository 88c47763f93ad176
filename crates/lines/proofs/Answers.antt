-- What is printed of a decision, refused or accepted. Assumes nothing.
use mathlib.Core.Path.{◌≡◌, refl}
use Prim.Native.Nat.{ℕ}
use Rattle.std.specs.Prelude.{Ok, Err}
use Rattle.lines.specs.declared.Refused.{Refused}
use Rattle.lines.specs.Lines.{refused_line, accepted_lines, lines_of}

pub lines_refused : (why : Refused) → lines_of (Err why) ≡ refused_line why.number
lines_refused why = refl

pub lines_accepted : (bound : ℕ) → lines_of (Ok bound) ≡ accepted_lines bound
lines_accepted bound = refl
