-- The number of an answer, document 01: 0 for what was done, and else that of why it was not.
use Rattle.std.specs.Prelude.{ℕ, Result, Ok, Err}

abbrev pub answer_number : {T E : Type 0} → (E → ℕ) → Result T E → ℕ
answer_number of_refusal (Ok done) = 0
answer_number of_refusal (Err why) = of_refusal why
