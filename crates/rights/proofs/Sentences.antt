-- The rows are document 01's sentences, for every value: row by row for 0 to 15, and a value above has the four rights of its
-- remainder. Assumes nothing.
use mathlib.Core.Path.{◌≡◌, refl, sym, ◌∙◌, ap}
use mathlib.Core.Bool.{true, false, ◌||◌}
use Prim.Native.Nat.{ℕ, ◌%◌, ◌/◌, ◌^◌, ◌<◌}
use native.Mathlib.Omega.{arith}
use lib.Dec.{eqb}
use Rattle.mask.specs.Sets.{has}
use Rattle.mask.proofs.Tests.{by_cases}
use Rattle.table.specs.declared.Capability.{Capability}
use Rattle.table.specs.Cells.{empty_slot, has_rd, has_wr, has_wk, has_tx}
use Rattle.rights.specs.declared.Worth.{Worth}
use Rattle.rights.specs.Rows.{rows, worth_of, need_met, weaken}
use Rattle.rights.specs.Exactness.{SixteenRows, RowsAreTheSentences, NeedsAreTheSentences, WeakeningIsTheSentence, FourLowestBits}
use Rattle.rights.proofs.Values.{Each, each_at, row_at_lem}

-- the sentences as a row
abbrev said : ℕ → Worth
said n = (elim (has_rd n || has_wk n) [ true ↦ 4 | false ↦ 0 ], has_rd n || has_wk n, has_wr n, has_tx n)

abbrev Says : ℕ → Type 0
Says n = worth_of n ≡ said n

-- 0 to 15
row_by_row : Each Says 16
unfolding Each rows worth_of
row_by_row =
    ((((((((((((((((tt, refl), refl), refl), refl), refl), refl), refl), refl), refl), refl), refl), refl), refl), refl), refl), refl)

pub sixteen_rows : SixteenRows
unfolding SixteenRows rows
sixteen_rows = refl

pub four_lowest_bits : FourLowestBits
unfolding FourLowestBits
four_lowest_bits r = sym (row_at_lem r refl) ∙ row_at_lem (r % 16) (omega arith)

-- the four lowest bits of the remainder
low : Each (λ k. (r : ℕ) → r % 16 / 2 ^ k % 2 ≡ r / 2 ^ k % 2) 4
unfolding Each
low = ((((tt, λ r. omega arith), λ r. omega arith), λ r. omega arith), λ r. omega arith)

same_right : (k r : ℕ) → k < 4 → has k (r % 16) ≡ has k r
same_right k r h = ap (λ (x : ℕ). eqb x 1) (each_at _ 4 k low h r)

row_said : (r : ℕ) → worth_of r ≡ said r
unfolding FourLowestBits
row_said r =
    four_lowest_bits r ∙ each_at Says 16 (r % 16) row_by_row (omega arith)
    ∙ rw (said, same_right 0 r (omega arith), same_right 1 r (omega arith), same_right 2 r (omega arith), same_right 3 r (omega arith)) refl

pub rows_are_the_sentences : RowsAreTheSentences
unfolding RowsAreTheSentences
rows_are_the_sentences r = record {
  weakened = ap (λ (w : Worth). w.0) (row_said r);
  reads = ap (λ (w : Worth). w.1) (row_said r);
  writes = ap (λ (w : Worth). w.2) (row_said r);
  sends = ap (λ (w : Worth). w.3) (row_said r);
}

pub needs_are_the_sentences : NeedsAreTheSentences
unfolding RowsAreTheSentences need_met
needs_are_the_sentences = record {
  read_or_weak = λ r. (rows_are_the_sentences r).reads;
  write = λ r. (rows_are_the_sentences r).writes;
  send = λ r. (rows_are_the_sentences r).sends;
}

-- what is left of a capability, by the rights that are left
abbrev left : ℕ → ℕ → Capability
left target rights = elim (eqb rights 0) [ true ↦ empty_slot | false ↦ record { target = target; rights = rights } ]

pub weakening_is_the_sentence : WeakeningIsTheSentence
unfolding RowsAreTheSentences WeakeningIsTheSentence weaken
weakening_is_the_sentence c = ap (left c.target) (rows_are_the_sentences c.rights).weakened
    ∙ by_cases (has_rd c.rights || has_wk c.rights) (λ q. rw q refl) (λ q. rw q refl)
