-- Demand 3 for the calls that the firmware links, `either_form`: two runs whose steps are taken now by value, now on the lent table, from
-- tables that were lent, read from images or brought in. A run of the calls ends with the table of the definition's run and gave the numbers of its
-- replies, so the two-run theorem covers it: the clean objects, their records and slots in the tables that are there at the end, and the
-- numbers that came back. That each is a table comes from owning it, from the image's bytes, or from what an import makes. Assumes nothing.
use mathlib.Core.Path.{◌≡◌, refl, sym, ◌∙◌, ap, ap₂}
use mathlib.Core.List.{List, [], ◌∷◌}
use Prim.Native.Nat.{ℕ}
use borrow.Author.Tests.{eq-eqb}
use Rattle.mask.proofs.Tests.{by_cases}
use Rattle.table.specs.declared.Table.{Table}
use Rattle.table.specs.Cells.{IsTable}
use Rattle.table.proofs.Value.{value_is_table}
use Rattle.requests.specs.Asks.{Ask, actor_of}
use Rattle.refusals.specs.Replies.{Reply, number}
use Rattle.refusals.specs.Refusals.{refusal}
use Rattle.steps.specs.Steps.{after, step_of, run_table, run_replies}
use Rattle.confinement.specs.Refusals.{verdict_of, verdict_number}
use Rattle.confinement.proofs.Verdicts.{test_verdict, test_bound, test_rounds}
use Rattle.image.specs.Images.{read_of}
use Rattle.image.proofs.Typed.{read_is_table}
use Rattle.take_grant.specs.Imports.{import_of}
use Rattle.take_grant.proofs.Claims.{import_is_table}
use Rattle.captable.proofs.Tables.{table_read, table_imported}
use Rattle.entries.specs.Entries.{entries_in}
use Rattle.isolation.specs.Clean.{Clean, clean_at_start, clean_after, clean_replies}
use Rattle.isolation.specs.Demand.{BothAccepted, TwoRuns}
use Rattle.isolation.proofs.TwoRuns.{two_runs}
use Rattle.captable.specs.declared.Outcome.{Outcome}
use Rattle.runs.specs.Runs.{Had, owned, read, imported, Taken, none, by_value, lent, asks_of, clean_numbers, BothTested, TwoRunsTaken}

-- a table that the firmware has is one --------------------------------------------------
pub had_table : {t : Table} → Had t → IsTable t
had_table {t} (owned vs is) = value_is_table t vs is
had_table (read image b e) = rw (e, ← table_read (read_of image)) (read_is_table image b)
had_table (imported bytes e) = rw (e, ← table_imported (import_of bytes)) (import_is_table bytes)

-- a run of the calls is the definition's run ----------------------------------------------
unfoldable numbers_of : List Reply → List ℕ
numbers_of [] = []
numbers_of (r ∷ rs) = number r ∷ numbers_of rs

taken_run : {t u : Table} {bss : List (List ℕ)} {ns : List ℕ} → Taken t bss u ns → (u ≡ run_table t (asks_of bss)) × (ns ≡ numbers_of (run_replies t (asks_of bss)))
unfolding asks_of run_table run_replies numbers_of step_of
taken_run none = (refl, refl)
taken_run (by_value {bss = bss} o e k) =
    let p = taken_run k in (
      p.0 ∙ ap (λ (x : Outcome). run_table x.table (asks_of bss)) e,
      ap₂ (λ (x : Outcome) (l : List ℕ). x.number ∷ l) e (p.1 ∙ ap (λ (x : Outcome). numbers_of (run_replies x.table (asks_of bss))) e),
    )
taken_run (lent {bss = bss} e f k) =
    let p = taken_run k in (
      p.0 ∙ ap (λ (x : Table). run_table x (asks_of bss)) f,
      ap₂ (λ (x : ℕ) (l : List ℕ). x ∷ l) e (p.1 ∙ ap (λ (x : Table). numbers_of (run_replies x (asks_of bss))) f),
    )

-- the numbers to clean requests are those of the clean replies
clean_numbers_lem : (t : Table) (C : Clean) (qs : List Ask) → clean_numbers t C qs (numbers_of (run_replies t qs)) ≡ numbers_of (clean_replies t C qs)
unfolding clean_numbers numbers_of run_replies clean_replies
clean_numbers_lem t C [] = refl
clean_numbers_lem t C (q ∷ qs) = by_cases (C (actor_of q))
    (λ e. rw (e, clean_numbers, clean_replies) (ap (λ (l : List ℕ). number (refusal t q) ∷ l) (clean_numbers_lem (after t q) (clean_after t C q) qs)))
    (λ e. rw (e, clean_numbers, clean_replies) (clean_numbers_lem (after t q) (clean_after t C q) qs))

-- the theorem ---------------------------------------------------------------------------------
module _ (t u : Table) (members : ℕ) (list : List ℕ) (b : BothTested t u members list) where
  accepted : BothAccepted t u members (entries_in list)
  accepted = record {
    left = had_table b.left;
    right = had_table b.right;
    accepted_left = sym (ap verdict_number (test_verdict t members (entries_in list))) ∙ b.accepted_left;
    accepted_right = sym (ap verdict_number (test_verdict u members (entries_in list))) ∙ b.accepted_right;
    agree = b.agree;
  }

pub either_form : TwoRunsTaken
unfolding TwoRunsTaken TwoRuns
either_form t u members list b =
    let a = accepted t u members list b in
    let s = two_runs t u members (entries_in list) a in
    let left = eq-eqb (verdict_number (verdict_of t members (entries_in list))) 0 a.accepted_left in
    let right = eq-eqb (verdict_number (verdict_of u members (entries_in list))) 0 a.accepted_right in
    record {
      bound = test_bound t members (entries_in list) left ∙ s.bound ∙ sym (test_bound u members (entries_in list) right);
      rounds = test_rounds t members (entries_in list) left ∙ s.rounds ∙ sym (test_rounds u members (entries_in list) right);
      runs = λ ps qs v w ms ns k l e.
          let x = s.runs (asks_of ps) (asks_of qs) e in
          let p = taken_run k in
          let q = taken_run l in
          record {
            clean = x.clean;
            cells = rw (p.0, q.0) x.cells;
            makers = rw (p.0, q.0) x.makers;
            numbers =
                ap (clean_numbers t (clean_at_start t members (entries_in list)) (asks_of ps)) p.1 ∙ clean_numbers_lem t _ (asks_of ps)
                ∙ ap numbers_of x.replies
                ∙ sym (ap (clean_numbers u (clean_at_start u members (entries_in list)) (asks_of qs)) q.1 ∙ clean_numbers_lem u _ (asks_of qs));
          };
    }
