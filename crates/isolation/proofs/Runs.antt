-- The induction over both lists: a run agrees with the run of the clean requests that it keeps, since a request of another actor
-- can be left out (Others) and a clean one goes alike in both (CleanStep). Two runs that keep the same clean requests are
-- therefore alike. Assumes nothing.
use mathlib.Core.Path.{◌≡◌, refl, sym, ◌∙◌, ap, subst}
use mathlib.Core.List.{List, [], ◌∷◌}
use Rattle.mask.proofs.Tests.{by_cases}
use Rattle.table.specs.declared.Table.{Table}
use Rattle.requests.specs.Asks.{Ask, actor_of}
use Rattle.refusals.specs.Refusals.{refusal}
use Rattle.steps.specs.Steps.{after, run_table}
use Rattle.isolation.specs.Clean.{Clean, clean_after, clean_at_end, clean_requests, clean_replies, compared_after, compared_at_end}
use Rattle.isolation.specs.Demand.{AgreeOn, MakersAgree}
use Rattle.isolation.proofs.Invariant.{Isolated, agree_refl, agree_sym, agree_trans}
use Rattle.isolation.proofs.Others.{other_step}
use Rattle.isolation.proofs.CleanStep.{clean_step, clean_outside}
use Rattle.isolation.proofs.Makers.{Known, Traced, other_traced, compared_outside, compared_same, clean_traced}

-- what two runs share that start with the same clean objects
pub record Shared (t u : Table) (C : Clean) (ps qs : List Ask) : Type 0 where
  pub clean : clean_at_end t C ps ≡ clean_at_end u C qs
  pub cells : AgreeOn (clean_at_end t C ps) (run_table t ps) (run_table u qs)
  pub replies : clean_replies t C ps ≡ clean_replies u C qs
  pub compared : (B : Clean) → compared_at_end t C B ps ≡ compared_at_end u C B qs
  pub makers : (B : Clean) → Traced C B t u → MakersAgree (clean_at_end t C ps) (compared_at_end t C B ps) (run_table t ps) (run_table u qs)

-- a run and the run of what it keeps
pub shadow : (qs : List Ask) (t u : Table) (C : Clean) → Isolated t C → Isolated u C → AgreeOn C t u → Shared t u C qs (clean_requests t C qs)
unfolding clean_at_end run_table clean_replies clean_requests compared_at_end MakersAgree
shadow [] t u C v w a = record { clean = refl; cells = a; replies = refl; compared = λ B. refl; makers = λ B m. m.same }
shadow (q ∷ qs) t u C v w a = by_cases (C (actor_of q))
    (λ h.
    let b = clean_step t u C q v w a h in
    let x = shadow qs (after t q) (after u q) (clean_after t C q) b.left b.right b.cells in
    rw (h, clean_requests) (record {
      clean = rw (← b.clean) x.clean;
      cells = x.cells;
      replies = rw (h, clean_replies) (rw (← b.same, ← b.clean) (ap (λ l. refusal t q ∷ l) x.replies));
      compared = λ B. rw (← b.clean, ← compared_same t u C B q b.same) (x.compared (compared_after t C B q));
      makers = λ B m. x.makers (compared_after t C B q) (clean_traced t u C B v w a m q h b.same);
    }))
    (λ h.
    let d = other_step t C q v h in
    let n = clean_outside t C q v h in
    let x = shadow qs (after t q) u C d.0 w (agree_trans (agree_sym d.1) a) in
    rw (h, clean_requests) (rw n (record {
      clean = rw n x.clean;
      cells = rw n x.cells;
      replies = rw (h, clean_replies) (rw n x.replies);
      compared = λ B. rw (n, compared_outside t C B q h) (x.compared B);
      makers = λ B m. rw (n, compared_outside t C B q h) (x.makers B (other_traced t u C B q v h m));
    })))

pub runs_alike : (t u : Table) (C : Clean) (ps qs : List Ask) → Isolated t C → Isolated u C → AgreeOn C t u
    → clean_requests t C ps ≡ clean_requests u C qs → Shared t u C ps qs
unfolding MakersAgree
runs_alike t u C ps qs v w a e =
    let x = shadow ps t t C v v (agree_refl C t) in
    let y = rw (← e) at (shadow qs u t C w v (agree_sym a)) in
    let c = x.clean ∙ sym y.clean in
    record {
      clean = c;
      cells = agree_trans x.cells (rw c (agree_sym y.cells));
      replies = x.replies ∙ sym y.replies;
      compared = λ B. x.compared B ∙ sym (y.compared B);
      makers = λ B m n h b.
          let known = m.known in
          let back : Traced C B u t = record { same = λ k p q. sym (m.same k p q); known = λ k p q. subst (Known C) (m.same k p q) (known k p q) } in
          x.makers B (record { same = λ k p q. refl; known = known }) n h b
          ∙ sym (y.makers B back n (sym (ap (λ (E : Clean). E n) c) ∙ h) (sym (ap (λ (E : Clean). E n) (x.compared B ∙ sym (y.compared B))) ∙ b));
    }

-- the invariant holds at the end of every run, with the objects that are clean then
pub run_isolated : (qs : List Ask) (t : Table) (C : Clean) → Isolated t C → Isolated (run_table t qs) (clean_at_end t C qs)
unfolding clean_at_end run_table
run_isolated [] t C v = v
run_isolated (q ∷ qs) t C v = by_cases (C (actor_of q))
    (λ h. run_isolated qs (after t q) _ (clean_step t t C q v v (agree_refl C t) h).left)
    (λ h. run_isolated qs (after t q) _ (rw (clean_outside t C q v h) (other_step t C q v h).0))
