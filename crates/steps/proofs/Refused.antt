-- A refused step gives back the very table, a done one the effect, and a step is its outcome put together with the table that was
-- there: by the two cases of the step's own test. Assumes nothing.
use mathlib.Core.Path.{◌≡◌, refl, sym, ◌∙◌, ap, ap₂}
use mathlib.Core.Bool.{true, false}
use Rattle.table.specs.declared.Table.{Table}
use Rattle.std.specs.Prelude.{Ok, Err}
use Rattle.refusals.specs.declared.Refusal.{Refusal}
use Rattle.refusals.specs.Replies.{Reply, Done, is_done}
use Rattle.steps.specs.declared.Stepped.{Stepped}
use Rattle.requests.specs.Asks.{Ask}
use Rattle.refusals.specs.Refusals.{refusal}
use Rattle.effects.specs.Effects.{effect}
use Rattle.steps.specs.Steps.{after, step_of}
use Rattle.steps.specs.Outcomes.{outcome_of, put_together}

-- a refused request leaves the table as it was
pub refused_keeps : (t : Table) (q : Ask) → is_done (refusal t q) ≡ false → after t q ≡ t
unfolding after
refused_keeps t q e = rw (e, after) refl

-- a request that is done has its effect
pub done_effects : (t : Table) (q : Ask) → is_done (refusal t q) ≡ true → after t q ≡ effect t q
unfolding after
done_effects t q e = rw (e, after) refl

-- the same of what a step gives, by its reply
pub step_refused : (t : Table) (q : Ask) (why : Reply) → refusal t q ≡ why → is_done why ≡ false
    → ◌≡◌ {A = Stepped} (record { reply = why; table = t }) (step_of t q)
unfolding step_of
step_refused t q why e f = ap₂ {C = Stepped} (λ (r : Reply) (u : Table). record { reply = r; table = u }) (sym e) (sym (refused_keeps t q (rw e f)))

pub step_done : (t : Table) (q : Ask) (why : Reply) (u : Table) → refusal t q ≡ why → is_done why ≡ true → u ≡ effect t q
    → ◌≡◌ {A = Stepped} (record { reply = why; table = u }) (step_of t q)
unfolding step_of
step_done t q why u e f g = ap₂ {C = Stepped} (λ (r : Reply) (v : Table). record { reply = r; table = v }) (sym e) (g ∙ sym (done_effects t q (rw e f)))

-- the same of an outcome
pub outcome_refused : (t : Table) (q : Ask) (why : Refusal) → refusal t q ≡ Err why → Err why ≡ outcome_of t q
unfolding outcome_of
outcome_refused t q why e = rw (e, outcome_of) refl

pub outcome_done : (t : Table) (q : Ask) (u : Table) → refusal t q ≡ Done → u ≡ effect t q → Ok u ≡ outcome_of t q
unfolding outcome_of
outcome_done t q u e f = rw (e, outcome_of) (ap Ok f)

-- a step is its outcome, put together with the table that was there
together_by : (t u : Table) (r : Reply)
    → put_together t (elim r [ Ok x ↦ Ok u | Err why ↦ Err why ]) ≡ record { reply = r; table = elim (is_done r) [ true ↦ u | false ↦ t ] }
together_by t u (Ok x) = refl
together_by t u (Err why) = refl

pub outcome_step : (t : Table) (q : Ask) → put_together t (outcome_of t q) ≡ step_of t q
unfolding outcome_of step_of after
outcome_step t q = together_by t (effect t q) (refusal t q)
