-- Demand 3, proved: two runs from tables that agree outside an accepted set of members, whose requests from clean objects are
-- equal field for field and in order, end with the same clean objects, with equal records and slots of them, and gave the same
-- replies to their requests; of the makers those bytes are equal that are compared. What a reader asks next stands below it, of one run from an accepted test:
-- (a) with every other request left out, the clean records and the replies to clean requests are the same;
-- (b) a clean object never comes to hold a capability over an object that is not clean;
-- (c) no object that is not clean ever holds more than wk over a clean one.
-- Assumes nothing.
use mathlib.Core.Path.{◌≡◌, refl, sym, ◌∙◌, ap, ap₂, subst, fun_ext}
use mathlib.Core.Bool.{Bool, true, false, not, ◌&&◌}
use mathlib.Core.List.{List}
use Prim.Native.Nat.{ℕ, ◌≤◌, ◌<◌}
use lib.Dec.{ltb}
use borrow.Author.Tests.{ltb-true, not-true}
use Rattle.mask.specs.Sets.{has}
use Rattle.mask.proofs.Tests.{by_cases, and_true}
use Rattle.table.specs.declared.Capability.{Capability}
use Rattle.table.specs.declared.Record.{Record}
use Rattle.table.specs.declared.Table.{Table}
use Rattle.table.specs.Cells.{IsTable, slot_at, born_at}
use Rattle.table.proofs.Cells.{table_sized}
use Rattle.table.proofs.SoundFacts.{sound_facts}
use Rattle.relation.specs.Relation.{takes_part}
use Rattle.bounds.specs.StandIn.{bound_of}
use Rattle.confinement.specs.Refusals.{verdict_of, verdict_number}
use Rattle.bounds.specs.Agreement.{AgreeOutside}
use Rattle.bounds.proofs.Exact.{bound_same}
use Rattle.confinement.specs.Exactness.{RoundsBlind}
use Rattle.confinement.proofs.Rounds.{rounds_blind}
use Rattle.confinement.proofs.TestFacts.{accepted_facts}
use Rattle.requests.specs.Asks.{Ask}
use Rattle.steps.specs.Steps.{run_table}
use Rattle.relation.proofs.Tables.{part_same}
use Rattle.isolation.specs.Clean.{Clean, clean_at_start, clean_at_end, clean_requests, clean_replies, compared_at_start}
use Rattle.isolation.specs.Demand.{AgreeOn, Alike, TwoRuns}
use Rattle.isolation.proofs.Invariant.{wk_alone, Isolated, fields_same, agree_refl}
use Rattle.isolation.proofs.Makers.{Traced, start_known}
use Rattle.isolation.proofs.Runs.{Shared, shadow, runs_alike, run_isolated}
use Rattle.isolation.proofs.Start.{start_isolated}

-- an accepted test gives the invariant
accepted_isolated : (t : Table) (members : ℕ) (list : List Capability) → IsTable t → verdict_number (verdict_of t members list) ≡ 0 → Isolated t (clean_at_start t members list)
accepted_isolated t members list z e =
    let k = accepted_facts t members list e in
    start_isolated t members list (sound_facts t (table_sized t z) k.fine) k

-- who is clean is a non-member of the table
clean_out : (t : Table) (members : ℕ) (list : List Capability) (n : ℕ) → clean_at_start t members list n ≡ true → (n < 64) × (has n members ≡ false)
unfolding clean_at_start takes_part
clean_out t members list n e =
    let p = and_true (takes_part t n && not (has n members)) (not (has n (bound_of t members list))) e in
    let q = and_true (takes_part t n) (not (has n members)) p.0 in
    (ltb-true n 64 (and_true (ltb n 64) (born_at t n) q.0).0, not-true _ q.1)

module _ (t u : Table) (members : ℕ) (list : List Capability) (agree : AgreeOutside members t u) where
  clean_same_at : (n : ℕ) → clean_at_start t members list n ≡ clean_at_start u members list n
  unfolding clean_at_start
  clean_same_at n = by_cases (has n members)
      (λ m. cc (out (takes_part t n), out (takes_part u n), m, bound_same members t u agree list))
      (λ m. ap₂ (λ (x : Bool) (b : ℕ). x && not (has n members) && not (has n b)) (part_same t u n (λ l. agree.records n l m)) (bound_same members t u agree list))
    where
      out : (x : Bool) → (x && false) ≡ false
      out true = refl
      out false = refl

  clean_same : clean_at_start t members list ≡ clean_at_start u members list
  clean_same = fun_ext clean_same_at

  agree_start : AgreeOn (clean_at_start t members list) t u
  agree_start = record {
    records = λ n h. let o = clean_out t members list n h in fields_same (agree.records n o.0 o.1);
    slots = λ n j hj h. let o = clean_out t members list n h in agree.slots n j o.0 hj o.1;
  }

  -- makers too: they are a field of the record
  traced_start : Traced (clean_at_start t members list) (compared_at_start t (clean_at_start t members list)) t u
  traced_start = record {
    same = λ n h b. let o = clean_out t members list n h in ap (λ (r : Record). r.maker) (agree.records n o.0 o.1);
    known = λ n h b. start_known t (clean_at_start t members list) n b;
  }

shared_alike : (t u : Table) (C D : Clean) (ps qs : List Ask) → C ≡ D → Traced C (compared_at_start t C) t u → Shared t u C ps qs → Alike t u C D ps qs
shared_alike t u C D ps qs e m s = record {
  clean = λ n. ap (λ (E : Clean). E n) (s.clean ∙ ap (λ (E : Clean). clean_at_end u E qs) e);
  cells = s.cells;
  makers = s.makers (compared_at_start t C) m;
  replies = s.replies ∙ ap (λ (E : Clean). clean_replies u E qs) e;
}

pub two_runs : TwoRuns
unfolding TwoRuns RoundsBlind
two_runs t u members list b =
    let C = clean_at_start t members list in
    let same = clean_same t u members list b.agree in
    record {
      bound = bound_same members t u b.agree list;
      rounds = rounds_blind members t u b.agree list;
      runs = λ ps qs e. shared_alike t u C (clean_at_start u members list) ps qs same (traced_start t u members list b.agree)
          (runs_alike t u C ps qs
          (accepted_isolated t members list b.left b.accepted_left)
          (subst (λ (E : Clean). Isolated u E) (sym same) (accepted_isolated u members list b.right b.accepted_right))
          (agree_start t u members list b.agree)
          (e ∙ ap (λ (E : Clean). clean_requests u E qs) (sym same)));
    }

module _ (t : Table) (members : ℕ) (list : List Capability) (value : IsTable t) (accepted : verdict_number (verdict_of t members list) ≡ 0) (qs : List Ask) where
  -- (a)
  pub others_left_out : Alike t t (clean_at_start t members list) (clean_at_start t members list) qs (clean_requests t (clean_at_start t members list) qs)
  others_left_out =
      let v = accepted_isolated t members list value accepted in
      shared_alike t t _ _ qs _ refl (record { same = λ n h b. refl; known = λ n h b. start_known t _ n b }) (shadow qs t t _ v v (agree_refl _ t))

  at_end_lem : Isolated (run_table t qs) (clean_at_end t (clean_at_start t members list) qs)
  at_end_lem = run_isolated qs t _ (accepted_isolated t members list value accepted)

  -- (b)
  pub clean_holds_clean : (n j : ℕ) → j < 8 → clean_at_end t (clean_at_start t members list) qs n ≡ true → 1 ≤ (slot_at (run_table t qs) n j).rights
      → clean_at_end t (clean_at_start t members list) qs (slot_at (run_table t qs) n j).target ≡ true
  clean_holds_clean = at_end_lem.inside

  -- (c)
  pub others_hold_weak : (n j : ℕ) → j < 8 → clean_at_end t (clean_at_start t members list) qs n ≡ false → 1 ≤ (slot_at (run_table t qs) n j).rights
      → clean_at_end t (clean_at_start t members list) qs (slot_at (run_table t qs) n j).target ≡ true → (slot_at (run_table t qs) n j).rights ≡ wk_alone
  others_hold_weak = at_end_lem.outside
