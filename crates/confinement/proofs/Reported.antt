-- What 2.6 claims of the number that the test reports, statement by statement of specs/Exactness.antt, by the laws of Rounds. Assumes nothing.
use mathlib.Core.Path.{◌≡◌, sym, ◌∙◌, ap, subst⁻¹}
use mathlib.Core.Logic.{◌≢◌, ◌↔◌}
use mathlib.Core.Bool.{true, false}
use mathlib.Core.List.{List}
use Prim.Native.Nat.{ℕ, suc, ◌<◌}
use native.Mathlib.Omega.{arith}
use borrow.Author.Tests.{eqb-true, eq-eqb, ne_eqb}
use Rattle.mask.proofs.Tests.{by_cases}
use Rattle.table.specs.declared.Capability.{Capability}
use Rattle.table.specs.declared.Table.{Table}
use Rattle.table.specs.Cells.{IsTable}
use Rattle.table.proofs.Cells.{table_sized}
use Rattle.table.proofs.SoundFacts.{Sound, sound_facts}
use Rattle.confinement.specs.Refusals.{verdict_number, verdict_of}
use Rattle.confinement.specs.Rounds.{objects_after, rounds_of}
use Rattle.confinement.specs.Tests.{is_accepted, test_of, rounds_in}
use Rattle.confinement.specs.Exactness.{Accepts, RoundsCounted, LastIsBound, ZeroForEmpty, NoneOnRefusal, AtMost63}
use Rattle.confinement.proofs.TestFacts.{Facts, accepted_facts}
use Rattle.confinement.proofs.Rounds.{counted, last_bound, zero_empty, empty_zero, at_most}
use Rattle.confinement.proofs.Verdicts.{test_bound, test_rounds, test_none}

module _ (t : Table) (members : ℕ) (list : List Capability) (a : Accepts t members list) where
  abbrev yes : is_accepted (verdict_of t members list) ≡ true
  yes = eq-eqb (verdict_number (verdict_of t members list)) 0 a.accepted

  abbrev pub ok : Facts t members list
  ok = accepted_facts t members list a.accepted

  abbrev pub d : Sound t
  d = sound_facts t (table_sized t a.table) ok.fine

  abbrev same : rounds_in (test_of t members list) ≡ rounds_of t members list
  same = test_rounds t members list yes

pub rounds_counted : RoundsCounted
unfolding RoundsCounted
rounds_counted t members list a k = subst⁻¹ (λ (r : ℕ). (k < r) ↔ (objects_after t members list (suc k) ≢ objects_after t members list k)) (same t members list a)
    (counted t members list (d t members list a) (ok t members list a) k)

pub last_is_bound : LastIsBound
unfolding LastIsBound
last_is_bound t members list a = ap (objects_after t members list) (same t members list a) ∙ last_bound t members list (d t members list a) (ok t members list a)
    ∙ sym (test_bound t members list (yes t members list a))

-- accepted or not
pub by_verdict : {P : Type 0} (t : Table) → IsTable t → (members : ℕ) (list : List Capability) → (Accepts t members list → P)
    → (is_accepted (verdict_of t members list) ≡ false → P) → P
by_verdict t v members list f g = by_cases (is_accepted (verdict_of t members list))
    (λ e. f (record { table = v; accepted = eqb-true (verdict_number (verdict_of t members list)) 0 e }))
    g

pub zero_for_empty : ZeroForEmpty
unfolding ZeroForEmpty
zero_for_empty t v members list = by_verdict t v members list
    (λ a. let b = test_bound t members list (yes t members list a) in
    let r = same t members list a in
    let s = d t members list a in
    let o = ok t members list a in
    (λ e. b ∙ zero_empty t members list s o (sym r ∙ e), λ e. r ∙ empty_zero t members list s o (sym b ∙ e)))
    (λ q. let p = test_none t members list q in (λ e. p.1, λ e. p.0))

pub none_on_refusal : NoneOnRefusal
unfolding NoneOnRefusal
none_on_refusal t members list k e = test_none t members list (ne_eqb (verdict_number (verdict_of t members list)) 0 (λ z. absurd (omega (arith, e, z))))

pub at_most_63 : AtMost63
unfolding AtMost63
at_most_63 t v members list = by_verdict t v members list
    (λ a. rw (same t members list a) (at_most t members list (d t members list a) (ok t members list a)))
    (λ q. omega (arith, (test_none t members list q).0))
