-- The four ways out of the call: what the checks found, as the answer of the definition; and that it goes by the test's answer where the
-- test is refused. Assumes nothing.
use mathlib.Core.Path.{◌≡◌, refl, sym, ◌∙◌, ap}
use mathlib.Core.Bool.{Bool, true, false, not, false≢true}
use mathlib.Core.List.{List}
use Prim.Native.Nat.{ℕ, ◌<◌}
use native.Mathlib.Omega.{arith}
use lib.ListN.{length}
use borrow.Author.Tests.{eqb-true, not-true, not-false}
use Rattle.mask.specs.Sets.{has}
use Rattle.mask.proofs.Tests.{by_cases, clash}
use Rattle.table.specs.declared.Capability.{Capability}
use Rattle.table.specs.declared.Table.{Table}
use Rattle.table.proofs.Cells.{Sized}
use Rattle.table.proofs.SoundFacts.{Sound, sound_facts}
use Rattle.relation.specs.Relation.{takes_part}
use Rattle.access.specs.Answers.{born_outside}
use Rattle.access.proofs.TableWords.{outside_facts, outside_intro}
use Rattle.bounds.specs.StandIn.{stand_in, bound_of}
use Rattle.std.specs.Prelude.{Result, Ok, Err, IsErrAnd}
use Rattle.bounds.specs.declared.Grown.{Grown}
use Rattle.confinement.specs.declared.TestRefusal.{TestRefusal}
use Rattle.confinement.specs.Refusals.{Accepted, verdict_number, verdict_of}
use Rattle.confinement.specs.Tests.{is_accepted, test_of, verdict_in, bound_in}
use Rattle.confinement.proofs.TestFacts.{accepted_facts}
use Rattle.confinement.proofs.Verdicts.{test_verdict, test_bound}
use Rattle.walks.specs.declared.Walked.{Walked}
use Rattle.walks.specs.Chains.{least_chain, walked}
use Rattle.confinement.specs.Links.{object_link}
use Rattle.chains.specs.declared.ChainRefusal.{ChainRefusal}
use Rattle.chains.specs.declared.ChainRefusal.TheVariants.{TestRefused, ObjectInvalid, OutsideBound}
use Rattle.chains.specs.Answers.{ChainReply, Done, bad_object, object_reply, chain_reply, shown, chain_of}
use Rattle.chains.proofs.Answered.{fit_object, member_bad, unfit_object, reply_by}

-- the ways out ----------------------------------------------------------------------------------
module _ (t : Table) (members : ℕ) (list : List Capability) (z : ℕ) where
  by_reply : (r : ChainReply) → chain_reply t members list z ≡ r → shown r (walked (least_chain (object_link t members list) (stand_in members) z)) ≡ chain_of t members list z
  unfolding chain_of
  by_reply r e = ap (λ (x : ChainReply). shown x (walked (least_chain (object_link t members list) (stand_in members) z))) (sym e)

  -- a test that is refused
  pub out_test : (why : TestRefusal) → Err why ≡ test_of t members list → Err (TestRefused why) ≡ chain_of t members list z
  out_test why s = by_reply (Err (TestRefused why)) (reply_by t members list z (Err why) (sym (test_verdict t members list) ∙ ap verdict_in (sym s)))

  -- what the `?` hands on of it
  pub refused_test : (why : TestRefusal) → Err why ≡ test_of t members list → (r : Result Walked ChainRefusal) → IsErrAnd r (λ e. e ≡ TestRefused why) → r ≡ chain_of t members list z
  refused_test why s (Ok w) p = absurd p
  refused_test why s (Err e) p = ap {B = Result Walked ChainRefusal} (λ (x : ChainRefusal). Err x) p ∙ out_test why s

  -- and one that is accepted
  module _ (found : Grown) (s : Ok found ≡ test_of t members list) where
    verdict : verdict_of t members list ≡ Accepted
    verdict = sym (test_verdict t members list) ∙ ap verdict_in (sym s)

    pub verdict_accepted : is_accepted (verdict_of t members list) ≡ true
    verdict_accepted = ap is_accepted verdict

    object_reply_lem : (r : ChainReply) → object_reply t members list z ≡ r → chain_reply t members list z ≡ r
    object_reply_lem r e = reply_by t members list z Accepted verdict ∙ e

    module _ (sized : Sized t) (outside : ℕ) (o : outside ≡ born_outside t.records members) (h : Bool) (eh : h ≡ has z outside) where
      d : Sound t
      d = sound_facts t sized (accepted_facts t members list (ap verdict_number verdict)).fine

      outside_is : has z outside ≡ not (bad_object t members z)
      outside_is = ap (has z) o ∙ by_cases (has z (born_outside t.records members))
          (λ e. let p = outside_facts t members z e in e ∙ ap not (sym (fit_object t members z p.0 p.1)))
          (λ e. e ∙ by_cases (takes_part t z)
          (λ p. by_cases (has z members) (λ m. ap not (sym (member_bad t members z m))) (λ m. clash (outside_intro t members z p m) e))
          (λ p. ap not (sym (unfit_object t members z d p))))

      fit : (b : Bool) → h ≡ b → not (bad_object t members z) ≡ b
      fit b e = sym outside_is ∙ sym eh ∙ e

      pub out_18 : h ≡ false → Err ObjectInvalid ≡ chain_of t members list z
      unfolding object_reply
      out_18 e = by_reply (Err ObjectInvalid) (object_reply_lem (Err ObjectInvalid) (rw (not-false (bad_object t members z) (fit false e), object_reply) refl))

      module _ (e18 : h ≡ true) (b : Bool) (eb : b ≡ has z found.bound) where
        fits : bad_object t members z ≡ false
        fits = not-true (bad_object t members z) (fit true e18)

        pub inside : (c : Bool) → b ≡ c → has z (bound_of t members list) ≡ c
        inside c e = ap (has z) (sym (ap bound_in s ∙ test_bound t members list verdict_accepted)) ∙ sym eb ∙ e

        pub out_19 : b ≡ false → Err OutsideBound ≡ chain_of t members list z
        unfolding object_reply
        out_19 e = by_reply (Err OutsideBound) (object_reply_lem (Err OutsideBound) (rw (fits, inside false e, object_reply) refl))

        pub out_0 : b ≡ true → (w : Walked) (cs : List ℕ) → w ≡ walked cs → cs ≡ least_chain (object_link t members list) (stand_in members) z → Ok w ≡ chain_of t members list z
        unfolding object_reply
        out_0 e w cs f g = ap {B = Result Walked ChainRefusal} (λ (x : Walked). Ok x) (f ∙ ap (λ (l : List ℕ). walked l) g)
            ∙ by_reply Done (object_reply_lem Done (rw (fits, inside true e, object_reply) refl))

-- a test that is refused alike for two lists --------------------------------------------------------
pub long_refused : (t : Table) (members : ℕ) (list : List Capability) → 8 < length list → is_accepted (verdict_in (test_of t members list)) ≡ false
long_refused t members list h = by_cases (is_accepted (verdict_in (test_of t members list)))
    (λ e. let v = ap is_accepted (sym (test_verdict t members list)) ∙ e in
    absurd (omega (arith, h, (accepted_facts t members list (eqb-true (verdict_number (verdict_of t members list)) 0 v)).short)))
    (λ e. e)

pub chain_refused : (t : Table) (members : ℕ) (a b : List Capability) (z : ℕ) → test_of t members a ≡ test_of t members b → is_accepted (verdict_in (test_of t members a)) ≡ false
    → chain_of t members a z ≡ chain_of t members b z
chain_refused t members a b z e f = refused_alike (test_of t members a) refl f
  where
    refused_alike : (r : Result Grown TestRefusal) → r ≡ test_of t members a → is_accepted (verdict_in r) ≡ false → chain_of t members a z ≡ chain_of t members b z
    refused_alike (Ok found) p q = absurd (false≢true (sym q))
    refused_alike (Err why) p q = sym (out_test t members a z why p) ∙ out_test t members b z why (p ∙ e)
