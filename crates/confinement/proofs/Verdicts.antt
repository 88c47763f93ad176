-- The six ways out of the test: what the checks found, as the verdict of the definition; which verdict is accepted; and that a sound table never gets 1. Assumes nothing.
use mathlib.Core.Path.{◌≡◌, refl, sym, ◌∙◌, ap}
use mathlib.Core.Bool.{Bool, true, false, false≢true}
use mathlib.Core.List.{List}
use mathlib.Core.Logic.{◌≢◌}
use Prim.Native.Nat.{ℕ, ◌<◌}
use native.Mathlib.Omega.{arith}
use borrow.Author.Tests.{eqb-true}
use Rattle.table.specs.declared.Capability.{Capability}
use Rattle.table.specs.declared.Table.{Table}
use Rattle.table.specs.Soundness.{sound}
use Rattle.table.proofs.Cells.{Sized}
use Rattle.table.proofs.SoundFacts.{sound_facts}
use Rattle.access.specs.Answers.{born_outside}
use Rattle.std.specs.Prelude.{Result, Ok, Err}
use Rattle.std.specs.Result.{result_and}
use Rattle.confinement.specs.declared.TestRefusal.{TestRefusal}
use Rattle.confinement.specs.declared.TestRefusal.TheVariants.{TableUnsound, MembersInvalid, ListInvalid, RightUnlisted, MemberHeld}
use Rattle.bounds.specs.declared.Grown.{Grown}
use Rattle.bounds.specs.StandIn.{stand_in, bound_of}
use Rattle.bounds.specs.Helpers.{bound_grown}
use Rattle.confinement.specs.Rounds.{rounds_of}
use Rattle.confinement.specs.Refusals.{Verdict, Accepted, refusal_number, verdict_number, refuse, bad_members, bad_list, bad_held, member_held, verdict_of}
use Rattle.confinement.specs.Tests.{is_accepted, grown_of, test_of, verdict_in, bound_in, rounds_in}
use Rattle.confinement.specs.Helpers.{list_refused}
use Rattle.confinement.proofs.Scans.{list_same}
use Rattle.confinement.proofs.TestFacts.{members_facts, accepted_facts}
use Rattle.confinement.proofs.Rounds.{rounds_links}

-- no refusal has the number 0
pub refusal_not : (why : TestRefusal) → refusal_number why ≢ 0
refusal_not TableUnsound = λ e. omega (arith, e)
refusal_not MembersInvalid = λ e. omega (arith, e)
refusal_not ListInvalid = λ e. omega (arith, e)
refusal_not RightUnlisted = λ e. omega (arith, e)
refusal_not MemberHeld = λ e. omega (arith, e)

pub accepted_is : (v : Verdict) → is_accepted v ≡ true → v ≡ Accepted
accepted_is (Ok _) e = refl
accepted_is (Err why) e = absurd (refusal_not why (eqb-true (refusal_number why) 0 e))

-- accepted, or one of the refusals
pub verdict_split : {P : Type 0} (v : Verdict) → (v ≡ Accepted → P) → ((why : TestRefusal) → v ≡ Err why → P) → P
verdict_split (Ok _) f g = f refl
verdict_split (Err why) f g = g why refl

-- the parts of an answer, by its verdict
module _ (g : Grown) where
  abbrev answer : Verdict → Result Grown TestRefusal
  answer v = result_and v (Ok g)

  verdict_kept : (v : Verdict) → verdict_in (answer v) ≡ v
  verdict_kept (Ok _) = refl
  verdict_kept (Err why) = refl

  none_kept : (v : Verdict) → is_accepted v ≡ false → (rounds_in (answer v) ≡ 0) × (bound_in (answer v) ≡ 0)
  none_kept (Ok _) e = absurd (false≢true (sym e))
  none_kept (Err why) e = (refl, refl)

module _ (t : Table) (members : ℕ) (list : List Capability) where
  abbrev whole : Verdict → Result Grown TestRefusal
  whole v = result_and v (Ok (grown_of t members list))

  by_verdict : (why : TestRefusal) → verdict_of t members list ≡ Err why → Err why ≡ test_of t members list
  unfolding test_of
  by_verdict why e = sym (ap whole e)

  pub accepted : verdict_of t members list ≡ Accepted → Ok (grown_of t members list) ≡ test_of t members list
  unfolding test_of
  accepted e = sym (ap whole e)

  -- with what the code found
  accepted_found : Sized t → verdict_of t members list ≡ Accepted → (found : Grown) → found ≡ bound_grown t members list → Ok found ≡ test_of t members list
  unfolding bound_grown
  accepted_found z e found g =
      let ok = accepted_facts t members list (ap verdict_number e) in
      let d = sound_facts t z ok.fine in
      ap {B = Result Grown TestRefusal} Ok g
      ∙ ap {B = Result Grown TestRefusal} (λ (r : ℕ). Ok (record { bound = bound_of t members list; rounds = r })) (rounds_links t members list d ok)
      ∙ accepted e

  -- the answer, part by part
  pub test_verdict : verdict_in (test_of t members list) ≡ verdict_of t members list
  unfolding test_of
  test_verdict = verdict_kept (grown_of t members list) (verdict_of t members list)

  answer_is : is_accepted (verdict_of t members list) ≡ true → test_of t members list ≡ Ok (grown_of t members list)
  answer_is e = sym (accepted (accepted_is (verdict_of t members list) e))

  pub test_bound : is_accepted (verdict_of t members list) ≡ true → bound_in (test_of t members list) ≡ bound_of t members list
  test_bound e = ap bound_in (answer_is e)

  pub test_rounds : is_accepted (verdict_of t members list) ≡ true → rounds_in (test_of t members list) ≡ rounds_of t members list
  test_rounds e = ap rounds_in (answer_is e)

  pub test_none : is_accepted (verdict_of t members list) ≡ false → (rounds_in (test_of t members list) ≡ 0) × (bound_in (test_of t members list) ≡ 0)
  unfolding test_of
  test_none e = none_kept (grown_of t members list) (verdict_of t members list) e

  module _ (b1 : Bool) (s1 : b1 ≡ sound t) where
    pub test_1 : b1 ≡ false → Err TableUnsound ≡ test_of t members list
    unfolding verdict_of
    test_1 e = by_verdict TableUnsound (let f : sound t ≡ false = sym s1 ∙ e in rw f refl)

    module _ (e1 : b1 ≡ true) (b10 : Bool) (s10 : b10 ≡ bad_members t members) where
      f1 : sound t ≡ true
      f1 = sym s1 ∙ e1

      pub test_10 : b10 ≡ true → Err MembersInvalid ≡ test_of t members list
      unfolding verdict_of
      test_10 e = by_verdict MembersInvalid (let f : bad_members t members ≡ true = sym s10 ∙ e in rw (f1, f) refl)

      -- some member there is
      pub standing : b10 ≡ false → stand_in members < 64
      standing e = (members_facts t members list (sym s10 ∙ e)).0.0

      module _ (e10 : b10 ≡ false) (outside : ℕ) (o : outside ≡ born_outside t.records members) (b11 : Bool) (s11 : b11 ≡ list_refused outside list) where
        f10 : bad_members t members ≡ false
        f10 = sym s10 ∙ e10

        f11 : (x : Bool) → b11 ≡ x → bad_list t members list ≡ x
        f11 x e = sym (list_same t members list) ∙ ap (λ (m : ℕ). list_refused m list) (sym o) ∙ sym s11 ∙ e

        pub test_11 : b11 ≡ true → Err ListInvalid ≡ test_of t members list
        unfolding verdict_of
        test_11 e = by_verdict ListInvalid (rw (f1, f10, f11 true e) refl)

        module _ (e11 : b11 ≡ false) (b12 : Bool) (s12 : b12 ≡ bad_held t members list) where
          pub test_12 : b12 ≡ true → Err RightUnlisted ≡ test_of t members list
          unfolding verdict_of
          test_12 e = by_verdict RightUnlisted (let f : bad_held t members list ≡ true = sym s12 ∙ e in rw (f1, f10, f11 false e11, f) refl)

          module _ (e12 : b12 ≡ false) (b13 : Bool) (s13 : b13 ≡ member_held t members) where
            f12 : bad_held t members list ≡ false
            f12 = sym s12 ∙ e12

            pub test_13 : b13 ≡ true → Err MemberHeld ≡ test_of t members list
            unfolding verdict_of
            test_13 e = by_verdict MemberHeld (let f : member_held t members ≡ true = sym s13 ∙ e in rw (f1, f10, f11 false e11, f12, f) refl)

            pub test_0 : Sized t → b13 ≡ false → (found : Grown) → found ≡ bound_grown t members list
                → Ok found ≡ test_of t members list
            unfolding verdict_of
            test_0 z e = accepted_found z (let f : member_held t members ≡ false = sym s13 ∙ e in rw (f1, f10, f11 false e11, f12, f) refl)

-- a sound table is never answered 1
refuse_not : (cause : Bool) (why : TestRefusal) (rest : Verdict) → refusal_number why ≢ 1 → verdict_number rest ≢ 1 → verdict_number (refuse cause why rest) ≢ 1
refuse_not true why rest p q = p
refuse_not false why rest p q = q

module _ (t : Table) (e : sound t ≡ true) (members : ℕ) (list : List Capability) where
  pub verdict_never_one : verdict_number (verdict_of t members list) ≢ 1
  unfolding verdict_of
  verdict_never_one = rw e (
      refuse_not (bad_members t members) MembersInvalid _ (λ z. omega arith)
      (refuse_not (bad_list t members list) ListInvalid _ (λ z. omega arith)
      (refuse_not (bad_held t members list) RightUnlisted _ (λ z. omega arith) (refuse_not (member_held t members) MemberHeld Accepted (λ z. omega arith) (λ z. omega arith)))))

  pub test_never_one : verdict_number (verdict_in (test_of t members list)) ≢ 1
  test_never_one = rw (test_verdict t members list) verdict_never_one
