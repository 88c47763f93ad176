-- What an answer is made of: where a chain is shown, what the checks found; and the numbers that it shows. Assumes nothing.
use mathlib.Core.Path.{◌≡◌, refl, sym, ◌∙◌, ap}
use mathlib.Core.Bool.{Bool, true, false, ◌||◌, false≢true}
use mathlib.Core.Logic.{◌≢◌}
use mathlib.Core.List.{List, []}
use Prim.Native.Nat.{ℕ, ◌≤◌}
use native.Mathlib.Omega.{arith}
use lib.Dec.{ltb, eqb}
use lib.ListN.{length}
use borrow.Author.Tests.{le-ltb, eqb-false, eq-eqb, ne_eqb}
use Rattle.mask.specs.Sets.{has}
use Rattle.mask.proofs.Tests.{by_cases, clash, or_left, or_right}
use Rattle.table.specs.declared.Capability.{Capability}
use Rattle.table.specs.declared.Table.{Table}
use Rattle.table.specs.Cells.{record_at, status_at, is_unborn}
use Rattle.table.specs.Lists.{tabulate}
use Rattle.table.proofs.Lists.{padded_all}
use Rattle.table.proofs.SoundFacts.{Sound}
use Rattle.relation.specs.Relation.{takes_part}
use Rattle.bounds.specs.StandIn.{stand_in, bound_of}
use Rattle.relation.proofs.Tables.{part_low, takes_part_lem}
use Rattle.confinement.specs.Refusals.{Verdict, Accepted, verdict_number, verdict_of}
use Rattle.confinement.proofs.Verdicts.{accepted_is, refusal_not, verdict_split}
use Rattle.std.specs.Prelude.{Ok, Err}
use Rattle.std.specs.Result.{result_and, result_unwrap_or}
use Rattle.walks.specs.declared.Walked.{Walked}
use Rattle.walks.specs.Chains.{least_chain, walked}
use Rattle.confinement.specs.Links.{object_link}
use Rattle.chains.specs.declared.ChainRefusal.{ChainRefusal}
use Rattle.chains.specs.declared.ChainRefusal.TheVariants.{TestRefused, ObjectInvalid, OutsideBound}
use Rattle.chains.specs.Answers.{chain_refusal_number, ChainReply, Done, chain_number, bad_object, object_reply, after_test, chain_reply, shown, chain_of, reply_in, walked_in}
use Rattle.chains.specs.Exactness.{numbers_of}

-- the numbers of an answer: those of the chain, and none where the reply is a refusal
pub numbers_shown : (reply : ChainReply) (cs : List ℕ) → length cs ≤ 63 → numbers_of (shown reply (walked cs)) ≡ result_unwrap_or (result_and reply (Ok cs)) []
unfolding numbers_of tabulate
numbers_shown (Ok _) cs h = padded_all 63 0 cs h
numbers_shown (Err why) cs h = refl

-- which object is turned away ------------------------------------------------------------------------
none_of : (a b c : Bool) → a ≡ false → b ≡ false → c ≡ false → (a || b || c) ≡ false
none_of a b c p q r = rw (p, q, r) refl

pub fit_object : (t : Table) (members z : ℕ) → takes_part t z ≡ true → has z members ≡ false → bad_object t members z ≡ false
unfolding bad_object
fit_object t members z p o =
    let l = part_low t z p in
    none_of _ _ (has z members) (le-ltb 63 z (omega (arith, l.0))) (ne_eqb (status_at t z) 0 (λ q. absurd (omega (arith, l.1, q)))) o

pub member_bad : (t : Table) (members z : ℕ) → has z members ≡ true → bad_object t members z ≡ true
unfolding bad_object
member_bad t members z m = or_right (ltb 63 z || is_unborn (record_at t z)) (has z members) m

pub unfit_object : (t : Table) (members z : ℕ) → Sound t → takes_part t z ≡ false → bad_object t members z ≡ true
unfolding bad_object
unfit_object t members z d p = or_left (ltb 63 z || is_unborn (record_at t z)) (has z members)
    (by_cases (is_unborn (record_at t z))
    (λ e. or_right (ltb 63 z) (is_unborn (record_at t z)) e)
    (λ e. let f = eqb-false (status_at t z) 0 e in clash (takes_part_lem t d z (omega (arith, f))) p))

-- done, or one of the refusals -----------------------------------------------------------------------
chain_refusal_not : (why : ChainRefusal) → chain_refusal_number why ≢ 0
chain_refusal_not (TestRefused v) = refusal_not v
chain_refusal_not ObjectInvalid = λ e. omega (arith, e)
chain_refusal_not OutsideBound = λ e. omega (arith, e)

done_is : (r : ChainReply) → chain_number r ≡ 0 → r ≡ Done
done_is (Ok _) e = refl
done_is (Err why) e = absurd (chain_refusal_not why e)

-- the reply of an answer is the one that it is made of
reply_kept : (w : Walked) (r : ChainReply) → reply_in (shown r w) ≡ r
reply_kept w (Ok _) = refl
reply_kept w (Err why) = refl

refused_walked : (w : Walked) (r : ChainReply) → eqb (chain_number r) 0 ≡ false → walked_in (shown r w) ≡ walked []
refused_walked w (Ok _) e = absurd (false≢true (sym e))
refused_walked w (Err why) e = refl

-- what the checks found ------------------------------------------------------------------------------
module _ (t : Table) (members : ℕ) (list : List Capability) (z : ℕ) where
  pub record Found : Type 0 where
    pub accepted : verdict_number (verdict_of t members list) ≡ 0
    pub fit : bad_object t members z ≡ false
    pub inside : has z (bound_of t members list) ≡ true

  -- the reply by the verdict
  pub reply_by : (v : Verdict) → verdict_of t members list ≡ v → chain_reply t members list z ≡ after_test v (object_reply t members list z)
  unfolding chain_reply
  reply_by v e = ap (λ (w : Verdict). after_test w (object_reply t members list z)) e

  object_found : chain_number (object_reply t members list z) ≡ 0 → (bad_object t members z ≡ false) × (has z (bound_of t members list) ≡ true)
  unfolding object_reply
  object_found e = by_cases (bad_object t members z)
      (λ b. absurd (omega (arith, rw (b, object_reply) at e)))
      (λ b. by_cases (has z (bound_of t members list))
      (λ c. (b, c))
      (λ c. absurd (omega (arith, rw (b, object_reply, c) at e))))

  pub done_found : chain_number (chain_reply t members list z) ≡ 0 → Found
  done_found e = verdict_split (verdict_of t members list)
      (λ a. let o = object_found (ap chain_number (sym (reply_by Accepted a)) ∙ e) in record { accepted = ap verdict_number a; fit = o.0; inside = o.1 })
      (λ why a. absurd (refusal_not why (ap chain_number (sym (reply_by (Err why) a)) ∙ e)))

  object_done : Found → object_reply t members list z ≡ Done
  unfolding object_reply
  object_done f = rw (f.fit, object_reply, f.inside) refl

  pub found_reply : Found → chain_reply t members list z ≡ Done
  found_reply f = reply_by Accepted (accepted_is (verdict_of t members list) (eq-eqb _ 0 f.accepted)) ∙ object_done f

  abbrev given : Walked
  given = walked (least_chain (object_link t members list) (stand_in members) z)

  pub done_shown : chain_number (chain_reply t members list z) ≡ 0 → chain_of t members list z ≡ Ok given
  unfolding chain_of
  done_shown e = ap (λ (r : ChainReply). shown r given) (done_is (chain_reply t members list z) e)

  pub reply_shown : reply_in (chain_of t members list z) ≡ chain_reply t members list z
  unfolding chain_of
  reply_shown = reply_kept given (chain_reply t members list z)

  -- refused: with the reply, and with no number
  pub err_shown : (why : ChainRefusal) → chain_reply t members list z ≡ Err why → chain_of t members list z ≡ Err why
  unfolding chain_of
  err_shown why e = ap (λ (r : ChainReply). shown r given) e

  pub refused_shown : eqb (chain_number (chain_reply t members list z)) 0 ≡ false
      → (reply_in (chain_of t members list z) ≡ chain_reply t members list z) × (walked_in (chain_of t members list z) ≡ walked [])
  unfolding chain_of
  refused_shown e = (reply_shown, refused_walked given (chain_reply t members list z) e)
