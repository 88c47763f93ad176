-- Lists of pairs: the code's count and array of four as the list that a definition reads. Whether a list is refused, and what a
-- list that is not refused has. By induction on the count. Assumes nothing.
use mathlib.Core.Path.{◌≡◌, refl, sym, ◌∙◌, ap}
use mathlib.Core.Bool.{Bool, true, false, false≢true}
use mathlib.Core.List.{List, [], ◌∷◌}
use Rattle.std.specs.Prelude.{IsTrue, ◌↔◌, Any}
use Prim.Native.Nat.{ℕ, zero, suc, ◌≤◌, ◌<◌}
use native.Mathlib.Omega.{arith}
use lib.Dec.{ltb}
use lib.ListN.{length, get_or, take}
use Rattle.std.proofs.lemmas.List.{length-take-le, get_or-take}
use borrow.Author.Tests.{ltb-false, lt-ltb, le-ltb}
use Rattle.mask.proofs.Tests.{by_cases, or_left, or_right, or_none}
use Rattle.table.specs.Lists.{tabulate}
use Rattle.table.proofs.Lists.{length_tabulate, as_tabulate}
use Rattle.requests.specs.declared.Pair.{Pair}
use Rattle.requests.specs.declared.PairList.{PairList}
use Rattle.requests.specs.Asks.{pair_at, pairs_of}
use Rattle.refusals.specs.Refusals.{no_slot, bad_slots, bad_list}
use Rattle.refusals.specs.Helpers.{pair_bad, PairsFit}

-- whether a list is refused ------------------------------------------------------------------
some_bad : (xs : List Pair) (k : ℕ) (x : Pair) → k < length xs → get_or xs k x ≡ x → pair_bad x ≡ true → bad_slots xs ≡ true
unfolding bad_slots
some_bad [] k x h e f = absurd (omega arith)
some_bad (p ∷ ps) zero x h e f = or_left (pair_bad p) (bad_slots ps) (ap pair_bad e ∙ f)
some_bad (p ∷ ps) (suc k) x h e f = or_right (pair_bad p) (bad_slots ps) (some_bad ps k x (omega arith) e f)

bad_some : (xs : List Pair) → bad_slots xs ≡ true → Any (λ p. pair_bad p ≡ true) xs
unfolding bad_slots
bad_some [] e = absurd (false≢true e)
bad_some (p ∷ ps) e = by_cases (pair_bad p)
    (λ f. (0, p, omega arith, refl, f))
    (λ f. let a = bad_some ps (rw f at e) in (suc a.0, a.1, omega (arith, a.2), a.3, a.4))

-- what the code found of the pairs
pub slots_found : (xs : List Pair) (b : Bool) → IsTrue b ↔ Any (λ p. pair_bad p ≡ true) xs → b ≡ bad_slots xs
slots_found xs true h = let a = h.0 refl in sym (some_bad xs a.0 a.1 a.2 a.3 a.4)
slots_found xs false h = by_cases (bad_slots xs) (λ e. absurd (false≢true (h.1 (bad_some xs e)))) (λ e. sym e)

-- the pairs below a count that the array has
pub pairs_taken : (l : PairList) → l.count ≤ 4 → length l.pairs ≡ 4 → take l.count l.pairs ≡ pairs_of l
unfolding pairs_of
pairs_taken l h z = as_tabulate l.count (pair_at l) (record { from = 0; to = 0 }) (take l.count l.pairs)
    (length-take-le l.count l.pairs (omega arith)) (λ k b. get_or-take l.count l.pairs k _ b)

pairs_few : (l : PairList) → l.count ≤ 4 → length (pairs_of l) ≤ 4
unfolding pairs_of
pairs_few l h = omega (arith, length_tabulate l.count (pair_at l))

pub short_bad : (l : PairList) (b : Bool) → l.count ≤ 4 → length l.pairs ≡ 4 → b ≡ bad_slots (take l.count l.pairs) → b ≡ bad_list (pairs_of l)
unfolding bad_list
short_bad l b h z e =
    e ∙ ap bad_slots (pairs_taken l h z)
    ∙ rw (le-ltb 4 (length (pairs_of l)) (pairs_few l h)) refl

pub long_bad : (l : PairList) → 4 < l.count → true ≡ bad_list (pairs_of l)
unfolding bad_list pairs_of
long_bad l h = sym (or_left _ _ (ap (ltb 4) (length_tabulate _ _) ∙ lt-ltb 4 _ h))

-- what a list that is not refused has -------------------------------------------------------------
slots_fit : (n : ℕ) (f : ℕ → Pair) → bad_slots (tabulate n f) ≡ false → (k : ℕ) → k < n → ((f k).from < 8) × ((f k).to < 8)
unfolding bad_slots tabulate
slots_fit zero f e k h = absurd (omega arith)
slots_fit (suc n) f e zero h =
    let p = or_none (no_slot (f 0).from) (no_slot (f 0).to) (or_none (pair_bad (f 0)) _ e).0 in
    (omega (arith, ltb-false 7 (f 0).from p.0), omega (arith, ltb-false 7 (f 0).to p.1))
slots_fit (suc n) f e (suc k) h = slots_fit n (λ i. f (suc i)) (or_none (pair_bad (f 0)) _ e).1 k (omega arith)

pub pairs_fit : (l : PairList) → bad_list (pairs_of l) ≡ false → PairsFit l
unfolding bad_list pairs_of
pairs_fit l e =
    let ps = tabulate l.count (pair_at l) in
    let p = or_none (ltb 4 (length ps)) (bad_slots ps) e in
    record {
      count = omega (arith, ltb-false 4 (length ps) p.0, length_tabulate l.count (pair_at l));
      pairs = slots_fit l.count (pair_at l) p.1;
    }
