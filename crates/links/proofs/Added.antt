-- Rounds from a number x, for document 02, 2.6. In plain words: the rounds that add something are the first ones, as many as are counted
-- (`counted`), and at most 63 where no edge leads to x (`at_most_63`); rounds that begin with x itself there, over edges that differ only
-- in those to x, reach the same beside x and are as many (`rounds_same`, `last_reached`). Assumes nothing.
use mathlib.Core.Path.{◌≡◌, refl, sym, ◌∙◌, ap, subst, subst⁻¹}
use mathlib.Core.Logic.{◌≢◌, ◌↔◌}
use mathlib.Core.Bool.{Bool, true, false, ◌&&◌, ◌||◌, true≢false}
use Prim.Native.Nat.{ℕ, zero, suc, ◌+◌, ◌^◌, ◌≤◌, ◌<◌}
use native.Mathlib.Omega.{arith}
use lib.Dec.{ltb, eqb}
use borrow.Author.Tests.{ltb-true, ltb-false, eqb-true, eq-eqb, ne_eqb}
use Rattle.mask.specs.Sets.{has, any_below}
use Rattle.mask.proofs.Tests.{by_cases, by_eq, clash, bool_ext, and_true, and_intro, or_cases, or_left, or_right}
use Rattle.mask.proofs.Below.{any_intro, any_elim}
use Rattle.mask.proofs.Bits.{has_bits, bits_lt, bits_ext, has_zero}
use Rattle.relation.specs.Closure.{grow, spread, only, most_rounds, reached}
use Rattle.relation.specs.Helpers.{count}
use Rattle.relation.proofs.Reach.{count_more, count_without, has_grow, grow_lt, has_only, only_lt}
use Rattle.links.specs.Rounds.{there_after, adding_from, rounds_from}
use Rattle.links.specs.Helpers.{spread_of}

module _ (edge : ℕ → ℕ → Bool) (x : ℕ) where
  abbrev after : ℕ → ℕ
  after = there_after edge x

  -- what a round adds ------------------------------------------------------------------------------
  pub after_low : (k : ℕ) → after k < 2 ^ 64
  unfolding there_after
  after_low zero = omega arith
  after_low (suc zero) = bits_lt 64 _
  after_low (suc (suc k)) = grow_lt edge (after (suc k))

  pub after_none : (y : ℕ) → has y (after 0) ≡ false
  unfolding there_after
  after_none y = has_zero y

  first_is : (y : ℕ) → y < 64 → has y (after 1) ≡ edge x y
  unfolding there_after
  first_is y h = has_bits 64 y (edge x) h

  pub after_keeps : (k y : ℕ) → y < 64 → has y (after k) ≡ true → has y (after (suc k)) ≡ true
  unfolding there_after
  after_keeps zero y h e = clash e (after_none y)
  after_keeps (suc k) y h e = has_grow edge (after (suc k)) y h ∙ or_left (has y (after (suc k))) _ e

  pub after_mono : (j k y : ℕ) → y < 64 → j ≤ k → has y (after j) ≡ true → has y (after k) ≡ true
  after_mono j zero y h l e = let f : j ≡ 0 = omega arith in subst (λ (i : ℕ). has y (after i) ≡ true) f e
  after_mono j (suc k) y h l e = by_eq j (suc k)
      (λ f. subst (λ (i : ℕ). has y (after i) ≡ true) f e)
      (λ f. after_keeps k y h (after_mono j k y h (omega arith) e))

  pub after_first : (k y : ℕ) → y < 64 → edge x y ≡ true → has y (after (suc k)) ≡ true
  after_first k y h e = after_mono 1 (suc k) y h (omega arith) (first_is y h ∙ e)

  pub after_adds : (k u y : ℕ) → u < 64 → y < 64 → has u (after k) ≡ true → edge u y ≡ true → has y (after (suc k)) ≡ true
  unfolding there_after
  after_adds zero u y hu h e f = clash e (after_none u)
  after_adds (suc k) u y hu h e f = has_grow edge (after (suc k)) y h
      ∙ or_right (has y (after (suc k))) _ (any_intro 64 (λ v. has v (after (suc k)) && edge v y) u hu (and_intro _ _ e f))

  pub after_elim : {P : Type 0} (k y : ℕ) → y < 64 → has y (after (suc k)) ≡ true
      → (has y (after k) ≡ true → P) → (edge x y ≡ true → P) → ((u : ℕ) → u < 64 → has u (after k) ≡ true → edge u y ≡ true → P) → P
  unfolding there_after
  after_elim zero y h e f g i = g (sym (first_is y h) ∙ e)
  after_elim (suc k) y h e f g i = or_cases (has y (after (suc k))) _ (sym (has_grow edge (after (suc k)) y h) ∙ e) f
      (λ q. any_elim 64 (λ v. has v (after (suc k)) && edge v y) q (λ u hu a.
      let p = and_true (has u (after (suc k))) (edge u y) a in i u hu p.0 p.1))

  -- after a round that adds nothing no other adds anything --------------------------------------------
  nothing_grows : grow edge 0 ≡ 0
  nothing_grows = bits_ext 64 _ _ (grow_lt edge 0) (omega arith) (λ y h. has_grow edge 0 y h ∙ bool_ext _ _
      (λ e. or_cases (has y 0) _ e (λ q. q) (λ q. any_elim 64 (λ v. has v 0 && edge v y) q (λ u hu a.
      clash (and_true (has u 0) (edge u y) a).0 (has_zero u))))
      (λ e. or_left (has y 0) _ e))

  still_next : (k : ℕ) → after (suc k) ≡ after k → after (suc (suc k)) ≡ after (suc k)
  unfolding there_after
  still_next zero e = ap (grow edge) e ∙ nothing_grows ∙ sym e
  still_next (suc k) e = ap (grow edge) e

  pub still : (k m : ℕ) → k ≤ m → after (suc k) ≡ after k → after (suc m) ≡ after m
  still k zero h e = let f : k ≡ 0 = omega arith in subst (λ (i : ℕ). after (suc i) ≡ after i) f e
  still k (suc m) h e = by_eq k (suc m)
      (λ f. subst (λ (i : ℕ). after (suc i) ≡ after i) f e)
      (λ f. still_next m (still k m (omega arith) e))

  -- how many rounds are counted ------------------------------------------------------------------
  abbrev counting : ℕ → ℕ → ℕ
  counting n k = adding_from n edge (after k) (after (suc k))

  counting_none : (n k : ℕ) → after (suc k) ≡ after k → counting n k ≡ 0
  unfolding adding_from
  counting_none zero k e = refl
  counting_none (suc n) k e = rw (eq-eqb (after (suc k)) (after k) e, adding_from) refl

  counting_one : (n k : ℕ) → after (suc k) ≢ after k → counting (suc n) k ≡ suc (counting n (suc k))
  unfolding adding_from there_after
  counting_one n k e = rw (ne_eqb (after (suc k)) (after k) e, adding_from) refl

  -- each of them adds
  adds_each : (n k j : ℕ) → k ≤ j → j < counting n k + k → after (suc j) ≢ after j
  unfolding adding_from
  adds_each zero k j h l = absurd (omega arith)
  adds_each (suc n) k j h l = by_eq (after (suc k)) (after k)
      (λ q. absurd (omega (arith, l, counting_none (suc n) k q)))
      (λ q. by_eq k j
      (λ e. subst (λ (i : ℕ). after (suc i) ≢ after i) e q)
      (λ e. adds_each n (suc k) j (omega arith) (omega (arith, l, counting_one n k q))))

  -- and so many numbers are there after them, at least
  enough : (m : ℕ) → m ≤ counting 64 0 → m ≤ count 64 (after m)
  enough zero h = omega arith
  enough (suc m) h = omega (arith, enough m (omega arith), grows)
    where
      grows : count 64 (after m) < count 64 (after (suc m))
      grows = count_more (after m) (after (suc m)) (after_low m) (after_low (suc m)) (after_keeps m) (adds_each 64 0 m (omega arith) (omega arith))

  -- the count ends where a round adds nothing, if it ends before the rounds that are looked at do
  counting_end : (n k m : ℕ) → counting n k < n → m ≡ counting n k + k → after (suc m) ≡ after m
  counting_end zero k m h e = absurd (omega arith)
  counting_end (suc n) k m h e = by_eq (after (suc k)) (after k)
      (λ q. let f : m ≡ k = omega (arith, e, counting_none (suc n) k q) in subst⁻¹ (λ (i : ℕ). after (suc i) ≡ after i) f q)
      (λ q. counting_end n (suc k) m (omega (arith, h, counting_one n k q)) (omega (arith, e, counting_one n k q)))

  -- as many are counted where one less is looked at, if not all of them are
  counting_fewer : (n k : ℕ) → counting (suc n) k ≤ n → counting n k ≡ counting (suc n) k
  unfolding adding_from
  counting_fewer zero k h = by_eq (after (suc k)) (after k)
      (λ q. sym (counting_none 1 k q))
      (λ q. absurd (omega (arith, h, counting_one 0 k q)))
  counting_fewer (suc n) k h = by_eq (after (suc k)) (after k)
      (λ q. counting_none (suc n) k q ∙ sym (counting_none (suc (suc n)) k q))
      (λ q. counting_one n k q ∙ ap suc (counting_fewer n (suc k) (omega (arith, h, counting_one (suc n) k q))) ∙ sym (counting_one (suc n) k q))

  abbrev rounds : ℕ
  rounds = rounds_from edge x

  rounds_counting : rounds ≡ counting 64 0
  unfolding rounds_from
  rounds_counting = refl

  -- each of the rounds adds one number at least
  pub few : rounds ≤ count 64 (after rounds)
  unfolding rounds_from
  few = enough (counting 64 0) (omega arith)

  -- where no edge leads to x -----------------------------------------------------------------------
  module _ (hx : x < 64) (none : (u : ℕ) → edge u x ≡ false) where
    after_without : (k : ℕ) → has x (after k) ≡ false
    after_without zero = after_none x
    after_without (suc k) = by_cases (has x (after (suc k)))
        (λ e. after_elim k x hx e (λ q. clash q (after_without k)) (λ q. clash q (none x)) (λ u h q f. clash f (none u)))
        (λ e. e)

    pub at_most_63 : rounds ≤ 63
    at_most_63 = omega (arith, rounds_counting, enough (counting 64 0) (omega arith), count_without 64 (after (counting 64 0)) x hx (after_without (counting 64 0)))

    ends : after (suc rounds) ≡ after rounds
    ends = counting_end 64 0 rounds (omega (arith, rounds_counting, at_most_63)) (omega (arith, rounds_counting))

    -- In plain words: round k + 1 adds something exactly if k is below the number that is counted
    pub counted : (k : ℕ) → (k < rounds) ↔ (after (suc k) ≢ after k)
    counted k = (
      λ h. adds_each 64 0 k (omega arith) (omega (arith, h, rounds_counting)),
      λ q. by_cases (ltb k rounds) (ltb-true k rounds) (λ f. absurd (q (still rounds k (ltb-false k rounds f) ends))),
    )

    -- rounds that begin with x there -------------------------------------------------------------
    module _ (other : ℕ → ℕ → Bool) (same : (u v : ℕ) → u < 64 → v < 64 → v ≢ x → other u v ≡ edge u v) where
      unfoldable with_x : ℕ → ℕ
      with_x zero = only x
      with_x (suc k) = grow other (with_x k)

      with_low : (k : ℕ) → with_x k < 2 ^ 64
      unfolding with_x
      with_low zero = only_lt other x
      with_low (suc k) = grow_lt other (with_x k)

      -- what is there then is x, and what else is there
      with_is : (k v : ℕ) → v < 64 → has v (with_x k) ≡ (has v (after k) || eqb v x)
      unfolding with_x
      with_is zero v h = has_only other x v h ∙ ap (λ (b : Bool). b || eqb v x) (sym (after_none v))
      with_is (suc k) v h = has_grow other (with_x k) v h ∙ bool_ext _ _
          (λ e. by_eq v x
          (λ q. or_right (has v (after (suc k))) (eqb v x) (eq-eqb v x q))
          (λ q. or_left (has v (after (suc k))) (eqb v x) (or_cases (has v (with_x k)) _ e
          (λ f. or_cases (has v (after k)) (eqb v x) (sym (with_is k v h) ∙ f) (after_keeps k v h) (λ g. absurd (q (eqb-true v x g))))
          (λ f. any_elim 64 (λ u. has u (with_x k) && other u v) f (λ u hu a.
          let p = and_true (has u (with_x k)) (other u v) a in
          let l = sym (same u v hu h q) ∙ p.1 in
          or_cases (has u (after k)) (eqb u x) (sym (with_is k u hu) ∙ p.0)
          (λ g. after_adds k u v hu h g l)
          (λ g. after_first k v h (subst (λ (i : ℕ). edge i v ≡ true) (eqb-true u x g) l)))))))
          (λ e. or_cases (has v (after (suc k))) (eqb v x) e
          (λ f. after_elim k v h f
          (λ g. or_left (has v (with_x k)) _ (with_is k v h ∙ or_left (has v (after k)) (eqb v x) g))
          (λ g. or_right (has v (with_x k)) _ (from x v hx h g (with_is k x hx ∙ or_right (has x (after k)) (eqb x x) (eq-eqb x x refl))))
          (λ u hu g l. or_right (has v (with_x k)) _ (from u v hu h l (with_is k u hu ∙ or_left (has u (after k)) (eqb u x) g))))
          (λ f. or_left (has v (with_x k)) _ (with_is k v h ∙ or_right (has v (after k)) (eqb v x) f)))
        where
          from : (u w : ℕ) → u < 64 → w < 64 → edge u w ≡ true → has u (with_x k) ≡ true → any_below 64 (λ i. has i (with_x k) && other i w) ≡ true
          from u w hu hw l f = any_intro 64 (λ i. has i (with_x k) && other i w) u hu (and_intro _ _ f (same u w hu hw (λ q. clash (subst (λ (i : ℕ). edge u i ≡ true) q l) (none u)) ∙ l))

      -- so a round adds something there exactly if it does here
      with_same : (k : ℕ) → after (suc k) ≡ after k → with_x (suc k) ≡ with_x k
      with_same k e = bits_ext 64 _ _ (with_low (suc k)) (with_low k) (λ v h.
          with_is (suc k) v h ∙ ap (λ (s : ℕ). has v s || eqb v x) e ∙ sym (with_is k v h))

      -- x aside
      beside : (a b : Bool) → (a || b) ≡ true → b ≡ false → a ≡ true
      beside a true e f = absurd (true≢false f)
      beside true false e f = refl
      beside false false e f = e

      within : (j k v : ℕ) → v < 64 → with_x j ≡ with_x k → has v (after j) ≡ true → has v (after k) ≡ true
      within j k v h e f = beside (has v (after k)) (eqb v x)
          (sym (with_is k v h) ∙ ap (has v) (sym e) ∙ with_is j v h ∙ or_left (has v (after j)) (eqb v x) f)
          (ne_eqb v x (λ q. clash (subst (λ (i : ℕ). has i (after j) ≡ true) q f) (after_without j)))

      same_with : (k : ℕ) → with_x (suc k) ≡ with_x k → after (suc k) ≡ after k
      same_with k e = bits_ext 64 _ _ (after_low (suc k)) (after_low k) (λ v h. bool_ext _ _ (within (suc k) k v h e) (within k (suc k) v h (sym e)))

      counting_same : (n k : ℕ) → adding_from n other (with_x k) (with_x (suc k)) ≡ counting n k
      unfolding adding_from with_x
      counting_same zero k = refl
      counting_same (suc n) k = by_eq (after (suc k)) (after k)
          (λ q. rw (eq-eqb _ _ (with_same k q), adding_from) (sym (counting_none (suc n) k q)))
          (λ q. rw (ne_eqb _ _ (λ e. q (same_with k e)), adding_from) (ap suc (counting_same n (suc k)) ∙ sym (counting_one n k q)))

      -- In plain words: as many rounds add something
      pub rounds_same : (spread_of other x).rounds ≡ rounds
      unfolding spread_of with_x
      rounds_same = counting_same most_rounds 0 ∙ counting_fewer 63 0 (omega (arith, rounds_counting, at_most_63)) ∙ sym rounds_counting

      spread_with : (n k : ℕ) → spread n other (with_x k) ≡ with_x (counting n k + k)
      unfolding spread with_x adding_from
      spread_with zero k = let e : 0 + k ≡ k = omega arith in ap with_x (sym e)
      spread_with (suc n) k = by_eq (after (suc k)) (after k)
          (λ q. let e : counting (suc n) k + k ≡ k = omega (arith, counting_none (suc n) k q) in rw (eq-eqb _ _ (with_same k q), spread) (ap with_x (sym e)))
          (λ q. let e : counting n (suc k) + suc k ≡ counting (suc n) k + k = omega (arith, counting_one n k q) in
          rw (ne_eqb _ _ (λ e. q (same_with k e)), spread) (spread_with n (suc k) ∙ ap with_x e))

      -- and what is there after them is what is reached, x aside
      pub last_reached : (v : ℕ) → v < 64 → has v (reached other x) ≡ (has v (after rounds) || eqb v x)
      unfolding reached with_x
      last_reached v h =
          let f : counting most_rounds 0 ≡ rounds = counting_fewer 63 0 (omega (arith, rounds_counting, at_most_63)) ∙ sym rounds_counting in
          let e : counting most_rounds 0 + 0 ≡ rounds = omega (arith, f) in
          ap (has v) (spread_with most_rounds 0 ∙ ap with_x e) ∙ with_is rounds v h
