-- The layers that are made from z backwards, as far as a number x has an edge into the latest, are those up to the first that has x; so the
-- least chain is the walk through them. Assumes nothing.
use mathlib.Core.Path.{◌≡◌, refl, ◌∙◌, ap}
use mathlib.Core.Bool.{Bool, true, false, ◌&&◌}
use mathlib.Core.List.{List, []}
use Prim.Native.Nat.{ℕ, zero, suc, ◌+◌, ◌≤◌, ◌<◌}
use native.Mathlib.Omega.{arith}
use Rattle.mask.specs.Sets.{has, any_below}
use Rattle.mask.proofs.Tests.{by_cases, clash, and_true, and_intro}
use Rattle.mask.proofs.Below.{any_intro, any_elim}
use Rattle.relation.specs.Closure.{only, most_rounds, reached}
use Rattle.walks.specs.Chains.{layers_to, walk_down, least_chain}
use Rattle.walks.proofs.Shortest as S

module _ (edge : ℕ → ℕ → Bool) (low : (x y : ℕ) → edge x y ≡ true → (x < 64) × (y < 64)) (z : ℕ) (hz : z < 64) where
  abbrev within : ℕ → ℕ
  within = S.within edge low z hz

  abbrev layers : ℕ → List ℕ
  layers = S.layers edge low z hz

  abbrev Exact : ℕ → ℕ → Type 0
  Exact = S.Exact edge low z hz

  pub record Made (n k x : ℕ) : Type 0 where
    pub count : ℕ
    pub exact : Exact (suc count) x
    pub made : layers_to n edge x (within k) (layers k) ≡ layers (suc count)

  none_within : (k x : ℕ) → x < 64 → has x (within k) ≡ false → any_below 64 (λ y. has y (within k) && edge x y) ≡ false → has x (within (suc k)) ≡ false
  none_within k x h e f = by_cases (has x (within (suc k)))
      (λ q. S.within_elim edge low z hz k x h q
      (λ r. clash r e)
      (λ y g r. clash (any_intro 64 (λ i. has i (within k) && edge x i) y (low x y g).1 (and_intro (has y (within k)) (edge x y) r g)) f))
      (λ q. q)

  exact_next : (k x : ℕ) → x < 64 → has x (within k) ≡ false → has x (within (suc k)) ≡ true → Exact (suc k) x
  exact_next k x h e f = record {
    there = f;
    fewer = λ j g. by_cases (has x (within j)) (λ q. clash (S.within_mono edge low z hz j k x h (omega arith) q) e) (λ q. q);
  }

  layers_made : (n k x m : ℕ) → x < 64 → has x (within k) ≡ false → m ≤ suc (n + k) → has x (within m) ≡ true → Made n k x
  unfolding layers_to S.layers S.within
  layers_made zero k x m h e l f = record {
    count = k;
    exact = exact_next k x h e (S.within_mono edge low z hz m (suc k) x h (omega arith) f);
    made = refl;
  }
  layers_made (suc n) k x m h e l f = by_cases (any_below 64 (λ y. has y (within k) && edge x y))
      (λ q. record {
        count = k;
        exact = any_elim 64 (λ y. has y (within k) && edge x y) q (λ y hy a.
            let p = and_true (has y (within k)) (edge x y) a in exact_next k x h e (S.within_adds edge low z hz k x y p.1 p.0));
        made = rw (q, layers_to) refl;
      })
      (λ q.
      let r = layers_made n (suc k) x m h (none_within k x h e q) (omega arith) f in
      record { count = r.count; exact = r.exact; made = rw (q, layers_to) r.made })

  -- In plain words: from a number that reaches z, and is not z, the least chain is the walk through the layers from the first that has it
  pub record Walks (x : ℕ) : Type 0 where
    pub count : ℕ
    pub exact : Exact (suc count) x
    pub walks : least_chain edge x z ≡ S.walk edge low z hz (suc count) x

  start : (x : ℕ) → layers_to 62 edge x (only z) [] ≡ layers_to 62 edge x (within 0) (layers 0)
  unfolding S.within S.layers
  start x = refl

  pub least_walks : (x : ℕ) → x < 64 → (x ≡ z → ⊥) → has z (reached edge x) ≡ true → Walks x
  unfolding least_chain
  least_walks x h ne e =
      let n : has x (within zero) ≡ false = by_cases (has x (within zero)) (λ q. absurd (ne (S.within_end edge low z hz x h q))) (λ q. q) in
      let m = layers_made 62 0 x most_rounds h n (omega arith) (S.reached_within edge low z hz x h e) in
      record { count = m.count; exact = m.exact; walks = ap (walk_down edge x) (start x ∙ m.made) }
