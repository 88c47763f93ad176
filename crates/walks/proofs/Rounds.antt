-- Chains and rounds from a number x: after k rounds the numbers are there to which a chain of at most k numbers leads. Assumes nothing.
use mathlib.Core.Path.{◌≡◌, subst⁻¹}
use mathlib.Core.Bool.{Bool, true}
use mathlib.Core.List.{List, [], ◌∷◌, ◌++◌}
use Prim.Native.Nat.{ℕ, zero, suc, ◌+◌, ◌≤◌, ◌<◌}
use native.Mathlib.Omega.{arith}
use lib.ListN.{length, length-append}
use Rattle.mask.specs.Sets.{has}
use Rattle.mask.proofs.Tests.{clash}
use Rattle.links.specs.Rounds.{there_after}
use Rattle.links.proofs.Added.{after_none, after_first, after_adds, after_elim}
use Rattle.walks.specs.Chains.{Chain, last, more}

module _ (edge : ℕ → ℕ → Bool) (low : (u v : ℕ) → edge u v ≡ true → (u < 64) × (v < 64)) (x : ℕ) where
  abbrev after : ℕ → ℕ
  after = there_after edge x

  -- a chain onward from what is there
  chain_on : {z y : ℕ} {cs : List ℕ} (k m : ℕ) → has y (after k) ≡ true → Chain edge z y cs → m ≡ length cs + k → has z (after m) ≡ true
  chain_on {z} {y} k m h (last e) q =
      let f : m ≡ suc k = omega (arith, q) in
      subst⁻¹ (λ (i : ℕ). has z (after i) ≡ true) f (after_adds edge x k y z (low y z e).0 (low y z e).1 h e)
  chain_on {z} {y} k m h (more {y = v} e c) q = chain_on (suc k) m (after_adds edge x k y v (low y v e).0 (low y v e).1 h e) c (omega (arith, q))

  pub chain_after : {z : ℕ} {cs : List ℕ} → Chain edge z x cs → has z (after (length cs)) ≡ true
  chain_after {z} (last e) = after_first edge x 0 z (low x z e).1 e
  chain_after (more {y = v} {cs = cs} e c) = chain_on 1 (length (v ∷ cs)) (after_first edge x 0 v (low x v e).1 e) c (omega arith)

  -- a link more at its end
  chain_more : {u y z : ℕ} {cs : List ℕ} → Chain edge u y cs → edge u z ≡ true → Chain edge z y (cs ++ (z ∷ []))
  chain_more (last e) f = more e (last f)
  chain_more (more e c) f = more e (chain_more c f)

  pub record Within (k z : ℕ) : Type 0 where
    pub numbers : List ℕ
    pub chain : Chain edge z x numbers
    pub few : length numbers ≤ k

  pub after_chain : (k z : ℕ) → z < 64 → has z (after k) ≡ true → Within k z
  after_chain zero z h e = clash e (after_none edge x z)
  after_chain (suc k) z h e = after_elim edge x k z h e
      (λ f. let w = after_chain k z h f in record { numbers = w.numbers; chain = w.chain; few = omega (arith, w.few) })
      (λ f. record { numbers = z ∷ []; chain = last f; few = omega arith })
      (λ u hu f g. let w = after_chain k u hu f in record {
        numbers = w.numbers ++ (z ∷ []);
        chain = chain_more w.chain g;
        few = omega (arith, w.few, length-append w.numbers (z ∷ []));
      })
