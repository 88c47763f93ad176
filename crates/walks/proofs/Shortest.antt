-- Chains over an edge relation on the numbers below 64. A chain from x to z is the numbers that edges lead through, one after the other,
-- x itself left out. With layers counted from z backwards, the walk that takes the lowest number of the next layer each time is the
-- chain that comes first among the shortest: it is a chain (`walk_chain`), none is shorter (`none_shorter`), none of its length comes
-- before it (`walk_first`), and no other is both (`first_alone`). Assumes nothing.
use mathlib.Core.Path.{◌≡◌, refl, sym, ◌∙◌, ap, subst, subst⁻¹}
use mathlib.Core.Bool.{Bool, true, false, ◌&&◌}
use mathlib.Core.List.{List, [], ◌∷◌}
use Prim.Native.Nat.{ℕ, zero, suc, ◌+◌, ◌≤◌, ◌<◌}
use native.Mathlib.Omega.{arith}
use lib.Dec.{eqb}
use lib.ListN.{length}
use borrow.Author.Tests.{eqb-true, eq-eqb}
use Rattle.mask.specs.Sets.{has}
use Rattle.mask.proofs.Tests.{by_cases, by_eq, clash, and_true, and_intro, or_cases, or_left, or_right}
use Rattle.mask.proofs.Below.{any_intro, any_elim}
use Rattle.relation.specs.Closure.{grow, spread, only, most_rounds, reached}
use Rattle.relation.proofs.Reach.{Path, stay, step, join, turn, has_grow, has_only, reached_path, path_reached}
use Rattle.walks.specs.Chains.{Chain, last, more, First, none, lower, next, next_of, walk_down}
use Rattle.bounds.proofs.Passing.{Lowest, lowest_from_lem}

-- of two lists of which each comes first, or is the same, there is but one
pub first_alone : {cs ds : List ℕ} → First cs ds → First ds cs → cs ≡ ds
first_alone p q = both_first p q refl refl
  where
    front : List ℕ → ℕ
    front [] = 0
    front (a ∷ l) = a

    rest : List ℕ → List ℕ
    rest [] = []
    rest (a ∷ l) = l

    -- the same of any four lists that are two
    both_first : {cs ds es fs : List ℕ} → First cs ds → First es fs → cs ≡ fs → ds ≡ es → cs ≡ ds
    both_first none none e f = refl
    both_first none (lower g) e f = absurd (omega (arith, ap length e))
    both_first none (next q) e f = absurd (omega (arith, ap length e))
    both_first (lower h) none e f = absurd (omega (arith, ap length e))
    both_first (lower h) (lower g) e f = absurd (omega (arith, ap front e, ap front f))
    both_first (lower h) (next q) e f = absurd (omega (arith, ap front e, ap front f))
    both_first (next p) none e f = absurd (omega (arith, ap length e))
    both_first (next p) (lower g) e f = absurd (omega (arith, ap front e, ap front f))
    both_first (next {a = a} p) (next q) e f = ap (λ (l : List ℕ). a ∷ l) (both_first p q (ap rest e) (ap rest f))

module _ (edge : ℕ → ℕ → Bool) (low : (x y : ℕ) → edge x y ≡ true → (x < 64) × (y < 64)) (z : ℕ) (hz : z < 64) where
  -- what reaches z within so many edges
  unfoldable pub within : ℕ → ℕ
  within zero = only z
  within (suc k) = grow (λ a b. edge b a) (within k)

  -- the first k layers, the latest first
  unfoldable pub layers : ℕ → List ℕ
  layers zero = []
  layers (suc k) = within k ∷ layers k

  -- the walk of so many edges from x: each time the lowest number of the next layer
  abbrev pub walk : ℕ → ℕ → List ℕ
  walk k x = walk_down edge x (layers k)

  within_start : has z (within zero) ≡ true
  unfolding within
  within_start = has_only edge z z hz ∙ eq-eqb z z refl

  pub within_end : (x : ℕ) → x < 64 → has x (within zero) ≡ true → x ≡ z
  unfolding within
  within_end x h e = eqb-true x z (sym (has_only edge z x h) ∙ e)

  within_keeps : (k x : ℕ) → x < 64 → has x (within k) ≡ true → has x (within (suc k)) ≡ true
  unfolding within
  within_keeps k x h e = has_grow (λ a b. edge b a) (within k) x h ∙ or_left (has x (within k)) _ e

  pub within_adds : (k x y : ℕ) → edge x y ≡ true → has y (within k) ≡ true → has x (within (suc k)) ≡ true
  unfolding within
  within_adds k x y e f = has_grow (λ a b. edge b a) (within k) x (low x y e).0
      ∙ or_right (has x (within k)) _ (any_intro 64 (λ b. has b (within k) && edge x b) y (low x y e).1 (and_intro (has y (within k)) (edge x y) f e))

  pub within_elim : {P : Type 0} (k x : ℕ) → x < 64 → has x (within (suc k)) ≡ true → (has x (within k) ≡ true → P)
      → ((y : ℕ) → edge x y ≡ true → has y (within k) ≡ true → P) → P
  unfolding within
  within_elim k x h e f g = or_cases (has x (within k)) _ (sym (has_grow (λ a b. edge b a) (within k) x h) ∙ e) f
      (λ q. any_elim 64 (λ b. has b (within k) && edge x b) q (λ y hy a.
      let p = and_true (has y (within k)) (edge x y) a in g y p.1 p.0))

  -- a chain of so many numbers is within as many edges
  pub chain_within : {x : ℕ} {cs : List ℕ} → Chain edge z x cs → has x (within (length cs)) ≡ true
  chain_within {x} (last e) = within_adds zero x z e within_start
  chain_within {x} (more {y = y} {cs = cs} e c) = within_adds (length cs) x y e (chain_within c)

  -- x is so many edges from z, and no fewer
  pub record Exact (k x : ℕ) : Type 0 where
    pub there : has x (within k) ≡ true
    pub fewer : (j : ℕ) → j < k → has x (within j) ≡ false

  pub none_shorter : {k x : ℕ} {cs : List ℕ} → Exact k x → Chain edge z x cs → k ≤ length cs
  none_shorter {k} {x} {cs} d c = by_less k (length cs) (λ h. h) (λ h. clash (chain_within c) (d.fewer (length cs) h))
    where
      by_less : {P : Type 0} (m n : ℕ) → (m ≤ n → P) → (n < m → P) → P
      by_less zero n f g = f (omega arith)
      by_less (suc m) zero f g = g (omega arith)
      by_less (suc m) (suc n) f g = by_less m n (λ h. f (omega arith)) (λ h. g (omega arith))

  -- the next number of the walk --------------------------------------------------------------
  -- a number one edge from x and one edge less from z
  abbrev nearer : ℕ → ℕ → ℕ → Bool
  nearer k x y = has y (within k) && edge x y

  abbrev onward : ℕ → ℕ → ℕ
  onward k x = next_of edge x (within k)

  next_lowest : (k x y : ℕ) → edge x y ≡ true → has y (within k) ≡ true → Lowest (nearer k x) y (onward k x)
  unfolding next_of
  next_lowest k x y e f = lowest_from_lem (nearer k x) 64 0 y (omega arith) (omega (arith, (low x y e).1)) (and_intro (has y (within k)) (edge x y) f e)

  -- where x is k + 1 edges from z, the next number is one edge from x and k from z
  pub record Next (k x : ℕ) : Type 0 where
    pub edge_to : edge x (onward k x) ≡ true
    pub exact : Exact k (onward k x)

  next_exact : (k x : ℕ) → x < 64 → Exact (suc k) x → Next k x
  next_exact k x h d = within_elim k x h d.there
      (λ e. clash e (d.fewer k (omega arith)))
      (λ y e f.
      let l = next_lowest k x y e f in
      let p = and_true (has (onward k x) (within k)) (edge x (onward k x)) l.passes in
      record {
        edge_to = p.1;
        exact = record {
          there = p.0;
          fewer = λ j g. by_cases (has (onward k x) (within j))
              (λ q. clash (within_adds j x (onward k x) p.1 q) (d.fewer (suc j) (omega arith)))
              (λ q. q);
        };
      })

  -- the walk is a chain
  pub walk_chain : (k x : ℕ) → x < 64 → Exact (suc k) x → Chain edge z x (walk (suc k) x)
  unfolding walk_down layers
  walk_chain zero x h d =
      let n = next_exact zero x h d in
      let e = within_end (onward zero x) (low x _ n.edge_to).1 n.exact.there in
      subst⁻¹ (λ (y : ℕ). Chain edge z x (y ∷ [])) e (last (subst (λ (y : ℕ). edge x y ≡ true) e n.edge_to))
  walk_chain (suc k) x h d =
      let n = next_exact (suc k) x h d in
      more n.edge_to (walk_chain k (onward (suc k) x) (low x _ n.edge_to).1 n.exact)

  pub walk_length : (k x : ℕ) → length (walk k x) ≡ k
  unfolding walk_down layers
  walk_length zero x = refl
  walk_length (suc k) x = ap suc (walk_length k (onward k x))

  -- none of its length comes before it
  pub walk_first : (k x : ℕ) → x < 64 → Exact (suc k) x → {cs : List ℕ} → Chain edge z x cs → length cs ≡ suc k → First (walk (suc k) x) cs
  unfolding walk_down layers
  walk_first zero x h d (last e) l =
      let n = next_exact zero x h d in
      let q = within_end (onward zero x) (low x _ n.edge_to).1 n.exact.there in
      subst⁻¹ (λ (y : ℕ). First (y ∷ []) (z ∷ [])) q (next none)
  walk_first zero x h d (more e (last f)) l = absurd (omega (arith, l))
  walk_first zero x h d (more e (more f c)) l = absurd (omega (arith, l))
  walk_first (suc k) x h d (last e) l = absurd (omega (arith, l))
  walk_first (suc k) x h d (more {y = y} {cs = cs} e c) l =
      let n = next_exact (suc k) x h d in
      let m : length cs ≡ suc k = omega (arith, l) in
      let w = next_lowest (suc k) x y e (subst (λ (i : ℕ). has y (within i) ≡ true) m (chain_within c)) in
      by_eq (onward (suc k) x) y
      (λ q. subst (λ (u : ℕ). First (onward (suc k) x ∷ walk (suc k) (onward (suc k) x)) (u ∷ cs)) q
      (next (walk_first k (onward (suc k) x) (low x _ n.edge_to).1 n.exact (subst⁻¹ (λ (u : ℕ). Chain edge z u cs) q c) m)))
      (λ q. lower (omega (arith, w.least, q)))

  -- which numbers have a chain ---------------------------------------------------------------
  pub within_mono : (j m x : ℕ) → x < 64 → j ≤ m → has x (within j) ≡ true → has x (within m) ≡ true
  within_mono j zero x h l e = let f : j ≡ 0 = omega arith in subst (λ (i : ℕ). has x (within i) ≡ true) f e
  within_mono j (suc m) x h l e = by_eq j (suc m)
      (λ f. subst (λ (i : ℕ). has x (within i) ≡ true) f e)
      (λ f. within_keeps m x h (within_mono j m x h (omega arith) e))

  pub chain_path : {x : ℕ} {cs : List ℕ} → Chain edge z x cs → Path edge x z
  chain_path (last e) = step stay e
  chain_path (more e c) = join (step stay e) (chain_path c)

  -- a number with a chain is reached
  pub chain_reached : {x : ℕ} {cs : List ℕ} → x < 64 → Chain edge z x cs → has z (reached edge x) ≡ true
  chain_reached {x} h c = path_reached edge low x z h (chain_path c)

  spread_within : (n k m x : ℕ) → x < 64 → n + k ≤ m → has x (spread n (λ a b. edge b a) (within k)) ≡ true → has x (within m) ≡ true
  unfolding spread within
  spread_within zero k m x h l e = within_mono k m x h (omega arith) e
  spread_within (suc n) k m x h l e = by_cases (eqb (grow (λ a b. edge b a) (within k)) (within k))
      (λ q. within_mono k m x h (omega arith) (rw (q, spread) at e))
      (λ q. spread_within n (suc k) m x h (omega arith) (rw (q, spread) at e))

  -- and a number from which z is reached is within 63 edges
  pub reached_within : (x : ℕ) → x < 64 → has z (reached edge x) ≡ true → has x (within most_rounds) ≡ true
  unfolding reached within
  reached_within x h e = spread_within most_rounds 0 most_rounds x h (omega arith)
      (path_reached (λ a b. edge b a) (λ a b q. ((low b a q).1, (low b a q).0)) z x hz (turn (λ a b. edge b a) (reached_path edge x z hz e)))
