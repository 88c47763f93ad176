-- What is reached: from two numbers that lead to each other it is the same; and a set that has x, has nothing that is not reached from x
-- and loses no edge is all that is reached from x. Assumes nothing.
use mathlib.Core.Path.{◌≡◌, ◌∙◌, ap}
use mathlib.Core.Bool.{Bool, true}
use mathlib.Core.List.{List}
use Prim.Native.Nat.{ℕ, ◌^◌, ◌<◌}
use native.Mathlib.Omega.{arith}
use lib.Dec.{ltb}
use lib.ListN.{length, get_or, get_or-eq_default}
use borrow.Author.Tests.{ltb-true, ltb-false}
use Rattle.mask.specs.Sets.{has}
use Rattle.mask.proofs.Tests.{by_cases, clash, bool_ext}
use Rattle.mask.proofs.Bits.{bits_ext, has_zero}
use Rattle.relation.specs.Closure.{reached}
use Rattle.relation.proofs.Reach.{Path, stay, step, join, reached_lt, reached_path, path_reached}
use Rattle.access.proofs.Marks.{has_low}
use Rattle.links.specs.Links.{word_edge}

-- edges of words are between numbers below 64
pub word_low : (words : List ℕ) → length words ≡ 64 → ((u : ℕ) → get_or words u 0 < 2 ^ 64) → (u v : ℕ) → word_edge words u v ≡ true → (u < 64) × (v < 64)
word_low words long fits u v e = (
  by_cases (ltb u 64) (ltb-true u 64) (λ l. clash e (ap (has v) (get_or-eq_default words 0 (omega (arith, ltb-false u 64 l, long))) ∙ has_zero v)),
  has_low (get_or words u 0) v (fits u) e,
)

module _ (edge : ℕ → ℕ → Bool) (low : (u v : ℕ) → edge u v ≡ true → (u < 64) × (v < 64)) where
  pub reach_start : (x : ℕ) → x < 64 → has x (reached edge x) ≡ true
  reach_start x h = path_reached edge low x x h stay

  pub reach_edge : (x v : ℕ) → edge x v ≡ true → has v (reached edge x) ≡ true
  reach_edge x v e = path_reached edge low x v (low x v e).0 (step stay e)

  pub reach_more : (x u v : ℕ) → x < 64 → u < 64 → has u (reached edge x) ≡ true → edge u v ≡ true → has v (reached edge x) ≡ true
  reach_more x u v hx hu p e = path_reached edge low x v hx (step (reached_path edge x u hu p) e)

  pub reach_on : (x u v : ℕ) → x < 64 → u < 64 → v < 64 → has u (reached edge x) ≡ true → has v (reached edge u) ≡ true → has v (reached edge x) ≡ true
  reach_on x u v hx hu hv p q = path_reached edge low x v hx (join (reached_path edge x u hu p) (reached_path edge u v hv q))

  -- whatever holds of x and goes along the edges holds of all that is reached
  along : (P : ℕ → Type 0) → ((u v : ℕ) → P u → edge u v ≡ true → P v) → {x v : ℕ} → P x → Path edge x v → P v
  along P f p stay = p
  along P f p (step {y = u} {z = v} q e) = f u v (along P f p q) e

  pub reach_keeps : (P : ℕ → Type 0) → ((u v : ℕ) → P u → edge u v ≡ true → P v) → (x v : ℕ) → v < 64 → P x → has v (reached edge x) ≡ true → P v
  reach_keeps P f x v hv p e = along P f p (reached_path edge x v hv e)

  pub reach_same : (x y : ℕ) → x < 64 → y < 64 → has y (reached edge x) ≡ true → has x (reached edge y) ≡ true → reached edge x ≡ reached edge y
  reach_same x y hx hy p q = bits_ext 64 _ _ (reached_lt edge x) (reached_lt edge y) (λ v hv. bool_ext _ _
      (reach_on y x v hy hx hv q) (reach_on x y v hx hy hv p))

  pub as_reached : (x s : ℕ) → s < 2 ^ 64 → has x s ≡ true → ((v : ℕ) → v < 64 → has v s ≡ true → has v (reached edge x) ≡ true)
      → ((u v : ℕ) → u < 64 → v < 64 → has u s ≡ true → edge u v ≡ true → has v s ≡ true) → s ≡ reached edge x
  as_reached x s l own from closed = bits_ext 64 s _ l (reached_lt edge x) (λ v hv. bool_ext _ _ (from v hv)
      (reach_keeps (λ u. has u s ≡ true) (λ u w p e. closed u w (low u w e).0 (low u w e).1 p e) x v hv own))
