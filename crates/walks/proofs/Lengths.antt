-- How long chains are: a walk has a number for each layer, and there are at most 63. Assumes nothing.
use mathlib.Core.Path.{◌≡◌, refl, ap, subst⁻¹}
use mathlib.Core.Bool.{Bool, ◌&&◌}
use mathlib.Core.List.{List, [], ◌∷◌}
use Prim.Native.Nat.{ℕ, zero, suc, ◌+◌, ◌≤◌}
use native.Mathlib.Omega.{arith}
use lib.ListN.{length, replicate}
use Rattle.mask.specs.Sets.{has, any_below}
use Rattle.mask.proofs.Tests.{by_cases}
use Rattle.table.specs.Lists.{tabulate, padded}
use Rattle.relation.specs.Closure.{grow}
use Rattle.walks.specs.Chains.{layers_to, next_of, walk_down, least_chain}

-- at most 63 -----------------------------------------------------------------------------------
pub walk_long : (edge : ℕ → ℕ → Bool) (x : ℕ) (l : List ℕ) → length (walk_down edge x l) ≡ length l
unfolding walk_down
walk_long edge x [] = refl
walk_long edge x (s ∷ below) = ap suc (walk_long edge (next_of edge x s) below)

layers_long : (n : ℕ) (edge : ℕ → ℕ → Bool) (x s m : ℕ) (below : List ℕ) → length below + suc n ≤ m → length (layers_to n edge x s below) ≤ m
unfolding layers_to
layers_long zero edge x s m below h = omega (arith, h)
layers_long (suc n) edge x s m below h = by_cases (any_below 64 (λ y. has y s && edge x y))
    (λ e. rw (e, layers_to) (omega (arith, h)))
    (λ e. rw (e, layers_to) (layers_long n edge x (grow (λ a b. edge b a) s) m (s ∷ below) (omega (arith, h))))

pub least_long : (edge : ℕ → ℕ → Bool) (x z : ℕ) → length (least_chain edge x z) ≤ 63
unfolding least_chain
least_long edge x z = subst⁻¹ (λ (n : ℕ). n ≤ 63) (walk_long _ _ _) (layers_long 62 _ _ _ 63 [] (omega arith))

pub none_padded : replicate {A = ℕ} 63 0 ≡ padded 63 0 []
unfolding padded tabulate
none_padded = refl
