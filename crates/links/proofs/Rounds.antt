-- Edges that agree between numbers below 64 reach the same numbers, round by round and in as many of them, so reach over a holding's words
-- is reach over its links. Assumes nothing.
use mathlib.Core.Path.{◌≡◌, refl, ◌∙◌, ap, ap₂}
use mathlib.Core.Bool.{Bool, true, false, ◌&&◌, ◌||◌}
use Prim.Native.Nat.{ℕ, zero, suc, ◌<◌}
use lib.Dec.{eqb}
use Rattle.mask.specs.Sets.{has}
use Rattle.mask.proofs.Below.{any_ext}
use Rattle.mask.proofs.Bits.{bits_same}
use Rattle.relation.specs.Relation.{Holding}
use Rattle.relation.specs.Closure.{link, grow, spread, only, most_rounds, reached}
use Rattle.links.specs.Links.{link_words, word_edge}
use Rattle.links.specs.Rounds.{adding_from}
use Rattle.links.specs.Helpers.{spread_of}
use Rattle.links.proofs.Edges.{links_are_edges}

module _ (e f : ℕ → ℕ → Bool) (same : (x y : ℕ) → x < 64 → y < 64 → e x y ≡ f x y) where
  grow_same : (s : ℕ) → grow e s ≡ grow f s
  unfolding grow
  grow_same s = bits_same 64 _ _ (λ y hy. ap (λ (t : Bool). has y s || t)
      (any_ext 64 _ _ (λ x hx. ap (λ (t : Bool). has x s && t) (same x y hx hy))))

  spread_same : (n s : ℕ) → spread n e s ≡ spread n f s
  unfolding spread
  spread_same zero s = refl
  spread_same (suc n) s =
      ap (λ (m : ℕ). elim (eqb m s) as (λ b. ℕ) [ true ↦ s | false ↦ spread n e m ]) (grow_same s)
      ∙ ap (λ (m : ℕ). elim (eqb (grow f s) s) as (λ b. ℕ) [ true ↦ s | false ↦ m ]) (spread_same n (grow f s))

  pub reached_same : (x : ℕ) → reached e x ≡ reached f x
  unfolding reached
  reached_same x = spread_same most_rounds (only x)

  adding_same : (n s r : ℕ) → adding_from n e s r ≡ adding_from n f s r
  unfolding adding_from
  adding_same zero s r = refl
  adding_same (suc n) s r = ap (λ (m : ℕ). elim (eqb r s) as (λ b. ℕ) [ true ↦ 0 | false ↦ suc m ])
      (ap (adding_from n e r) (grow_same r) ∙ adding_same n r (grow f r))

-- The theorems. In plain words: one round over the words of a holding is one round over its links; what is reached over the words is
-- what is reached over the links, in as many rounds
pub round_links : (h : Holding) (s : ℕ) → grow (word_edge (link_words h)) s ≡ grow (link h) s
round_links h = grow_same (word_edge (link_words h)) (link h) (links_are_edges h)

pub reach_links : (h : Holding) (x : ℕ) → reached (word_edge (link_words h)) x ≡ reached (link h) x
reach_links h = reached_same (word_edge (link_words h)) (link h) (links_are_edges h)

pub spread_links : (h : Holding) (x : ℕ) → spread_of (word_edge (link_words h)) x ≡ spread_of (link h) x
unfolding spread_of
spread_links h x = ap₂ (λ (s r : ℕ). record { set = s; rounds = r }) (reach_links h x)
    (ap (adding_from most_rounds (word_edge (link_words h)) (only x)) (round_links h (only x))
    ∙ adding_same (word_edge (link_words h)) (link h) (links_are_edges h) most_rounds (only x) (grow (link h) (only x)))
