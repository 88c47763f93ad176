-- The reachability kernel: what `reached` computes is exactly what paths of edges reach, for every graph on the numbers
-- below 64. A round that changes something adds a number, and there are 64. Assumes nothing.
use mathlib.Core.Path.{◌≡◌, refl, sym, ◌∙◌, subst, subst⁻¹}
use mathlib.Core.Logic.{◌≢◌}
use mathlib.Core.Bool.{Bool, true, false, not, ◌&&◌, ◌||◌}
use Prim.Native.Nat.{ℕ, zero, suc, ◌+◌, ◌^◌, ◌≤◌, ◌<◌}
use native.Mathlib.Omega.{arith}
use lib.Dec.{eqb}
use borrow.Author.Tests.{eqb-true, eq-eqb, ne_eqb, not-true}
use Rattle.mask.specs.Sets.{has, bit_of, any_below}
use Rattle.mask.proofs.Tests.{by_cases, by_eq, clash, and_true, and_intro, or_cases, or_left, or_right, bool_ext}
use Rattle.mask.proofs.Below.{any_intro, any_elim}
use Rattle.mask.proofs.Bits.{has_bits, bits_lt, bits_ext}
use Rattle.relation.specs.Closure.{grow, spread, only, most_rounds, reached}
use Rattle.relation.specs.Helpers.{count}

-- a path of edges
pub data Path (edge : ℕ → ℕ → Bool) : ℕ → ℕ → Type 0 where
  stay : {x : ℕ} → Path edge x x
  step : {x y z : ℕ} → Path edge x y → edge y z ≡ true → Path edge x z

pub join : {edge : ℕ → ℕ → Bool} {x y z : ℕ} → Path edge x y → Path edge y z → Path edge x z
join p stay = p
join p (step q h) = step (join p q) h

-- a path taken back
pub turn : (edge : ℕ → ℕ → Bool) {x y : ℕ} → Path (λ a b. edge b a) x y → Path edge y x
turn edge stay = stay
turn edge (step p q) = join (step stay q) (turn edge p)

-- a path from x in a graph that has all edges of this one but for those into x
pub path_into : (edge other : ℕ → ℕ → Bool) (x : ℕ) → ((u v : ℕ) → v ≢ x → edge u v ≡ true → other u v ≡ true) → {y : ℕ} → Path edge x y → Path other x y
path_into edge other x f stay = stay
path_into edge other x f (step {y = u} {z = v} p e) = by_eq v x
    (λ q. subst⁻¹ (λ (w : ℕ). Path other x w) q stay)
    (λ q. step (path_into edge other x f p) (f u v q e))

-- how many numbers a set has --------------------------------------------------
pub count_high : (n s : ℕ) → count n s ≤ n
unfolding count
count_high zero s = omega arith
count_high (suc n) s = by_cases (has n s) (λ h. rw h (omega (arith, count_high n s))) (λ h. rw h (omega (arith, count_high n s)))

count_bit : (a b : Bool) → (a ≡ true → b ≡ true) → bit_of a ≤ bit_of b
count_bit true b f = rw (f refl) (omega arith)
count_bit false b f = omega arith

count_le : (n s t : ℕ) → ((k : ℕ) → k < n → has k s ≡ true → has k t ≡ true) → count n s ≤ count n t
unfolding count
count_le zero s t f = omega arith
count_le (suc n) s t f = omega (arith, count_le n s t (λ k h. f k (omega arith)), count_bit (has n s) (has n t) (f n (omega arith)))

pub count_lt : (n s t j : ℕ) → ((k : ℕ) → k < n → has k s ≡ true → has k t ≡ true) → j < n → has j s ≡ false → has j t ≡ true → count n s < count n t
unfolding count
count_lt zero s t j f h a b = absurd (omega arith)
count_lt (suc n) s t j f h a b = by_eq j n
    (λ q. let a' : has n s ≡ false = rw q at a in let b' : has n t ≡ true = rw q at b in
    rw (a', b') (omega (arith, count_le n s t (λ k l. f k (omega arith)))))
    (λ q. omega (arith, count_lt n s t j (λ k l. f k (omega arith)) (omega arith) a b, count_bit (has n s) (has n t) (f n (omega arith))))

pub count_pos : (n s j : ℕ) → j < n → has j s ≡ true → 1 ≤ count n s
unfolding count
count_pos zero s j h e = absurd (omega arith)
count_pos (suc n) s j h e = by_eq j n
    (λ q. let f : has n s ≡ true = rw q at e in rw f (omega arith))
    (λ q. omega (arith, count_pos n s j (omega arith) e))

-- a larger set that is another has a number that was not there, and so one more
pub new_number : {P : Type 0} (s t : ℕ) → s < 2 ^ 64 → t < 2 ^ 64 → ((k : ℕ) → k < 64 → has k s ≡ true → has k t ≡ true) → t ≢ s
    → ((j : ℕ) → j < 64 → has j s ≡ false → has j t ≡ true → P) → P
new_number s t hs ht keeps ne f = by_cases (any_below 64 (λ k. not (has k s) && has k t))
    (λ a. any_elim 64 _ a (λ j h b.
    let p = and_true (not (has j s)) (has j t) b in
    f j h (not-true (has j s) p.0) p.1))
    (λ a. absurd (ne (bits_ext 64 _ _ ht hs (λ k h. bool_ext _ _
    (λ b. by_cases (has k s) (λ q. q) (λ q. clash (any_intro 64 _ k h (rw (q, b) refl)) a))
    (keeps k h)))))

pub count_more : (s t : ℕ) → s < 2 ^ 64 → t < 2 ^ 64 → ((k : ℕ) → k < 64 → has k s ≡ true → has k t ≡ true) → t ≢ s → count 64 s < count 64 t
count_more s t hs ht keeps ne = new_number s t hs ht keeps ne (λ j h a b. count_lt 64 s t j keeps h a b)

-- a set that lacks a number does not have them all
pub count_without : (n s j : ℕ) → j < n → has j s ≡ false → count n s < n
unfolding count
count_without zero s j h e = absurd (omega arith)
count_without (suc n) s j h e = by_eq j n
    (λ q. let f : has n s ≡ false = rw q at e in rw f (omega (arith, count_high n s)))
    (λ q. by_cases (has n s) (λ b. rw b (omega (arith, count_without n s j (omega arith) e))) (λ b. rw b (omega (arith, count_high n s))))

module _ (edge : ℕ → ℕ → Bool) where
  -- one round ------------------------------------------------------------------
  pub has_grow : (s y : ℕ) → y < 64 → has y (grow edge s) ≡ (has y s || any_below 64 (λ x. has x s && edge x y))
  unfolding grow
  has_grow s y h = has_bits 64 y (λ k. has k s || any_below 64 (λ x. has x s && edge x k)) h

  pub grow_lt : (s : ℕ) → grow edge s < 2 ^ 64
  unfolding grow
  grow_lt s = bits_lt 64 _

  grow_keeps : (s y : ℕ) → y < 64 → has y s ≡ true → has y (grow edge s) ≡ true
  grow_keeps s y h a = has_grow s y h ∙ or_left (has y s) _ a

  grow_adds : (s x y : ℕ) → x < 64 → y < 64 → has x s ≡ true → edge x y ≡ true → has y (grow edge s) ≡ true
  grow_adds s x y hx hy a b = has_grow s y hy ∙ or_right (has y s) _ (any_intro 64 _ x hx (and_intro _ _ a b))

  -- a round that changes something has one more
  pub grow_more : (s : ℕ) → s < 2 ^ 64 → grow edge s ≢ s → count 64 s < count 64 (grow edge s)
  grow_more s hs ne = count_more s (grow edge s) hs (grow_lt s) (grow_keeps s) ne

  -- all the rounds ---------------------------------------------------------------
  -- least: within whatever holds of the start and goes along the edges
  spread_least : (P : ℕ → Type 0) → ((x y : ℕ) → P x → edge x y ≡ true → P y)
      → (n s : ℕ) → ((y : ℕ) → y < 64 → has y s ≡ true → P y) → (y : ℕ) → y < 64 → has y (spread n edge s) ≡ true → P y
  unfolding spread
  spread_least P f zero s g y h a = g y h a
  spread_least P f (suc n) s g y h a = by_cases (eqb (grow edge s) s)
      (λ q. g y h (rw (q, spread) at a))
      (λ q. spread_least P f n (grow edge s) (λ z hz b. or_cases (has z s) _ (sym (has_grow s z hz) ∙ b)
      (g z hz)
      (λ c. any_elim 64 _ c (λ x hx d. let p = and_true (has x s) (edge x z) d in f x z (g x hx p.0) p.1)))
      y h (rw (q, spread) at a))

  spread_keeps : (n s y : ℕ) → y < 64 → has y s ≡ true → has y (spread n edge s) ≡ true
  unfolding spread
  spread_keeps zero s y h a = a
  spread_keeps (suc n) s y h a = by_cases (eqb (grow edge s) s)
      (λ q. rw (q, spread) a)
      (λ q. rw (q, spread) (spread_keeps n (grow edge s) y h (grow_keeps s y h a)))

  spread_closed : (n s : ℕ) → s < 2 ^ 64 → 64 ≤ n + count 64 s
      → (x y : ℕ) → x < 64 → y < 64 → has x (spread n edge s) ≡ true → edge x y ≡ true → has y (spread n edge s) ≡ true
  unfolding spread
  spread_closed zero s hs l x y hx hy a b = by_eq (grow edge s) s
      (λ q. subst (λ (t : ℕ). has y t ≡ true) q (grow_adds s x y hx hy a b))
      (λ q. absurd (omega (arith, grow_more s hs q, count_high 64 (grow edge s))))
  spread_closed (suc n) s hs l x y hx hy a b = by_eq (grow edge s) s
      (λ q. rw (eq-eqb _ _ q, spread) (subst (λ (t : ℕ). has y t ≡ true) q (grow_adds s x y hx hy (rw (eq-eqb _ _ q, spread) at a) b)))
      (λ q. rw (ne_eqb _ _ q, spread) (spread_closed n (grow edge s) (grow_lt s) (omega (arith, grow_more s hs q)) x y hx hy (rw (ne_eqb _ _ q, spread) at a) b))

  spread_lt : (n s : ℕ) → s < 2 ^ 64 → spread n edge s < 2 ^ 64
  unfolding spread
  spread_lt zero s h = h
  spread_lt (suc n) s h = by_cases (eqb (grow edge s) s) (λ q. rw (q, spread) h) (λ q. rw (q, spread) (spread_lt n (grow edge s) (grow_lt s)))

  -- from one number ----------------------------------------------------------------
  pub has_only : (x y : ℕ) → y < 64 → has y (only x) ≡ eqb y x
  unfolding only
  has_only x y h = has_bits 64 y (λ k. eqb k x) h

  pub only_lt : (x : ℕ) → only x < 2 ^ 64
  unfolding only
  only_lt x = bits_lt 64 _

  pub reached_lt : (x : ℕ) → reached edge x < 2 ^ 64
  unfolding reached
  reached_lt x = spread_lt most_rounds (only x) (only_lt x)

  pub reached_path : (x y : ℕ) → y < 64 → has y (reached edge x) ≡ true → Path edge x y
  unfolding reached
  reached_path x y h a = spread_least (Path edge x) (λ u v p q. step p q) most_rounds (only x)
      (λ z hz b. subst⁻¹ (λ (t : ℕ). Path edge x t) (eqb-true z x (sym (has_only x z hz) ∙ b)) stay) y h a

  has_start : (x : ℕ) → x < 64 → has x (only x) ≡ true
  has_start x h = has_only x x h ∙ eq-eqb x x refl

  start : (x : ℕ) → x < 64 → has x (reached edge x) ≡ true
  unfolding reached
  start x h = spread_keeps most_rounds (only x) x h (has_start x h)

  closed : (x y z : ℕ) → x < 64 → y < 64 → z < 64 → has y (reached edge x) ≡ true → edge y z ≡ true → has z (reached edge x) ≡ true
  unfolding reached
  closed x y z hx hy hz a b =
      spread_closed most_rounds (only x) (only_lt x) (omega (arith, count_pos 64 (only x) x hx (has_start x hx))) y z hy hz a b

  module _ (low : (x y : ℕ) → edge x y ≡ true → (x < 64) × (y < 64)) where
    pub path_reached : (x y : ℕ) → x < 64 → Path edge x y → has y (reached edge x) ≡ true
    path_reached x y h stay = start x h
    path_reached x y h (step {y = w} p q) = closed x w y h (low w y q).0 (low w y q).1 (path_reached x w h p) q
