-- What the loops of one round and of all rounds keep: the numbers found so far; what the rounds that are left reach, and how many of them
-- add something. Assumes nothing.
use mathlib.Core.Path.{◌≡◌, sym, ◌∙◌, ap, ap₂}
use mathlib.Core.Logic.{◌≢◌}
use mathlib.Core.Bool.{Bool, true, false, ◌&&◌, ◌||◌}
use Prim.Native.Nat.{ℕ, suc, ◌+◌, ◌-◌, ◌^◌, ◌≤◌, ◌<◌}
use native.Mathlib.Numerals.{add-one}
use native.Mathlib.Omega.{arith}
use lib.Dec.{eqb}
use borrow.Author.Tests.{eq-eqb, ne_eqb}
use Rattle.mask.specs.Sets.{has, bits, any_below, including, union_of}
use Rattle.mask.proofs.Tests.{or_false, or_assoc}
use Rattle.mask.proofs.Below.{any_last}
use Rattle.mask.proofs.Bits.{has_bits, bits_lt, bits_same, as_bits, has_zero}
use Rattle.relation.specs.Closure.{grow, spread, only, most_rounds, reached}
use Rattle.links.specs.Rounds.{adding_from}
use Rattle.links.specs.Helpers.{spread_of}

-- one round, by a loop over the numbers that are there --------------------------------
module _ (edge : ℕ → ℕ → Bool) (s : ℕ) where
  -- what is there, and what is one edge from a number below n of it
  unfoldable pub grown_to : ℕ → ℕ
  grown_to n = bits 64 (λ y. has y s || any_below n (λ x. has x s && edge x y))

  pub grown_none : s < 2 ^ 64 → s ≡ grown_to 0
  unfolding grown_to any_below
  grown_none low = as_bits 64 s _ low (λ y hy. sym (or_false (has y s)))

  grown_next : (n : ℕ) → bits 64 (λ y. has y (grown_to n) || (has n s && edge n y)) ≡ grown_to (n + 1)
  unfolding grown_to
  grown_next n = rw add-one (bits_same 64 _ _ (λ y hy.
      ap (λ (t : Bool). t || (has n s && edge n y)) (has_bits 64 y (λ z. has z s || any_below n (λ x. has x s && edge x z)) hy)
      ∙ or_assoc (has y s) _ _ ∙ ap (λ (t : Bool). has y s || t) (sym (any_last n _))))

  -- the edges from n are those that a word has
  pub grown_on : (n word : ℕ) → ((y : ℕ) → has y word ≡ edge n y) → has n s ≡ true → union_of (grown_to n) word ≡ grown_to (n + 1)
  unfolding union_of
  grown_on n word w e = bits_same 64 _ _ (λ y hy.
      ap (λ (t : Bool). has y (grown_to n) || t) (w y ∙ ap (λ (t : Bool). t && edge n y) (sym e))) ∙ grown_next n

  pub grown_off : (n : ℕ) → has n s ≡ false → grown_to n ≡ grown_to (n + 1)
  unfolding grown_to
  grown_off n e = as_bits 64 (grown_to n) _ (bits_lt 64 _)
      (λ y hy. sym (or_false (has y (grown_to n))) ∙ ap (λ (t : Bool). has y (grown_to n) || (t && edge n y)) (sym e)) ∙ grown_next n

  pub grown_all : (n : ℕ) → 64 ≤ n → n ≤ 64 → grown_to n ≡ grow edge s
  unfolding grown_to grow
  grown_all n h l = let e : n ≡ 64 = omega arith in ap grown_to e

-- x alone ----------------------------------------------------------------------------------
pub only_low : (x : ℕ) → including x 0 ≡ only x
unfolding including only
only_low x = bits_same 64 _ _ (λ y hy. ap (λ (t : Bool). t || eqb y x) (has_zero y))

pub only_high : (x : ℕ) → 64 ≤ x → 0 ≡ only x
unfolding only
only_high x h = as_bits 64 0 _ (omega arith) (λ y hy. has_zero y ∙ sym (ne_eqb y x (λ e. omega arith)))

-- all rounds, by a loop that counts them and stops where one adds nothing -------------------------
module _ (edge : ℕ → ℕ → Bool) (x : ℕ) where
  -- the rounds that are left after k, from s: what they reach, and how many of them add something
  pub record Going (s k : ℕ) : Type 0 where
    pub reaches : spread (most_rounds - k) edge s ≡ (spread_of edge x).set
    pub adds : k + adding_from (most_rounds - k) edge s (grow edge s) ≡ (spread_of edge x).rounds

  pub going_none : (s : ℕ) → s ≡ only x → Going s 0
  unfolding reached spread_of
  going_none s e = record {
    reaches = ap (spread most_rounds edge) e;
    adds = omega (arith, ap (λ (i : ℕ). adding_from most_rounds edge i (grow edge i)) e);
  }

  pub going_more : (s t k : ℕ) → k < most_rounds → t ≡ grow edge s → t ≢ s → Going s k → Going t (k + 1)
  unfolding spread adding_from
  going_more s t k h e n p =
      let left : most_rounds - k ≡ suc (most_rounds - (k + 1)) = omega arith in
      let new = ne_eqb (grow edge s) s (λ q. n (e ∙ q)) in
      record {
        reaches = rw e (rw (new, spread) at (rw left at p.reaches));
        adds = rw e (omega (arith, rw (new, adding_from) at (rw left at p.adds)));
      }

  spread_is : (s k : ℕ) → s ≡ (spread_of edge x).set → k ≡ (spread_of edge x).rounds → record { set = s; rounds = k } ≡ spread_of edge x
  unfolding spread_of
  spread_is s k p q = ap₂ (λ (i j : ℕ). record { set = i; rounds = j }) p q

  pub going_still : (s t k : ℕ) → k < most_rounds → t ≡ grow edge s → t ≡ s → Going s k → record { set = s; rounds = k } ≡ spread_of edge x
  unfolding spread adding_from
  going_still s t k h e q p =
      let left : most_rounds - k ≡ suc (most_rounds - (k + 1)) = omega arith in
      let none = eq-eqb (grow edge s) s (sym e ∙ q) in
      spread_is s k (rw (none, spread) at (rw left at p.reaches)) (omega (arith, rw (none, adding_from) at (rw left at p.adds)))

  pub going_end : (s k : ℕ) → most_rounds ≤ k → Going s k → record { set = s; rounds = k } ≡ spread_of edge x
  unfolding spread adding_from
  going_end s k h p =
      let left : most_rounds - k ≡ 0 = omega arith in
      spread_is s k (rw left at p.reaches) (omega (arith, rw left at p.adds))
