-- Rounds that look at what the round before added, and at nothing else: as every edge from the rest was taken, they are the rounds that look
-- at all that is there. Assumes nothing.
use mathlib.Core.Path.{◌≡◌, sym, ◌∙◌, ap, subst, subst⁻¹}
use mathlib.Core.Logic.{◌≢◌}
use mathlib.Core.Bool.{Bool, true, false, not, ◌&&◌}
use Prim.Native.Nat.{ℕ, ◌+◌, ◌^◌, ◌≤◌, ◌<◌}
use Rattle.mask.specs.Sets.{has, any_below, union_of, less_of}
use Rattle.mask.proofs.Tests.{by_cases, clash, bool_ext, and_true, and_intro, or_cases, or_left, or_right}
use Rattle.mask.proofs.Below.{any_intro, any_elim}
use Rattle.mask.proofs.Bits.{has_bits, has_union, has_less, bits_lt, bits_ext}
use Rattle.relation.specs.Closure.{grow, only, most_rounds}
use Rattle.relation.proofs.Reach.{has_grow, grow_lt}
use Rattle.links.specs.Helpers.{spread_of}
use Rattle.links.proofs.Walks.{Going, going_none, going_more, going_still, going_end}
use Rattle.sweeps.specs.Helpers.{near_of}

module _ (edge : ℕ → ℕ → Bool) where
  pub has_near : (s y : ℕ) → y < 64 → has y (near_of edge s) ≡ any_below 64 (λ x. has x s && edge x y)
  unfolding near_of
  has_near s y h = has_bits 64 y (λ z. any_below 64 (λ x. has x s && edge x z)) h

  -- before a round: what is there, what of it is fresh; every edge from the rest leads to what is there
  pub record Fronting (x s fresh k : ℕ) : Type 0 where
    pub going : Going edge x s k
    pub within : (u : ℕ) → u < 64 → has u fresh ≡ true → has u s ≡ true
    pub taken : (u v : ℕ) → u < 64 → v < 64 → has u s ≡ true → has u fresh ≡ false → edge u v ≡ true → has v s ≡ true

  pub front_none : (x s : ℕ) → s ≡ only x → Fronting x s s 0
  front_none x s e = record { going = going_none edge x s e; within = λ u h p. p; taken = λ u v hu hv p q r. clash p q }

  module _ (x s fresh found next k : ℕ) (p : Fronting x s fresh k) (h : k < most_rounds) (f : found ≡ near_of edge fresh)
      (n : next ≡ union_of s found) where
    low : next < 2 ^ 64
    unfolding union_of
    low = subst⁻¹ (λ (m : ℕ). m < 2 ^ 64) n (bits_lt 64 _)

    has_next : (y : ℕ) → y < 64 → {P : Type 0} → has y next ≡ true → (has y s ≡ true → P) → (has y found ≡ true → P) → P
    has_next y hy e = or_cases (has y s) (has y found) (sym (has_union y s found hy) ∙ subst (λ (m : ℕ). has y m ≡ true) n e)

    next_left : (y : ℕ) → y < 64 → has y s ≡ true → has y next ≡ true
    next_left y hy e = subst⁻¹ (λ (m : ℕ). has y m ≡ true) n (has_union y s found hy ∙ or_left (has y s) _ e)

    next_right : (y : ℕ) → y < 64 → has y found ≡ true → has y next ≡ true
    next_right y hy e = subst⁻¹ (λ (m : ℕ). has y m ≡ true) n (has_union y s found hy ∙ or_right (has y s) _ e)

    found_from : (x y : ℕ) → x < 64 → y < 64 → has x fresh ≡ true → edge x y ≡ true → has y found ≡ true
    found_from x y hx hy e g = subst⁻¹ (λ (m : ℕ). has y m ≡ true) f (has_near fresh y hy ∙ any_intro 64 _ x hx (and_intro _ _ e g))

    -- what is there and what was found is one round more
    round : next ≡ grow edge s
    round = bits_ext 64 next (grow edge s) low (grow_lt edge s) (λ y hy. bool_ext _ _
        (λ e. has_grow edge s y hy ∙ has_next y hy e
        (λ q. or_left (has y s) _ q)
        (λ q. or_right (has y s) _ (any_elim 64 _ (sym (has_near fresh y hy) ∙ subst (λ (m : ℕ). has y m ≡ true) f q)
        (λ u hu b. let c = and_true (has u fresh) (edge u y) b in
        any_intro 64 (λ z. has z s && edge z y) u hu (and_intro _ _ (p.within u hu c.0) c.1)))))
        (λ e. or_cases (has y s) _ (sym (has_grow edge s y hy) ∙ e)
        (next_left y hy)
        (λ q. any_elim 64 _ q (λ u hu b. let c = and_true (has u s) (edge u y) b in by_cases (has u fresh)
        (λ o. next_right y hy (found_from u y hu hy o c.1))
        (λ o. next_left y hy (p.taken u y hu hy c.0 o c.1))))))

    pub front_still : next ≡ s → record { set = s; rounds = k } ≡ spread_of edge x
    front_still q = going_still edge x s next k h round q p.going

    pub front_more : (added : ℕ) → added ≡ less_of found s → next ≢ s → Fronting x next added (k + 1)
    front_more added a ne = record {
      going = going_more edge x s next k h round ne p.going;
      within = λ u hu e. next_right u hu (and_true (has u found) _ (sym (has_less u found s hu) ∙ subst (λ (m : ℕ). has u m ≡ true) a e)).0;
      taken = λ u v hu hv e o r. subst⁻¹ (λ (m : ℕ). has v m ≡ true) round (has_grow edge s v hv ∙ or_right (has v s) _
          (any_intro 64 (λ z. has z s && edge z v) u hu (and_intro _ _ (old u hu e o) r)));
    }
      where
        old : (u : ℕ) → u < 64 → has u next ≡ true → has u added ≡ false → has u s ≡ true
        old u hu e o = by_cases (has u s) (λ q. q) (λ q. has_next u hu e (λ z. z)
            (λ z. clash (subst⁻¹ (λ (m : ℕ). has u m ≡ true) a (has_less u found s hu ∙ and_intro (has u found) (not (has u s)) z (ap not q))) o))

  pub front_end : (x s fresh k : ℕ) → most_rounds ≤ k → Fronting x s fresh k → record { set = s; rounds = k } ≡ spread_of edge x
  front_end x s fresh k h p = going_end edge x s k h p.going
