-- "Every number below n" and "some number below n" as tests, and what they say. Assumes nothing.
use mathlib.Core.Path.{◌≡◌, refl, sym, ◌∙◌}
use mathlib.Core.Bool.{Bool, true, false, ◌||◌, false≢true}
use Prim.Native.Nat.{ℕ, zero, suc, ◌+◌, ◌<◌}
use native.Mathlib.Omega.{arith}
use Rattle.mask.specs.Sets.{all_below, any_below}
use Rattle.mask.proofs.Tests.{by_cases, by_eq, clash, bool_ext, or_cases, or_left, or_right, or_false}

pub all_at : (n : ℕ) (p : ℕ → Bool) → all_below n p ≡ true → (i : ℕ) → i < n → p i ≡ true
unfolding all_below
all_at zero p e i h = absurd (omega arith)
all_at (suc n) p e i h = by_cases (p n)
    (λ f. by_eq i n (λ q. rw q f) (λ q. all_at n p (rw (f, all_below) at e) i (omega arith)))
    (λ f. absurd (false≢true (rw (f, all_below) at e)))

pub all_intro : (n : ℕ) (p : ℕ → Bool) → ((i : ℕ) → i < n → p i ≡ true) → all_below n p ≡ true
unfolding all_below
all_intro zero p f = refl
all_intro (suc n) p f = rw (f n (omega arith), all_below) (all_intro n p (λ i h. f i (omega arith)))

pub all_more : (n : ℕ) (p : ℕ → Bool) → all_below n p ≡ true → p n ≡ true → all_below (n + 1) p ≡ true
all_more n p e f = all_intro (n + 1) p (λ i h. by_eq i n (λ q. rw q f) (λ q. all_at n p e i (omega arith)))

pub all_none : (p : ℕ → Bool) → all_below 0 p ≡ true
all_none p = all_intro 0 p (λ i h. absurd (omega arith))

pub all_fails : (n : ℕ) (p : ℕ → Bool) (i : ℕ) → i < n → p i ≡ false → all_below n p ≡ false
all_fails n p i h e = by_cases (all_below n p) (λ f. clash (all_at n p f i h) e) (λ f. f)

pub all_ext : (n : ℕ) (p q : ℕ → Bool) → ((i : ℕ) → i < n → p i ≡ q i) → all_below n p ≡ all_below n q
all_ext n p q f = bool_ext (all_below n p) (all_below n q)
    (λ e. all_intro n q (λ i h. sym (f i h) ∙ all_at n p e i h))
    (λ e. all_intro n p (λ i h. f i h ∙ all_at n q e i h))

pub any_intro : (n : ℕ) (p : ℕ → Bool) (i : ℕ) → i < n → p i ≡ true → any_below n p ≡ true
unfolding any_below
any_intro zero p i h e = absurd (omega arith)
any_intro (suc n) p i h e = by_cases (p n)
    (λ f. rw (f, any_below) refl)
    (λ f. rw (f, any_below) (any_intro n p i (by_eq i n (λ q. clash e (rw q f)) (λ q. omega arith)) e))

pub any_elim : {P : Type 0} (n : ℕ) (p : ℕ → Bool) → any_below n p ≡ true → ((i : ℕ) → i < n → p i ≡ true → P) → P
unfolding any_below
any_elim zero p e k = absurd (false≢true e)
any_elim (suc n) p e k = by_cases (p n)
    (λ f. k n (omega arith) f)
    (λ f. any_elim n p (rw (f, any_below) at e) (λ i h. k i (omega arith)))

pub any_none : (n : ℕ) (p : ℕ → Bool) → any_below n p ≡ false → (i : ℕ) → i < n → p i ≡ false
any_none n p e i h = by_cases (p i) (λ f. clash (any_intro n p i h f) e) (λ f. f)

pub any_last : (n : ℕ) (p : ℕ → Bool) → any_below (suc n) p ≡ (any_below n p || p n)
unfolding any_below
any_last n p = by_cases (p n)
    (λ e. rw (e, any_below) (sym (or_right (any_below n p) true refl)))
    (λ e. rw (e, any_below) (sym (or_false (any_below n p))))

pub any_first : (n : ℕ) (p : ℕ → Bool) → any_below (suc n) p ≡ (p 0 || any_below n (λ k. p (suc k)))
any_first n p = bool_ext (any_below (suc n) p) (p 0 || any_below n (λ k. p (suc k)))
    (λ e. any_elim (suc n) p e (at_first))
    (λ e. or_cases (p 0) (any_below n (λ k. p (suc k))) e
    (λ f. any_intro (suc n) p 0 (omega arith) f)
    (λ f. any_elim n (λ k. p (suc k)) f (λ i h g. any_intro (suc n) p (suc i) (omega arith) g)))
  where
    at_first : (i : ℕ) → i < suc n → p i ≡ true → (p 0 || any_below n (λ k. p (suc k))) ≡ true
    at_first zero h f = or_left (p 0) _ f
    at_first (suc i) h f = or_right (p 0) _ (any_intro n (λ k. p (suc k)) i (omega arith) f)

pub any_ext : (n : ℕ) (p q : ℕ → Bool) → ((i : ℕ) → i < n → p i ≡ q i) → any_below n p ≡ any_below n q
any_ext n p q f = bool_ext (any_below n p) (any_below n q)
    (λ e. any_elim n p e (λ i h g. any_intro n q i h (sym (f i h) ∙ g)))
    (λ e. any_elim n q e (λ i h g. any_intro n p i h (f i h ∙ g)))
