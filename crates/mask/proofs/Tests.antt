-- Cases and laws of tests that compute: a Bool with its equation, equality of numbers, and, or, not.
-- Every proof of the project takes its cases from here. Assumes nothing.
use mathlib.Core.Path.{◌≡◌, refl, sym, ◌∙◌, ap}
use mathlib.Core.Logic.{◌≢◌}
use mathlib.Core.Bool.{Bool, true, false, not, ◌&&◌, ◌||◌, true≢false, false≢true}
use Prim.Native.Nat.{ℕ}
use lib.Dec.{eqb}
use borrow.Author.Tests.{eqb-true, eqb-false}

-- cases on a test, with its equation
pub by_cases {ℓ} : {P : Type ℓ} (b : Bool) → (b ≡ true → P) → (b ≡ false → P) → P
by_cases true f g = f refl
by_cases false f g = g refl

-- cases on equality of two numbers
pub by_eq {ℓ} : {P : Type ℓ} (m n : ℕ) → (m ≡ n → P) → (m ≢ n → P) → P
by_eq m n f g = by_cases (eqb m n) (λ e. f (eqb-true m n e)) (λ e. g (eqb-false m n e))

-- no test answers both ways
pub clash {ℓ} : {P : Type ℓ} {b : Bool} → b ≡ true → b ≡ false → P
clash e f = absurd (true≢false (sym e ∙ f))

-- two tests that hold together are one
pub bool_ext : (a b : Bool) → (a ≡ true → b ≡ true) → (b ≡ true → a ≡ true) → a ≡ b
bool_ext true b f g = sym (f refl)
bool_ext false true f g = absurd (false≢true (g refl))
bool_ext false false f g = refl

pub and_true : (a b : Bool) → (a && b) ≡ true → (a ≡ true) × (b ≡ true)
and_true true b e = (refl, e)
and_true false b e = absurd (false≢true e)

pub and_intro : (a b : Bool) → a ≡ true → b ≡ true → (a && b) ≡ true
and_intro a b p q = rw p q

pub and_false : (b : Bool) → (b && false) ≡ false
and_false true = refl
and_false false = refl

pub or_cases {ℓ} : {P : Type ℓ} (a b : Bool) → (a || b) ≡ true → (a ≡ true → P) → (b ≡ true → P) → P
or_cases true b e f g = f refl
or_cases false b e f g = g e

pub or_left : (a b : Bool) → a ≡ true → (a || b) ≡ true
or_left a b p = rw p refl

pub or_right : (a b : Bool) → b ≡ true → (a || b) ≡ true
or_right true b p = refl
or_right false b p = p

pub or_none : (a b : Bool) → (a || b) ≡ false → (a ≡ false) × (b ≡ false)
or_none true b e = absurd (true≢false e)
or_none false b e = (refl, e)

pub or_swap : (a b : Bool) → (a || b) ≡ true → (b || a) ≡ true
or_swap a b e = or_cases a b e (or_right b a) (or_left b a)

pub or_false : (a : Bool) → (a || false) ≡ a
or_false true = refl
or_false false = refl

pub or_assoc : (a b c : Bool) → ((a || b) || c) ≡ (a || (b || c))
or_assoc true b c = refl
or_assoc false b c = refl

-- an implication as a test, both ways
pub imply_intro : (a b : Bool) → (a ≡ true → b ≡ true) → (not a || b) ≡ true
imply_intro true b f = f refl
imply_intro false b f = refl

pub imply_use : (a b : Bool) → (not a || b) ≡ true → a ≡ true → b ≡ true
imply_use true b e h = e
imply_use false b e h = absurd (false≢true h)

-- two tests that never hold together, both ways
pub apart_use : (a b : Bool) → not (a && b) ≡ true → a ≡ true → b ≡ false
apart_use true true e h = absurd (false≢true e)
apart_use true false e h = refl
apart_use false b e h = absurd (false≢true h)

pub apart_intro : (a b : Bool) → (a ≡ true → b ≡ false) → not (a && b) ≡ true
apart_intro true b f = ap not (f refl)
apart_intro false b f = refl

-- in a and not in b, denied, is the implication
pub not_less : (a b : Bool) → not (a && not b) ≡ (not a || b)
not_less true true = refl
not_less true false = refl
not_less false b = refl

-- a test on equality of tests
abbrev pub same : Bool → Bool → Bool
same true b = b
same false b = not b

pub same_eq : (a b : Bool) → same a b ≡ true → a ≡ b
same_eq true b e = sym e
same_eq false true e = absurd (false≢true e)
same_eq false false e = refl
