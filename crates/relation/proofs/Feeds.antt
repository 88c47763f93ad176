-- Feeds of one word into another: what the code's straight lines come to, that words only grow, and that a pass which adds
-- nothing meets no rule that would. Assumes nothing.
use mathlib.Core.Path.{◌≡◌, refl, sym, ◌∙◌, ap, ap₂, subst, subst⁻¹}
use mathlib.Core.Bool.{Bool, true, false}
use mathlib.Core.List.{List, [], ◌∷◌}
use Prim.Native.Nat.{ℕ, zero, suc, ◌+◌, ◌*◌, ◌/◌, ◌%◌, ◌^◌, ◌≤◌, ◌<◌}
use native.Mathlib.Numerals.{add-one}
use native.Mathlib.Omega.{arith}
use lib.Dec.{ltb}
use lib.Bits.{bit_or, bit_and, and_mask, or_add_and, and_le_r}
use lib.ListN.{length, get_or, set}
use borrow.Author.Tests.{ltb-true, ltb-false, eq-eqb, ne_eqb}
use Rattle.mask.specs.Sets.{has}
use Rattle.mask.proofs.Tests.{by_cases, by_eq, or_none}
use Rattle.mask.proofs.Bits.{has_zero}
use Rattle.mask.proofs.Words.{has_or}
use Rattle.relation.specs.Relation.{rd, wr, wk, tx}
use Rattle.relation.specs.Helpers.{word_at, Feed, feed, feed_all, shares, via_read, via_weak, via_push, rules, held_over, row_pass, pass_of, AddsNothing, Full}

or_high : (a b : ℕ) → a ≤ bit_or a b
or_high a b = omega (arith, or_add_and a b, and_le_r a b)

-- the code's steps ------------------------------------------------------------------
pub feed_open : (r : List ℕ) (f : Feed) → has f.over (get_or r f.gate 0) ≡ true → feed r f ≡ set r f.dst (bit_or (get_or r f.dst 0) (get_or r f.src 0))
unfolding feed
feed_open r f e = rw (e, feed) refl

pub feed_shut : (r : List ℕ) (f : Feed) → has f.over (get_or r f.gate 0) ≡ false → feed r f ≡ r
unfolding feed
feed_shut r f e = rw (e, feed) refl

pub bit_set : (m y : ℕ) → bit_and (m / 2 ^ y) 1 ≡ 1 → has y m ≡ true
bit_set m y e = eq-eqb _ 1 (sym (and_mask (m / 2 ^ y) 1) ∙ e)

pub bit_clear : (m y : ℕ) → (bit_and (m / 2 ^ y) 1 ≡ 1 → ⊥) → has y m ≡ false
bit_clear m y n = ne_eqb _ 1 (λ e. n (and_mask (m / 2 ^ y) 1 ∙ e))

-- the first b of the four feeds by which u comes to have what v has
unfoldable pub shared : List ℕ → ℕ → ℕ → ℕ → ℕ → ℕ → ℕ → List ℕ
shared r g x y u v zero = r
shared r g x y u v (suc b) = feed (shared r g x y u v b) (record { gate = g * 64 + x; over = y; dst = b * 64 + u; src = b * 64 + v })

module _ (r : List ℕ) (g x y u v : ℕ) where
  pub shared_none : r ≡ shared r g x y u v 0
  unfolding shared
  shared_none = refl

  pub shared_more : (s t : List ℕ) (b : ℕ) → s ≡ shared r g x y u v b → t ≡ feed s (record { gate = g * 64 + x; over = y; dst = b * 64 + u; src = b * 64 + v }) → t ≡ shared r g x y u v (b + 1)
  unfolding shared
  shared_more s t b p q = rw add-one (q ∙ ap (λ (w : List ℕ). feed w (record { gate = g * 64 + x; over = y; dst = b * 64 + u; src = b * 64 + v })) p)

  pub shared_all : (s : List ℕ) (b : ℕ) → b ≡ 4 → s ≡ shared r g x y u v b → s ≡ feed_all r (shares g x y u v)
  unfolding shared feed_all shares
  shared_all s b e p = p ∙ ap (shared r g x y u v) e

-- the same where u and v are the pair the other way round
pub turned : (r s : List ℕ) (g x y u v : ℕ) → u ≡ y → v ≡ x → s ≡ feed_all r (shares g x y u v) → s ≡ feed_all r (shares g x y y x)
turned r s g x y u v p q e = e ∙ ap₂ (λ (i j : ℕ). feed_all r (shares g x y i j)) p q

module _ (r a b c d e : List ℕ) (x y : ℕ) where
  pub five_steps : a ≡ feed_all r (shares 0 x y x y) → b ≡ feed a (via_weak rd x y) → c ≡ feed b (via_weak wk x y) → d ≡ feed_all c (shares 1 x y y x) → e ≡ feed_all d (shares 3 x y y x) → e ≡ feed_all r (rules x y)
  unfolding feed_all shares rules
  five_steps p q u v w =
      subst (λ (m : List ℕ). e ≡ feed_all m (shares 3 x y y x)) (v ∙ ap (λ (m : List ℕ). feed_all m (shares 1 x y y x)) (u ∙ ap (λ (m : List ℕ). feed m (via_weak wk x y)) (q ∙ ap (λ (m : List ℕ). feed m (via_weak rd x y)) p))) w

-- at a pair that no right joins, every rule is shut
pub rules_shut : (r : List ℕ) (x y : ℕ) → has y (word_at r rd x) ≡ false → has y (word_at r wr x) ≡ false → has y (word_at r wk x) ≡ false → has y (word_at r tx x) ≡ false
    → feed_all r (rules x y) ≡ r
unfolding feed_all rules
rules_shut r x y p q u v =
    rw (
      feed_shut r (via_read rd x y) p,
      feed_shut r (via_read wr x y) p,
      feed_shut r (via_read wk x y) p,
      feed_shut r (via_read tx x y) p,
      feed_shut r (via_weak rd x y) u,
      feed_shut r (via_weak wk x y) u,
      feed_shut r (via_push wr rd x y) q,
      feed_shut r (via_push wr wr x y) q,
      feed_shut r (via_push wr wk x y) q,
      feed_shut r (via_push wr tx x y) q,
      feed_shut r (via_push tx rd x y) v,
      feed_shut r (via_push tx wr x y) v,
      feed_shut r (via_push tx wk x y) v,
      feed_shut r (via_push tx tx x y) v,
    ) refl

-- the same by the union of x's four words
pub rules_none : (r : List ℕ) (x y : ℕ) → has y (held_over r x) ≡ false → r ≡ feed_all r (rules x y)
rules_none r x y e =
    let w : ℕ → Bool = λ i. has y (get_or r i 0) in
    let p = or_none _ (w (192 + x)) (sym (has_or y _ _) ∙ e) in
    let q = or_none _ (w (128 + x)) (sym (has_or y _ _) ∙ p.0) in
    let u = or_none (w x) (w (64 + x)) (sym (has_or y _ _) ∙ q.0) in
    let at : (i j : ℕ) → i ≡ j → w j ≡ false → w i ≡ false = λ i j z f. ap w z ∙ f in
    sym (rules_shut r x y (at _ x (omega arith) u.0) (at _ (64 + x) (omega arith) u.1) (at _ (128 + x) (omega arith) q.1) (at _ (192 + x) (omega arith) p.1))

pub pass_none : (r : List ℕ) → r ≡ pass_of r 0
unfolding pass_of
pass_none r = refl

-- a holder's row -------------------------------------------------------------------
pub row_none : (r : List ℕ) (x : ℕ) → r ≡ row_pass r x 0
unfolding row_pass
row_none r x = refl

pub row_step : (r s t : List ℕ) (x k : ℕ) → s ≡ row_pass r x k → t ≡ feed_all s (rules x k) → t ≡ row_pass r x (k + 1)
unfolding row_pass
row_step r s t x k p q = rw add-one (q ∙ ap (λ (w : List ℕ). feed_all w (rules x k)) p)

-- with no right at all every pair of the row is shut
pub row_shut : (r : List ℕ) (x k : ℕ) → held_over r x ≡ 0 → r ≡ row_pass r x k
unfolding row_pass
row_shut r x zero e = refl
row_shut r x (suc k) e = rules_none r x k (ap (has k) e ∙ has_zero k) ∙ ap (λ (w : List ℕ). feed_all w (rules x k)) (row_shut r x k e)

-- the first k pairs of x follow the rows before it
row_pass_lem : (r : List ℕ) (x k : ℕ) → k ≤ 64 → row_pass (pass_of r (x * 64)) x k ≡ pass_of r (x * 64 + k)
unfolding row_pass pass_of
row_pass_lem r x zero h = let e : x * 64 ≡ x * 64 + 0 = omega arith in ap (pass_of r) e
row_pass_lem r x (suc k) h =
    let m : ℕ = x * 64 + k in
    let next : suc m ≡ x * 64 + suc k = omega arith in
    let at : (x ≡ m / 64) × (k ≡ m % 64) = (omega arith, omega arith) in
    ap (λ (w : List ℕ). feed_all w (rules x k)) (row_pass_lem r x k (omega arith))
    ∙ ap (λ (i : ℕ). feed_all (pass_of r m) (rules i k)) at.0
    ∙ ap (λ (j : ℕ). feed_all (pass_of r m) (rules (m / 64) j)) at.1
    ∙ ap (pass_of r) next

pub pass_row : (r s t : List ℕ) (x : ℕ) → s ≡ pass_of r (x * 64) → t ≡ row_pass s x 64 → t ≡ pass_of r ((x + 1) * 64)
pass_row r s t x p q =
    let e : x * 64 + 64 ≡ (x + 1) * 64 = omega arith in
    q ∙ ap (λ (w : List ℕ). row_pass w x 64) p ∙ row_pass_lem r x 64 (omega arith) ∙ ap (pass_of r) e

-- growth, by the sum of the words -----------------------------------------------------------
unfoldable pub total : List ℕ → ℕ
total [] = 0
total (a ∷ r) = a + total r

set_grows : (r : List ℕ) (i v : ℕ) → get_or r i 0 ≤ v → total r ≤ total (set r i v)
unfolding total
set_grows [] i v h = omega arith
set_grows (a ∷ r) zero v h = omega arith
set_grows (a ∷ r) (suc i) v h = omega (arith, set_grows r i v h)

set_still : (r : List ℕ) (i v : ℕ) → get_or r i 0 ≤ v → total (set r i v) ≤ total r → set r i v ≡ r
unfolding total
set_still [] i v h l = refl
set_still (a ∷ r) zero v h l = let e : v ≡ a = omega arith in rw e refl
set_still (a ∷ r) (suc i) v h l = ap {B = List ℕ} (λ q. a ∷ q) (set_still r i v h (omega arith))

feed_grows : (r : List ℕ) (f : Feed) → total r ≤ total (feed r f)
unfolding feed
feed_grows r f = by_cases (has f.over (get_or r f.gate 0)) (λ e. rw (e, feed) (set_grows r _ _ (or_high _ _))) (λ e. rw (e, feed) (omega arith))

feed_still : (r : List ℕ) (f : Feed) → total (feed r f) ≤ total r → feed r f ≡ r
unfolding feed
feed_still r f l = by_cases (has f.over (get_or r f.gate 0)) (λ e. rw (e, feed) (set_still r _ _ (or_high _ _) (rw (e, feed) at l))) (λ e. rw (e, feed) refl)

all_grows : (fs : List Feed) (r : List ℕ) → total r ≤ total (feed_all r fs)
unfolding feed_all
all_grows [] r = omega arith
all_grows (f ∷ fs) r = omega (arith, feed_grows r f, all_grows fs (feed r f))

all_still : (fs : List Feed) (r : List ℕ) → total (feed_all r fs) ≤ total r → (feed_all r fs ≡ r) × AddsNothing r fs
unfolding feed_all
all_still [] r l = (refl, tt)
all_still (f ∷ fs) r l =
    let e = feed_still r f (omega (arith, all_grows fs (feed r f))) in
    let p = all_still fs r (subst (λ (q : List ℕ). total (feed_all q fs) ≤ total r) e l) in
    (subst⁻¹ (λ (q : List ℕ). feed_all q fs ≡ r) e p.0, (e, p.1))

pub pass_still : (r : List ℕ) (k : ℕ) → total (pass_of r k) ≤ total r → (pass_of r k ≡ r) × ((i : ℕ) → i < k → AddsNothing r (rules (i / 64) (i % 64)))
unfolding pass_of
pass_still r zero l = (refl, λ i h. absurd (omega arith))
pass_still r (suc k) l =
    let p = pass_still r k (omega (arith, all_grows (rules (k / 64) (k % 64)) (pass_of r k))) in
    let q = all_still (rules (k / 64) (k % 64)) r (subst (λ (w : List ℕ). total (feed_all w (rules (k / 64) (k % 64))) ≤ total r) p.0 l) in (
      subst⁻¹ (λ (w : List ℕ). feed_all w (rules (k / 64) (k % 64)) ≡ r) p.0 q.0,
      λ i h. by_eq i k (λ e. subst⁻¹ (λ (j : ℕ). AddsNothing r (rules (j / 64) (j % 64))) e q.1) (λ e. p.1 i (omega arith)),
    )

pub more_words : (r t : List ℕ) → t ≡ pass_of r 4096 → (r ≡ t → ⊥) → total r < total t
more_words r t e n = by_cases (ltb (total r) (total t)) (λ l. ltb-true _ _ l) (λ l.
    absurd (n (sym (e ∙ (pass_still r 4096 (subst (λ (w : List ℕ). total w ≤ total r) e (ltb-false _ _ l))).0))))

total_high : (r : List ℕ) → ((i : ℕ) → get_or r i 0 < 2 ^ 64) → total r ≤ length r * 2 ^ 64
unfolding total
total_high [] f = omega arith
total_high (a ∷ r) f = omega (arith, f 0, total_high r (λ i. f (suc i)))

pub total_full : (r : List ℕ) → Full r → total r ≤ 256 * 2 ^ 64
total_full r f = omega (arith, total_high r f.fits, f.long)
