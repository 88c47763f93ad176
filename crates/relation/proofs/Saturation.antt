-- Words that the rules leave as they are, that have the held rights and each number's own, and nothing but what the rules give,
-- are the closure, word for word. Assumes nothing.
use mathlib.Core.Path.{◌≡◌, refl, sym, ◌∙◌, ap, subst, subst⁻¹}
use mathlib.Core.Bool.{true}
use mathlib.Core.List.{List, [], ◌∷◌}
use Prim.Native.Nat.{ℕ, zero, suc, ◌+◌, ◌*◌, ◌/◌, ◌%◌, ◌^◌, ◌≤◌, ◌<◌}
use native.Mathlib.Omega.{arith}
use lib.Bits.{bit_or, or_lt}
use lib.ListN.{length, get_or, set, length-set}
use lib.Seq.{get_or-set_same}
use Rattle.mask.specs.Sets.{has}
use Rattle.mask.proofs.Tests.{by_cases, or_cases, or_left, or_right, bool_ext}
use Rattle.mask.proofs.Bits.{bits_ext}
use Rattle.mask.proofs.Words.{has_or}
use Rattle.table.specs.Lists.{tabulate}
use Rattle.table.proofs.Lists.{put_any, as_tabulate}
use Rattle.relation.specs.Relation.{Right, rd, wr, wk, tx, bit_at, Holding, Can, holds, self, reads, weak_rd, weak_wk, writes, sends, right_at}
use Rattle.relation.specs.Closure.{row_of}
use Rattle.relation.specs.Exactness.{Low}
use Rattle.relation.specs.Helpers.{place, word_at, Full, Feed, feed, feed_all, via_read, via_weak, via_push, rules, pass_of, AddsNothing, Kept, Derived, Saturated}
use Rattle.relation.proofs.Exact.{means, row_can, can_row, row_lt}
use Rattle.relation.proofs.Feeds.{total, pass_still}

-- places --------------------------------------------------------------------------
pub bit_high : (b : Right) → bit_at b ≤ 3
bit_high rd = omega arith
bit_high wr = omega arith
bit_high wk = omega arith
bit_high tx = omega arith

right_bit : (b : Right) → right_at (bit_at b) ≡ b
right_bit rd = refl
right_bit wr = refl
right_bit wk = refl
right_bit tx = refl

bit_right : (n : ℕ) → n < 4 → bit_at (right_at n) ≡ n
bit_right zero h = refl
bit_right (suc zero) h = refl
bit_right (suc (suc zero)) h = refl
bit_right (suc (suc (suc n))) h = omega arith

bit_inj : (b c : Right) → bit_at b ≡ bit_at c → b ≡ c
bit_inj b c e = sym (right_bit b) ∙ ap right_at e ∙ right_bit c

-- what is kept -----------------------------------------------------------------------
pub kept_refl : (r : List ℕ) → Kept r r
kept_refl r = record { long = refl; fits = λ h. h; bits = λ i k e. e }

pub kept_trans : {r s t : List ℕ} → Kept r s → Kept s t → Kept r t
kept_trans p q = record { long = q.long ∙ p.long; fits = λ h. q.fits (p.fits h); bits = λ i k e. q.bits i k (p.bits i k e) }

pub full_kept : {r t : List ℕ} → Full r → Kept r t → Full t
full_kept f k = record { long = k.long ∙ f.long; fits = k.fits f.fits }

-- a word joined into another keeps what was there
pub join_kept : (r : List ℕ) (d w : ℕ) → (((i : ℕ) → get_or r i 0 < 2 ^ 64) → w < 2 ^ 64) → Kept r (set r d (bit_or (get_or r d 0) w))
join_kept r d w low = record {
  long = length-set r _ _;
  fits = λ h i. put_any (λ (a : ℕ). a < 2 ^ 64) r _ i _ 0 (λ q. or_lt 64 _ _ (h _) (low h)) (h i);
  bits = λ i k a. put_any (λ (m : ℕ). has k m ≡ true) r _ i _ 0 (λ q. has_or k _ _ ∙ or_left (has k (get_or r d 0)) _ (rw q at a)) a;
}

feed_kept : (r : List ℕ) (f : Feed) → Kept r (feed r f)
unfolding feed
feed_kept r f = by_cases (has f.over (get_or r f.gate 0))
    (λ e. rw (e, feed) (join_kept r f.dst _ (λ h. h _))) (λ e. rw (e, feed) (kept_refl r))

all_kept : (fs : List Feed) (r : List ℕ) → Kept r (feed_all r fs)
unfolding feed_all
all_kept [] r = kept_refl r
all_kept (f ∷ fs) r = kept_trans (feed_kept r f) (all_kept fs (feed r f))

pass_kept : (r : List ℕ) (k : ℕ) → Kept r (pass_of r k)
unfolding pass_of
pass_kept r zero = kept_refl r
pass_kept r (suc k) = kept_trans (pass_kept r k) (all_kept (rules (k / 64) (k % 64)) (pass_of r k))

-- nothing but what the rules give --------------------------------------------------------
-- words with one more word joined in, of which each number is due
pub join_derived : (h : Holding) (d : Right) (u w : ℕ) (r : List ℕ) → u < 64 → Derived h r → ((z : ℕ) → z < 64 → has z w ≡ true → Can h d u z)
    → Derived h (set r (place d u) (bit_or (word_at r d u) w))
join_derived h d u w r hu ok due b x z hx hz = put_any (λ (m : ℕ). has z m ≡ true → Can h b x z) r (place d u) (place b x) _ 0
    (λ q a.
    let same : bit_at b ≡ bit_at d = omega arith in
    let at : x ≡ u = omega arith in
    let c : Can h d u z = or_cases (has z (word_at r d u)) (has z w) (sym (has_or z _ _) ∙ a) (ok d u z hu hz) (due z hz) in
    subst⁻¹ (λ (n : ℕ). Can h b n z) at (subst⁻¹ (λ (k : Right). Can h k u z) (bit_inj b d same) c))
    (ok b x z hx hz)

module _ (h : Holding) where
  feed_derived : (g d s : Right) (x y u v : ℕ) → x < 64 → y < 64 → u < 64 → v < 64
      → ((z : ℕ) → Can h g x y → Can h s v z → Can h d u z)
      → (r : List ℕ) → Derived h r → Derived h (feed r (record { gate = place g x; over = y; dst = place d u; src = place s v }))
  unfolding feed
  feed_derived g d s x y u v hx hy hu hv rule r ok = by_cases (has y (word_at r g x))
      (λ e. rw (e, feed) (join_derived h d u _ r hu ok (λ z hz f. rule z (ok g x y hx hy e) (ok s v z hv hz f))))
      (λ e. rw (e, feed) ok)

  module _ (x y : ℕ) (hx : x < 64) (hy : y < 64) where
    read_derived : (b : Right) (r : List ℕ) → Derived h r → Derived h (feed r (via_read b x y))
    read_derived b = feed_derived rd b b x y x y hx hy hx hy (λ z c d. reads c d)

    push_wr_derived : (b : Right) (r : List ℕ) → Derived h r → Derived h (feed r (via_push wr b x y))
    push_wr_derived b = feed_derived wr b b x y y x hx hy hy hx (λ z c d. writes c d)

    push_tx_derived : (b : Right) (r : List ℕ) → Derived h r → Derived h (feed r (via_push tx b x y))
    push_tx_derived b = feed_derived tx b b x y y x hx hy hy hx (λ z c d. sends c d)

    rules_derived : (r : List ℕ) → Derived h r → Derived h (feed_all r (rules x y))
    unfolding feed_all rules
    rules_derived r ok =
        push_tx_derived tx _ (push_tx_derived wk _ (push_tx_derived wr _ (push_tx_derived rd _
        (push_wr_derived tx _ (push_wr_derived wk _ (push_wr_derived wr _ (push_wr_derived rd _
        (feed_derived wk wk wk x y x y hx hy hx hy (λ z c d. weak_wk c d) _
        (feed_derived wk wk rd x y x y hx hy hx hy (λ z c d. weak_rd c d) _
        (read_derived tx _ (read_derived wk _ (read_derived wr _ (read_derived rd r ok)))))))))))))

  pass_derived : (r : List ℕ) (k : ℕ) → k ≤ 4096 → Derived h r → Derived h (pass_of r k)
  unfolding pass_of
  pass_derived r zero l ok = ok
  pass_derived r (suc k) l ok = rules_derived (k / 64) (k % 64) (omega arith) (omega arith) (pass_of r k) (pass_derived r k (omega arith) ok)

-- the loop of passes ------------------------------------------------------------------------
pub record Grown (s r : List ℕ) : Type 0 where
  pub kept : Kept s r
  pub derived : (h : Holding) → Derived h s → Derived h r

pub grown_none : (s : List ℕ) → Grown s s
grown_none s = record { kept = kept_refl s; derived = λ h ok. ok }

pub grown_pass : (s r t : List ℕ) → Grown s r → t ≡ pass_of r 4096 → Grown s t
grown_pass s r t g e = subst⁻¹ (Grown s) e (record { kept = kept_trans g.kept (pass_kept r 4096); derived = λ h ok. pass_derived h r 4096 (omega arith) (g.derived h ok) })

pub saturated : (s r t : List ℕ) → Grown s r → t ≡ pass_of r 4096 → r ≡ t → Saturated s t
saturated s r t g e q =
    let f : pass_of r 4096 ≡ r = sym (q ∙ e) in
    let p = pass_still r 4096 (subst⁻¹ (λ (w : List ℕ). total w ≤ total r) f (omega arith)) in
    subst (Saturated s) q (record { kept = g.kept; derived = g.derived; closed = p.1 })

-- everything that the rules give ----------------------------------------------------------------
gate_open : (r : List ℕ) (f : Feed) (z : ℕ) → f.dst < length r → feed r f ≡ r → has f.over (get_or r f.gate 0) ≡ true → has z (get_or r f.src 0) ≡ true → has z (get_or r f.dst 0) ≡ true
unfolding feed
gate_open r f z l e g a =
    let q : set r f.dst (bit_or (get_or r f.dst 0) (get_or r f.src 0)) ≡ r = rw (g, feed) at e in
    let w : bit_or (get_or r f.dst 0) (get_or r f.src 0) ≡ get_or r f.dst 0 = sym (get_or-set_same r f.dst _ 0 l) ∙ ap (λ (s : List ℕ). get_or s f.dst 0) q in
    subst (λ (m : ℕ). has z m ≡ true) w (has_or z _ _ ∙ or_right (has z (get_or r f.dst 0)) _ a)

module _ (r : List ℕ) (x y : ℕ) (s : AddsNothing r (rules x y)) where
  still_read : (b : Right) → feed r (via_read b x y) ≡ r
  unfolding rules
  still_read rd = s.0
  still_read wr = s.1.0
  still_read wk = s.1.1.0
  still_read tx = s.1.1.1.0

  still_weak_rd : feed r (via_weak rd x y) ≡ r
  unfolding rules
  still_weak_rd = s.1.1.1.1.0

  still_weak_wk : feed r (via_weak wk x y) ≡ r
  unfolding rules
  still_weak_wk = s.1.1.1.1.1.0

  still_wr : (b : Right) → feed r (via_push wr b x y) ≡ r
  unfolding rules
  still_wr rd = s.1.1.1.1.1.1.0
  still_wr wr = s.1.1.1.1.1.1.1.0
  still_wr wk = s.1.1.1.1.1.1.1.1.0
  still_wr tx = s.1.1.1.1.1.1.1.1.1.0

  still_tx : (b : Right) → feed r (via_push tx b x y) ≡ r
  unfolding rules
  still_tx rd = s.1.1.1.1.1.1.1.1.1.1.0
  still_tx wr = s.1.1.1.1.1.1.1.1.1.1.1.0
  still_tx wk = s.1.1.1.1.1.1.1.1.1.1.1.1.0
  still_tx tx = s.1.1.1.1.1.1.1.1.1.1.1.1.1.0

-- the words from which the rules start: held rights, and each over itself
pub record Base (h : Holding) (r : List ℕ) : Type 0 where
  pub held : (b : Right) (x y : ℕ) → h.node x ≡ true → h.node y ≡ true → h.held b x y ≡ true → has y (word_at r b x) ≡ true
  pub own : (b : Right) (x : ℕ) → h.node x ≡ true → has x (word_at r b x) ≡ true

pub base_kept : {h : Holding} {r s : List ℕ} → Base h r → Kept r s → Base h s
base_kept p k = record { held = λ b x y m n e. k.bits _ y (p.held b x y m n e); own = λ b x m. k.bits _ x (p.own b x m) }

module _ (h : Holding) (low : Low h) (r : List ℕ) (long : length r ≡ 256) (base : Base h r) (closed : (i : ℕ) → i < 4096 → AddsNothing r (rules (i / 64) (i % 64))) where
  at : (x y : ℕ) → x < 64 → y < 64 → AddsNothing r (rules x y)
  at x y hx hy =
      let p : (x * 64 + y) / 64 ≡ x = omega arith in
      let q : (x * 64 + y) % 64 ≡ y = omega arith in
      subst (λ (u : ℕ). AddsNothing r (rules u y)) p (subst (λ (v : ℕ). AddsNothing r (rules ((x * 64 + y) / 64) v)) q (closed (x * 64 + y) (omega arith)))

  still_at : {b : Right} (x y : ℕ) → Can h b x y → AddsNothing r (rules x y)
  still_at x y c = at x y (low x (means h c).from) (low y (means h c).over)

  pub complete : {b : Right} {x y : ℕ} → Can h b x y → has y (word_at r b x) ≡ true
  complete (holds {b} {x} {y} p q e) = base.held b x y p q e
  complete (self {b} {x} p) = base.own b x p
  complete (reads {b} {x} {y} {z} c d) =
      let hx = low x (means h c).from in
      gate_open r (via_read b x y) z (omega (arith, bit_high b)) (still_read r x y (still_at x y c) b) (complete c) (complete d)
  complete (weak_rd {x} {y} {z} c d) =
      let hx = low x (means h c).from in
      gate_open r (via_weak rd x y) z (omega arith) (still_weak_rd r x y (still_at x y c)) (complete c) (complete d)
  complete (weak_wk {x} {y} {z} c d) =
      let hx = low x (means h c).from in
      gate_open r (via_weak wk x y) z (omega arith) (still_weak_wk r x y (still_at x y c)) (complete c) (complete d)
  complete (writes {b} {x} {y} {z} c d) =
      let hy = low y (means h c).over in
      gate_open r (via_push wr b x y) z (omega (arith, bit_high b)) (still_wr r x y (still_at x y c) b) (complete c) (complete d)
  complete (sends {b} {x} {y} {z} c d) =
      let hy = low y (means h c).over in
      gate_open r (via_push tx b x y) z (omega (arith, bit_high b)) (still_tx r x y (still_at x y c) b) (complete c) (complete d)

  -- so they are the closure
  module _ (derived : Derived h r) (fits : (i : ℕ) → get_or r i 0 < 2 ^ 64) where
    exact : (b : Right) (x : ℕ) → x < 64 → word_at r b x ≡ row_of h b x
    exact b x hx = bits_ext 64 _ _ (fits _) (row_lt h b x) (λ y hy. bool_ext _ _
        (λ e. can_row h low b x y (derived b x y hx hy e))
        (λ e. complete (row_can h low b x y hy e)))

    pub exact_words : r ≡ tabulate 256 (λ k. row_of h (right_at (k / 64)) (k % 64))
    exact_words = as_tabulate 256 _ 0 r long (λ i l.
        let e : i ≡ place (right_at (i / 64)) (i % 64) = omega (arith, bit_right (i / 64) (omega arith)) in
        ap (λ (j : ℕ). get_or r j 0) e ∙ exact (right_at (i / 64)) (i % 64) (omega arith))
