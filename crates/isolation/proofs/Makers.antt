-- The makers of clean objects, of those whose byte is compared: each is 64 or a clean object. Under the invariant a request of an actor that is
-- not clean leaves every such byte as it was; a request of a clean actor keeps two tables in agreement on them, on the byte of the object that
-- it makes too. So what the equal-records claim compares is the same at the end of both runs. Assumes nothing.
use mathlib.Core.Path.{◌≡◌, refl, sym, ◌∙◌, ap, subst}
use mathlib.Core.Logic.{◌≢◌, ◌⊎◌, ⊎_elim, inl, inr}
use mathlib.Core.Bool.{true, false}
use mathlib.Core.List.{List}
use Prim.Native.Nat.{ℕ, ◌<◌}
use native.Mathlib.Omega.{arith}
use lib.Dec.{eqb}
use borrow.Author.Tests.{eqb-true, ne_eqb}
use Rattle.mask.proofs.Tests.{by_cases, by_eq, clash, or_cases}
use Rattle.table.specs.declared.Table.{Table}
use Rattle.table.specs.Cells.{no_maker, maker_at}
use Rattle.requests.specs.declared.Pair.{Pair}
use Rattle.requests.specs.Asks.{Ask, read, write, fetch, store, revoke, send, allocate, destroy, reclaim, unknown, code_of, actor_of}
use Rattle.refusals.specs.Replies.{is_done}
use Rattle.refusals.specs.Refusals.{refusal, target_of}
use Rattle.forgetting.specs.Forgetting.{maker_left}
use Rattle.forgetting.proofs.Left.{left_elim}
use Rattle.effects.specs.Effects.{effect, reclaimed}
use Rattle.effects.proofs.Makers.{allocated_maker, allocated_made}
use Rattle.effects.proofs.Reclaims.{reclaimed_record}
use Rattle.steps.specs.Steps.{after}
use Rattle.steps.specs.Exactness.{AllocateDone, MakerForgotten, OnlyAllocateOrReclaimWrites}
use Rattle.steps.proofs.Refused.{refused_keeps, done_effects}
use Rattle.steps.proofs.Makers.{only_allocate_or_reclaim_writes}
use Rattle.steps.proofs.Granted.{born_low, made_facts, reclaim_apart}
use Rattle.isolation.specs.Clean.{Clean, setting, clean_after, compared_at_start, compared_after}
use Rattle.isolation.specs.Demand.{AgreeOn}
use Rattle.isolation.proofs.Invariant.{Isolated}
use Rattle.isolation.proofs.Allocates.{outsider}
use Rattle.isolation.proofs.Reclaims.{left_in, reclaim_over, reclaim_dirty, reclaim_same}
use Rattle.isolation.proofs.Others.{unknown_refused}
use Rattle.isolation.proofs.Latest.{set_there, set_beside, clean_refused}

-- nobody, or a clean object
abbrev pub Known : Clean → ℕ → Type 0
Known C m = (m ≡ no_maker) ⊎ (C m ≡ true)

-- in two tables: the same maker, and a known one
pub record Traced (C B : Clean) (t u : Table) : Type 0 where
  pub same : (n : ℕ) → C n ≡ true → B n ≡ true → maker_at t n ≡ maker_at u n
  pub known : (n : ℕ) → C n ≡ true → B n ≡ true → Known C (maker_at t n)

-- at the start
pub start_known : (t : Table) (C : Clean) (n : ℕ) → compared_at_start t C n ≡ true → Known C (maker_at t n)
unfolding compared_at_start
start_known t C n h = or_cases (eqb (maker_at t n) no_maker) (C (maker_at t n)) h (λ e. inl (eqb-true _ no_maker e)) (λ e. inr e)

-- a request that neither makes nor reclaims leaves every maker
kept_by : (t : Table) (q : Ask) → code_of q ≢ 7 → code_of q ≢ 9 → (n : ℕ) → maker_at (after t q) n ≡ maker_at t n
unfolding OnlyAllocateOrReclaimWrites
kept_by t q p r n = by_eq (maker_at (after t q) n) (maker_at t n) (λ e. e) (λ e. ⊎_elim
    (λ d. absurd (p (ap code_of d.asked)))
    (λ d. absurd (r (ap code_of d.by.asked)))
    (only_allocate_or_reclaim_writes t q n e))

-- the step of an actor that is not clean -----------------------------------------------------------------------
module _ (t : Table) (C : Clean) (v : Isolated t C) (q : Ask) (c : C (actor_of q) ≡ false) (n : ℕ) (h : C n ≡ true) (k : Known C (maker_at t n)) where
  -- it makes nobody that is clean already
  not_made : AllocateDone t q n → ⊥
  not_made d =
      let e : is_done (refusal t (allocate d.actor n d.kind d.part d.slot d.list)) ≡ true = rw d.asked at d.done in
      clash h (outsider t C v d.actor n d.kind d.part d.slot d.list e)

  -- and what it reclaims is not clean, so it is neither a clean object nor its known maker
  not_forgotten : MakerForgotten t q n → maker_at (after t q) n ≡ maker_at t n
  not_forgotten f =
      let d = f.by in
      let e : is_done (refusal t (reclaim d.actor d.through)) ≡ true = rw d.asked at d.done in
      let o : C f.number ≡ false = ap C (sym d.target) ∙ reclaim_dirty t C v d.actor d.through e (rw d.asked at c) in
      ⊎_elim
      (λ w. clash h (ap C w ∙ o))
      (λ w. ⊎_elim (λ z. f.nobody ∙ sym z) (λ z. clash z (ap C w ∙ o)) k)
      f.named

  other_keeps : maker_at (after t q) n ≡ maker_at t n
  unfolding OnlyAllocateOrReclaimWrites
  other_keeps = by_eq (maker_at (after t q) n) (maker_at t n) (λ e. e) (λ e. ⊎_elim (λ d. absurd (not_made d)) not_forgotten (only_allocate_or_reclaim_writes t q n e))

pub other_traced : (t u : Table) (C B : Clean) (q : Ask) → Isolated t C → C (actor_of q) ≡ false → Traced C B t u → Traced C B (after t q) u
other_traced t u C B q v c m = record {
  same = λ n h b. other_keeps t C v q c n h (m.known n h b) ∙ m.same n h b;
  known = λ n h b. subst (Known C) (sym (other_keeps t C v q c n h (m.known n h b))) (m.known n h b);
}

pub compared_outside : (t : Table) (C B : Clean) (q : Ask) → C (actor_of q) ≡ false → compared_after t C B q ≡ B
unfolding compared_after
compared_outside t C B (read a s) c = refl
compared_outside t C B (write a s w) c = refl
compared_outside t C B (fetch a s i j) c = refl
compared_outside t C B (store a s i j) c = refl
compared_outside t C B (revoke a s j) c = refl
compared_outside t C B (send a s w l y) c = refl
compared_outside t C B (allocate a n k p i l) c = rw (c, compared_after) refl
compared_outside t C B (destroy a s) c = refl
compared_outside t C B (reclaim a s) c = refl
compared_outside t C B (unknown k a) c = refl

-- the step of a clean actor, in two tables -----------------------------------------------------------------------
pub compared_same : (t u : Table) (C B : Clean) (q : Ask) → refusal t q ≡ refusal u q → compared_after t C B q ≡ compared_after u C B q
unfolding compared_after
compared_same t u C B (read a s) h = refl
compared_same t u C B (write a s w) h = refl
compared_same t u C B (fetch a s i j) h = refl
compared_same t u C B (store a s i j) h = refl
compared_same t u C B (revoke a s j) h = refl
compared_same t u C B (send a s w l y) h = refl
compared_same t u C B (allocate a n k p i l) h = by_cases (is_done (refusal t (allocate a n k p i l)))
    (λ e. rw (e, sym (ap is_done h) ∙ e, compared_after) refl)
    (λ e. rw (e, sym (ap is_done h) ∙ e, compared_after) refl)
compared_same t u C B (destroy a s) h = refl
compared_same t u C B (reclaim a s) h = refl
compared_same t u C B (unknown k a) h = refl

compared_refused : (t : Table) (C B : Clean) (q : Ask) → is_done (refusal t q) ≡ false → compared_after t C B q ≡ B
unfolding compared_after
compared_refused t C B (read a s) h = refl
compared_refused t C B (write a s w) h = refl
compared_refused t C B (fetch a s i j) h = refl
compared_refused t C B (store a s i j) h = refl
compared_refused t C B (revoke a s j) h = refl
compared_refused t C B (send a s w l y) h = refl
compared_refused t C B (allocate a n k p i l) h = by_cases (C a) (λ e. rw (e, h, compared_after) refl) (λ e. rw (e, compared_after) refl)
compared_refused t C B (destroy a s) h = refl
compared_refused t C B (reclaim a s) h = refl
compared_refused t C B (unknown k a) h = refl

module _ (t u : Table) (C B : Clean) (v : Isolated t C) (w : Isolated u C) (ag : AgreeOn C t u) (m : Traced C B t u) where
  -- makers that neither table changes
  plain_traced : (q : Ask) → code_of q ≢ 7 → code_of q ≢ 9 → Traced C B (after t q) (after u q)
  plain_traced q p r = record {
    same = λ n h b. kept_by t q p r n ∙ m.same n h b ∙ sym (kept_by u q p r n);
    known = λ n h b. subst (Known C) (sym (kept_by t q p r n)) (m.known n h b);
  }

  -- the object that is made has its actor, and that is clean; it is nobody's maker before
  module _ (a n k p i : ℕ) (l : List Pair) (c : C a ≡ true) (e : is_done (refusal t (allocate a n k p i l)) ≡ true) (f : is_done (refusal u (allocate a n k p i l)) ≡ true) where
    abbrev C' : Clean
    C' = setting n true C

    a≢n : a ≢ n
    a≢n q = clash c (ap C q ∙ outsider t C v a n k p i l e)

    known_on : (x : ℕ) → Known C x → Known C' x
    known_on x z = ⊎_elim (λ q. inl q) (λ q. inr (by_eq x n (set_there C n x true) (λ d. set_beside C n x true d ∙ q))) z

    made_traced : Traced C' (setting n true B) (effect t (allocate a n k p i l)) (effect u (allocate a n k p i l))
    unfolding effect
    made_traced =
        let g = made_facts t l a n k p i e in
        let new-t = allocated_made t a n k p i l v.sound.size g.number in
        let new-u = allocated_made u a n k p i l w.sound.size g.number in
        record {
          same = λ x h b. by_eq x n
              (λ d. rw d (new-t ∙ sym new-u))
              (λ d. allocated_maker t a n k p i l x d ∙ m.same x (rw (ne_eqb x n d) at h) (rw (ne_eqb x n d) at b) ∙ sym (allocated_maker u a n k p i l x d));
          known = λ x h b. by_eq x n
              (λ d. rw d (subst (Known C') (sym new-t) (inr (set_beside C n a true a≢n ∙ c))))
              (λ d. subst (Known C') (sym (allocated_maker t a n k p i l x d)) (known_on (maker_at t x) (m.known x (rw (ne_eqb x n d) at h) (rw (ne_eqb x n d) at b))));
        }

  -- bytes that name the reclaimed number become 64 in both tables
  module _ (a s : ℕ) (c : C a ≡ true) (e : is_done (refusal t (reclaim a s)) ≡ true) (f : is_done (refusal u (reclaim a s)) ≡ true) where
    abbrev y : ℕ
    y = target_of t a s

    left_maker : (x : Table) → Isolated x C → (n : ℕ) → n < 64 → n ≢ y → maker_at (reclaimed x a y) n ≡ maker_left y (maker_at x n)
    left_maker x z n hn ne =
        let g = reclaim_over t C v a s e in
        reclaimed_record x a y z.sound.size g.actor g.target (reclaim_apart t a s g) (λ i r. i ≢ y → r.maker ≡ maker_left y (maker_at x i))
        (λ d. absurd (d refl)) (λ d. refl) (λ i hi p q d. refl) n hn ne

    known_left : (x : ℕ) → Known C x → Known (setting y false C) (maker_left y x)
    known_left x z = left_elim (Known (setting y false C)) y x (λ q. inl refl) (λ q. ⊎_elim (λ d. inl d) (λ d. inr (set_beside C y x false q ∙ d)) z)

    both_left : Traced (setting y false C) B (reclaimed t a y) (reclaimed u a y)
    both_left =
        let low : (n : ℕ) → C n ≡ true → n < 64 = λ n h. born_low t n v.sound.size (v.born n h) in
        record {
          same = λ n h b. let k = left_in C y n h in
              left_maker t v n (low n k.0) k.1 ∙ ap (maker_left y) (m.same n k.0 b) ∙ sym (left_maker u w n (low n k.0) k.1);
          known = λ n h b. let k = left_in C y n h in
              subst (Known (setting y false C)) (sym (left_maker t v n (low n k.0) k.1)) (known_left (maker_at t n) (m.known n k.0 b));
        }

    reclaim_traced : Traced (setting y false C) B (effect t (reclaim a s)) (effect u (reclaim a s))
    unfolding effect
    reclaim_traced = subst (λ (k : ℕ). Traced (setting y false C) B (reclaimed t a y) (reclaimed u a k)) (reclaim_same C t u v w ag a s c e f) both_left

  effect_traced : (q : Ask) → C (actor_of q) ≡ true → is_done (refusal t q) ≡ true → is_done (refusal u q) ≡ true → Traced (clean_after t C q) (compared_after t C B q) (after t q) (after u q)
  unfolding clean_after compared_after
  effect_traced (read a s) c e f = plain_traced (read a s) (λ d. omega arith) (λ d. omega arith)
  effect_traced (write a s x) c e f = plain_traced (write a s x) (λ d. omega arith) (λ d. omega arith)
  effect_traced (fetch a s i j) c e f = plain_traced (fetch a s i j) (λ d. omega arith) (λ d. omega arith)
  effect_traced (store a s i j) c e f = plain_traced (store a s i j) (λ d. omega arith) (λ d. omega arith)
  effect_traced (revoke a s j) c e f = plain_traced (revoke a s j) (λ d. omega arith) (λ d. omega arith)
  effect_traced (send a s x l y) c e f = plain_traced (send a s x l y) (λ d. omega arith) (λ d. omega arith)
  effect_traced (allocate a n k p i l) c e f =
      rw (e, c, clean_after, compared_after, done_effects t (allocate a n k p i l) e, done_effects u (allocate a n k p i l) f) (made_traced a n k p i l c e f)
  effect_traced (destroy a s) c e f = plain_traced (destroy a s) (λ d. omega arith) (λ d. omega arith)
  effect_traced (reclaim a s) c e f =
      rw (e, clean_after, done_effects t (reclaim a s) e, done_effects u (reclaim a s) f) (reclaim_traced a s c e f)
  effect_traced (unknown k a) c e f = unknown_refused t k a e

  pub clean_traced : (q : Ask) → C (actor_of q) ≡ true → refusal t q ≡ refusal u q → Traced (clean_after t C q) (compared_after t C B q) (after t q) (after u q)
  clean_traced q c s = by_cases (is_done (refusal t q))
      (λ e. effect_traced q c e (sym (ap is_done s) ∙ e))
      (λ e. rw (clean_refused t C q e, compared_refused t C B q e, refused_keeps t q e, refused_keeps u q (sym (ap is_done s) ∙ e)) m)
