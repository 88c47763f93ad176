-- Clean goes by the latest making: what an allocate and a reclaim that are done, and all else, leave of the clean objects. By computing the
-- definition at each request. Assumes nothing.
use mathlib.Core.Path.{◌≡◌, refl, sym, ◌∙◌, ap}
use mathlib.Core.Logic.{◌≢◌}
use mathlib.Core.Bool.{Bool, true, false}
use mathlib.Core.List.{List}
use Prim.Native.Nat.{ℕ}
use borrow.Author.Tests.{eq-eqb, ne_eqb}
use Rattle.mask.proofs.Tests.{by_cases}
use Rattle.table.specs.declared.Table.{Table}
use Rattle.requests.specs.declared.Pair.{Pair}
use Rattle.requests.specs.Asks.{Ask, read, write, fetch, store, revoke, send, allocate, destroy, reclaim, unknown}
use Rattle.refusals.specs.Replies.{is_done}
use Rattle.refusals.specs.Refusals.{refusal, target_of}
use Rattle.steps.specs.Exactness.{AllocateDone, ReclaimDone}
use Rattle.isolation.specs.Clean.{Clean, setting, clean_after}
use Rattle.isolation.specs.Demand.{LatestMaking}

-- a set in which one number is given: at that number, and beside it
pub set_there : (C : Clean) (n m : ℕ) (b : Bool) → m ≡ n → setting n b C m ≡ b
set_there C n m b e = rw (eq-eqb m n e) refl

pub set_beside : (C : Clean) (n m : ℕ) (b : Bool) → m ≢ n → setting n b C m ≡ C m
set_beside C n m b e = rw (ne_eqb m n e) refl

-- done ones
made_clean : (t : Table) (C : Clean) (a n k p i : ℕ) (l : List Pair) → is_done (refusal t (allocate a n k p i l)) ≡ true
    → clean_after t C (allocate a n k p i l) ≡ setting n (C a) C
unfolding clean_after
made_clean t C a n k p i l d = rw (d, clean_after) refl

gone_clean : (t : Table) (C : Clean) (a s : ℕ) → is_done (refusal t (reclaim a s)) ≡ true → clean_after t C (reclaim a s) ≡ setting (target_of t a s) false C
unfolding clean_after
gone_clean t C a s d = rw (d, clean_after) refl

-- a refused request leaves the same objects clean
pub clean_refused : (t : Table) (C : Clean) (q : Ask) → is_done (refusal t q) ≡ false → clean_after t C q ≡ C
unfolding clean_after
clean_refused t C (read a s) h = refl
clean_refused t C (write a s w) h = refl
clean_refused t C (fetch a s i j) h = refl
clean_refused t C (store a s i j) h = refl
clean_refused t C (revoke a s j) h = refl
clean_refused t C (send a s w l y) h = refl
clean_refused t C (allocate a n k p i l) h = rw (h, clean_after) refl
clean_refused t C (destroy a s) h = refl
clean_refused t C (reclaim a s) h = rw (h, clean_after) refl
clean_refused t C (unknown k a) h = refl

-- who was neither made nor reclaimed
as_before : (t : Table) (C : Clean) (q : Ask) (n : ℕ) → (AllocateDone t q n → ⊥) → (ReclaimDone t q n → ⊥) → is_done (refusal t q) ≡ true → clean_after t C q n ≡ C n
unfolding clean_after
as_before t C (read a s) n p r d = refl
as_before t C (write a s w) n p r d = refl
as_before t C (fetch a s i j) n p r d = refl
as_before t C (store a s i j) n p r d = refl
as_before t C (revoke a s j) n p r d = refl
as_before t C (send a s w l y) n p r d = refl
as_before t C (allocate a m k x i l) n p r d = rw (d, clean_after) (set_beside C m n (C a)
    (λ e. p (record { actor = a; kind = k; part = x; slot = i; list = l; asked = ap (λ (z : ℕ). allocate a z k x i l) (sym e); done = d })))
as_before t C (destroy a s) n p r d = refl
as_before t C (reclaim a s) n p r d = rw (d, clean_after) (set_beside C (target_of t a s) n false
    (λ e. r (record { actor = a; through = s; asked = refl; target = sym e; done = d })))
as_before t C (unknown c a) n p r d = refl

pub latest_making : LatestMaking
unfolding LatestMaking
latest_making t C q = record {
  made = λ n d.
      let e : is_done (refusal t (allocate d.actor n d.kind d.part d.slot d.list)) ≡ true = rw d.asked at d.done in
      rw d.asked (ap (λ (E : Clean). E n) (made_clean t C d.actor n d.kind d.part d.slot d.list e) ∙ set_there C n n (C d.actor) refl);
  reclaimed = λ n d.
      let e : is_done (refusal t (reclaim d.actor d.through)) ≡ true = rw d.asked at d.done in
      rw d.asked (ap (λ (E : Clean). E n) (gone_clean t C d.actor d.through e) ∙ set_there C (target_of t d.actor d.through) n false (sym d.target));
  others = λ n p r. by_cases (is_done (refusal t q)) (as_before t C q n p r) (λ e. ap (λ (E : Clean). E n) (clean_refused t C q e));
}
