-- The words from which the rules start, as marks one after another: the own rights of the numbers that take part, then the slots
-- between numbers of a set. Assumes nothing.
use mathlib.Core.Path.{◌≡◌, refl, ◌∙◌, ap, subst⁻¹}
use mathlib.Core.Bool.{Bool, true, ◌&&◌}
use mathlib.Core.List.{List}
use Prim.Native.Nat.{ℕ, zero, suc, ◌+◌, ◌/◌, ◌^◌, ◌≤◌, ◌<◌}
use native.Mathlib.Omega.{arith}
use native.Mathlib.Numerals.{add-one}
use lib.ListN.{length, get_or, replicate}
use Rattle.mask.specs.Sets.{has}
use Rattle.mask.proofs.Tests.{clash, and_true, and_intro}
use Rattle.mask.proofs.Bits.{has_zero}
use Rattle.table.specs.Cells.{slot_of}
use Rattle.table.specs.declared.Capability.{Capability}
use Rattle.relation.specs.Relation.{Right, rd, wr, wk, tx, bit_at, Holding, Can, self}
use Rattle.relation.specs.Helpers.{place, word_at, Full, Derived}
use Rattle.access.specs.Helpers.{mark_if, own_marks, slot_marks}
use Rattle.relation.proofs.Saturation.{full_kept}
use Rattle.access.proofs.Marks.{has_low, Mark, Marked, marked_none, marked_more, mark_same}

-- the code's loops ------------------------------------------------------------------
pub own_none : (nodes : ℕ) → replicate 256 0 ≡ own_marks nodes 0
unfolding own_marks
own_none nodes = refl

pub own_step : (nodes i : ℕ) (on : Bool) (r q : List ℕ) → on ≡ has i nodes → r ≡ own_marks nodes i → q ≡ mark_if on r i i 15
    → q ≡ own_marks nodes (i + 1)
unfolding own_marks
own_step nodes i on r q e p z = rw add-one (mark_same _ _ _ _ _ i i 15 e p z)

module _ (s : List Capability) (among : ℕ) (start : List ℕ) where
  pub slot_none : start ≡ slot_marks s among start 0
  unfolding slot_marks
  slot_none = refl

  pub slot_step : (j : ℕ) (on : Bool) (r q : List ℕ) → on ≡ (has (j / 8) among && has (slot_of s j).target among) → r ≡ slot_marks s among start j
      → q ≡ mark_if on r (j / 8) (slot_of s j).target (slot_of s j).rights → q ≡ slot_marks s among start (j + 1)
  unfolding slot_marks
  slot_step j on r q e p z = rw add-one (mark_same _ _ _ _ _ (j / 8) (slot_of s j).target (slot_of s j).rights e p z)

-- what is marked ---------------------------------------------------------------------------
abbrev own_mark : ℕ → ℕ → Mark
own_mark nodes i = record { on = has i nodes; holder = i; target = i; rights = 15 }

abbrev slot_mark : List Capability → ℕ → ℕ → Mark
slot_mark s among j =
    record { on = has (j / 8) among && has (slot_of s j).target among; holder = j / 8; target = (slot_of s j).target; rights = (slot_of s j).rights }

own_marked : (nodes i : ℕ) → i ≤ 64 → Marked (own_mark nodes) (replicate 256 0) (own_marks nodes i) i
unfolding own_marks
own_marked nodes zero h = marked_none _ _
own_marked nodes (suc i) h = marked_more (own_mark nodes) _ _ i refl (own_marked nodes i (omega arith)) (λ e. (omega arith, omega arith))

module _ (s : List Capability) (among : ℕ) (r : List ℕ) (low : among < 2 ^ 64) (long : length r ≡ 256) where
  slot_marked : (j : ℕ) → j ≤ 512 → Marked (slot_mark s among) r (slot_marks s among r j) j
  unfolding slot_marks
  slot_marked zero h = marked_none _ r
  slot_marked (suc j) h = marked_more (slot_mark s among) r _ j long (slot_marked j (omega arith))
      (λ e. (omega arith, has_low among _ low (and_true (has (j / 8) among) _ e).1))

-- own rights and slots together -----------------------------------------------------------
-- what makes the marks right: `nodes` take part, and slots between numbers of `among` are held
pub record Grounded (h : Holding) (s : List Capability) (nodes among : ℕ) : Type 0 where
  pub own : (x : ℕ) → x < 64 → has x nodes ≡ true → h.node x ≡ true
  pub held : (b : Right) (k : ℕ) → k < 512 → has (k / 8) among ≡ true → has (slot_of s k).target among ≡ true
      → has (bit_at b) (slot_of s k).rights ≡ true → Can h b (k / 8) (slot_of s k).target

-- each of `nodes` has all four rights over itself, and each slot between numbers of `among` is held
pub record Begun (s : List Capability) (nodes among : ℕ) (r : List ℕ) : Type 0 where
  pub full : Full r
  pub derived : (h : Holding) → Grounded h s nodes among → Derived h r
  pub own : (b : Right) (x : ℕ) → x < 64 → has x nodes ≡ true → has x (word_at r b x) ≡ true
  pub held : (b : Right) (k : ℕ) → k < 512 → has (k / 8) among ≡ true → has (slot_of s k).target among ≡ true
      → has (bit_at b) (slot_of s k).rights ≡ true → has (slot_of s k).target (word_at r b (k / 8)) ≡ true

zero_at : (n i : ℕ) → ◌≡◌ {A = ℕ} (get_or {A = ℕ} (replicate {A = ℕ} n 0) i 0) 0
zero_at zero i = refl
zero_at (suc n) zero = refl
zero_at (suc n) (suc i) = zero_at n i

all_rights : (b : Right) → has (bit_at b) 15 ≡ true
all_rights rd = refl
all_rights wr = refl
all_rights wk = refl
all_rights tx = refl

full_none : Full (replicate 256 0)
full_none = record { long = refl; fits = λ i. omega (arith, zero_at 256 i) }

derived_none : (h : Holding) → Derived h (replicate 256 0)
derived_none h b x y hx hy e = clash e (ap (has y) (zero_at 256 (place b x)) ∙ has_zero y)

pub begun : (s : List Capability) (nodes among : ℕ) (r : List ℕ) → among < 2 ^ 64 → r ≡ slot_marks s among (own_marks nodes 64) 512
    → Begun s nodes among r
begun s nodes among r low z =
    let o = own_marked nodes 64 (omega arith) in
    let m = slot_marked s among (own_marks nodes 64) low o.kept.long 512 (omega arith) in
    subst⁻¹ (Begun s nodes among) z (record {
      full = full_kept (full_kept full_none o.kept) m.kept;
      derived = λ h g.
          m.derived h (λ b k l e f. let two = and_true (has (k / 8) among) _ e in g.held b k l two.0 two.1 f)
          (o.derived h (λ b k l e f. self (g.own k l e)) (derived_none h));
      own = λ b x l e. m.kept.bits _ x (o.held b x l e (all_rights b));
      held = λ b k l u v f. m.held b k l (and_intro _ _ u v) f;
    })
