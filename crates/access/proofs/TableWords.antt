-- The words of a table: where the rules start from the born numbers and every slot between them, the saturated words are the
-- closure of the table's holding. Assumes nothing.
use mathlib.Core.Path.{◌≡◌, refl, sym, ◌∙◌, ap, subst, subst⁻¹}
use mathlib.Core.Bool.{Bool, true, false, not, ◌&&◌}
use mathlib.Core.List.{List}
use Prim.Native.Nat.{ℕ, ◌/◌, ◌%◌, ◌^◌, ◌<◌}
use lib.Dec.{ltb}
use borrow.Author.Tests.{ltb-true, lt-ltb, not-true}
use Rattle.std.specs.Prelude.{Ok, Err}
use Rattle.mask.specs.Sets.{has}
use Rattle.mask.proofs.Tests.{and_true, and_intro}
use Rattle.mask.proofs.Bits.{has_bits, bits_lt, has_zero}
use Rattle.table.specs.declared.Record.{Record}
use Rattle.table.specs.declared.Table.{Table}
use Rattle.table.specs.Lists.{tabulate}
use Rattle.table.specs.Cells.{born_at}
use Rattle.table.specs.Soundness.{sound}
use Rattle.access.specs.declared.AccessRefusal.TheVariants.{TableUnsound}
use Rattle.relation.specs.Relation.{holds, takes_part, table_holding, right_at}
use Rattle.relation.specs.Closure.{row_of}
use Rattle.access.specs.Answers.{born_outside, access_of}
use Rattle.relation.specs.Helpers.{word_at, Saturated}
use Rattle.access.specs.Helpers.{own_marks, slot_marks}
use Rattle.relation.proofs.Exact.{table_low}
use Rattle.relation.proofs.Saturation.{Base, base_kept, exact_words}
use Rattle.access.proofs.Marks.{has_low}
use Rattle.access.proofs.StartWords.{Grounded, Begun, begun}
use Rattle.relation.proofs.Tables.{slot_held_lem, held_slot}

-- born numbers outside a set -------------------------------------------------------
pub outside_lt : (records : List Record) (set : ℕ) → born_outside records set < 2 ^ 64
unfolding born_outside
outside_lt records set = bits_lt 64 _

pub outside_facts : (t : Table) (set n : ℕ) → has n (born_outside t.records set) ≡ true → (takes_part t n ≡ true) × (has n set ≡ false)
unfolding born_outside takes_part
outside_facts t set n e =
    let l = has_low _ n (outside_lt t.records set) e in
    let p = and_true (born_at t n) (not (has n set)) (sym (has_bits 64 n (λ k. born_at t k && not (has k set)) l) ∙ e) in
    (and_intro (ltb n 64) (born_at t n) (lt-ltb n 64 l) p.0, not-true _ p.1)

pub outside_intro : (t : Table) (set n : ℕ) → takes_part t n ≡ true → has n set ≡ false → has n (born_outside t.records set) ≡ true
unfolding born_outside takes_part
outside_intro t set n e o =
    let p = and_true (ltb n 64) (born_at t n) e in
    has_bits 64 n (λ k. born_at t k && not (has k set)) (ltb-true n 64 p.0) ∙ and_intro (born_at t n) (not (has n set)) p.1 (ap not o)

-- the table's words --------------------------------------------------------------------
module _ (t : Table) (s r : List ℕ) (start : Begun t.slots (born_outside t.records 0) (born_outside t.records 0) s) (k : Saturated s r) where
  abbrev N : ℕ
  N = born_outside t.records 0

  grounded : Grounded (table_holding t) t.slots N N
  grounded = record {
    own = λ x h e. (outside_facts t 0 x e).0;
    held = λ b i h u v e. holds {b = b} (outside_facts t 0 _ u).0 (outside_facts t 0 _ v).0 (slot_held_lem t b i e);
  }

  based : Base (table_holding t) s
  based = record {
    own = λ b x e. start.own b x (table_low t x e) (outside_intro t 0 x e (has_zero x));
    held = λ b x y u v e. held_slot t b x y e (table_low t x u) (λ i h q w f.
        subst (λ (m : ℕ). has y (word_at s b m) ≡ true) q (subst (λ (m : ℕ). has m (word_at s b (i / 8)) ≡ true) w
        (start.held b i h (subst⁻¹ (λ (m : ℕ). has m N ≡ true) q (outside_intro t 0 x u (has_zero x)))
        (subst⁻¹ (λ (m : ℕ). has m N ≡ true) w (outside_intro t 0 y v (has_zero y))) f)));
  }

  table_words : r ≡ tabulate 256 (λ i. row_of (table_holding t) (right_at (i / 64)) (i % 64))
  table_words = exact_words (table_holding t) (table_low t) r (k.kept.long ∙ start.full.long) (base_kept based k.kept) k.closed
      (k.derived (table_holding t) (start.derived (table_holding t) grounded)) (k.kept.fits start.full.fits)

-- the two ways out of the call --------------------------------------------------------------
pub access_done : (t : Table) (b : Bool) (n : ℕ) (s r : List ℕ) → b ≡ sound t → b ≡ true → n ≡ born_outside t.records 0
    → s ≡ slot_marks t.slots n (own_marks n 64) 512 → Saturated s r → Ok r ≡ access_of t
unfolding access_of
access_done t b n s r p q e z k =
    let N = born_outside t.records 0 in
    let w : s ≡ slot_marks t.slots N (own_marks N 64) 512 = cc in
    let rows = table_words t s r (begun t.slots N N s (outside_lt t.records 0) w) k in
    rw (sym p ∙ q, access_of) (ap (λ (w : List ℕ). Ok w) rows)

pub access_refused : (t : Table) (b : Bool) → b ≡ sound t → b ≡ false → Err TableUnsound ≡ access_of t
unfolding access_of
access_refused t b p q = rw (sym p ∙ q, access_of) refl
