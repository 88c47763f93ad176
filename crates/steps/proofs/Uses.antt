-- Eight of the nine requests go through a slot: which one, with which other fields, wanted status, need and last check. The ninth, allocate,
-- does not: its fields and its row 9; nor does a code with no request. By computing the definitions at each request. Assumes nothing.
use mathlib.Core.Path.{◌≡◌, refl, sym, ◌∙◌, ap}
use mathlib.Core.Bool.{Bool, true, false, not, ◌||◌}
use mathlib.Core.List.{List}
use Prim.Native.Nat.{ℕ, ◌<◌}
use native.Mathlib.Omega.{arith}
use lib.Dec.{ltb, eqb}
use borrow.Author.Tests.{ltb-false}
use Rattle.mask.specs.Sets.{has, excluding, subset_of}
use Rattle.mask.proofs.Tests.{or_none, or_false, or_assoc}
use Rattle.table.specs.declared.Record.{Record}
use Rattle.table.specs.declared.Table.{Table}
use Rattle.table.specs.Cells.{record_at, is_active}
use Rattle.rights.specs.declared.Need.TheVariants.{ReadOrWeak, Write, Send}
use Rattle.rights.specs.declared.Need.{Need}
use Rattle.requests.specs.declared.Pair.{Pair}
use Rattle.requests.specs.declared.PairList.{PairList}
use Rattle.std.specs.Prelude.{Err}
use Rattle.refusals.specs.declared.Refusal.TheVariants.{TargetPassive, ActorItself, NotInStock}
use Rattle.refusals.specs.Replies.{Reply, Done}
use Rattle.refusals.specs.declared.Opened.{Opened}
use Rattle.requests.specs.Asks.{read, write, fetch, store, revoke, send, allocate, destroy, reclaim, unknown, pairs_of}
use Rattle.refusals.specs.Refusals.{refuse, alive, dead, no_object, no_slot, bad_list, bad_field, not_in_stock, target_of, later_rows}
use Rattle.refusals.specs.Helpers.{SlotOpened, PairsFit}
use Rattle.refusals.proofs.Lists.{pairs_fit}
use Rattle.steps.proofs.Ways.{Uses, Fields, Later}

-- the last checks, of the target: row 7 of a send, row 8 of a destroy
abbrev pub passive_row : Table → ℕ → Reply
passive_row t g = refuse (not (is_active (record_at t g))) (Err TargetPassive) Done

-- row 7 by the kind that the check saw
pub passive_seen : {t : Table} {a s : ℕ} {bad : Bool} {wanted : ℕ} {need : Need} {seen : Opened} → SlotOpened t a s bad wanted need seen
    → passive_row t seen.target ≡ refuse (not (eqb seen.kind 1)) (Err TargetPassive) Done
passive_seen looked = rw (looked.target, looked.kind) refl

abbrev pub itself_row : ℕ → ℕ → Reply
itself_row a g = refuse (eqb g a) (Err ActorItself) Done

module _ {t : Table} {a s : ℕ} where
  pub read_uses : Uses t (read a s) a s false alive ReadOrWeak Done
  unfolding bad_field later_rows
  read_uses = record { actor = refl; fields = sym (or_false _); later = refl }

  pub write_uses : {w : ℕ} → Uses t (write a s w) a s false alive Write Done
  unfolding bad_field later_rows
  write_uses = record { actor = refl; fields = sym (or_false _); later = refl }

  pub fetch_uses : {i j : ℕ} → Uses t (fetch a s i j) a s (no_slot i || no_slot j) alive ReadOrWeak Done
  unfolding bad_field later_rows
  fetch_uses {i} {j} = record { actor = refl; fields = or_assoc (no_object a || no_slot s) (no_slot i) (no_slot j); later = refl }

  pub store_uses : {i j : ℕ} → Uses t (store a s i j) a s (no_slot i || no_slot j) alive Write Done
  unfolding bad_field later_rows
  store_uses {i} {j} = record { actor = refl; fields = or_assoc (no_object a || no_slot s) (no_slot i) (no_slot j); later = refl }

  pub revoke_uses : {j : ℕ} → Uses t (revoke a s j) a s (no_slot j) alive Write Done
  unfolding bad_field later_rows
  revoke_uses = record { actor = refl; fields = refl; later = refl }

  -- `b` is what the code found of the list
  pub send_uses : {w : ℕ} {l : List Pair} {y : ℕ} {b : Bool} → b ≡ bad_list l
      → Uses t (send a s w l y) a s (b || ltb 8 y) alive Send (passive_row t (target_of t a s))
  unfolding bad_field later_rows
  send_uses {w} {l} {y} {b} e = record {
    actor = refl;
    fields = or_assoc (no_object a || no_slot s) (bad_list l) (ltb 8 y) ∙ ap (λ (x : Bool). no_object a || no_slot s || (x || ltb 8 y)) (sym e);
    later = refl;
  }

  pub destroy_uses : Uses t (destroy a s) a s false alive Write (itself_row a (target_of t a s))
  unfolding bad_field later_rows
  destroy_uses = record { actor = refl; fields = sym (or_false _); later = refl }

  pub reclaim_uses : Uses t (reclaim a s) a s false dead Write Done
  unfolding bad_field later_rows
  reclaim_uses = record { actor = refl; fields = sym (or_false _); later = refl }

-- a send's list, where its fields are in range
pub send_list : (l : PairList) (y : ℕ) (b : Bool) → b ≡ bad_list (pairs_of l) → (b || ltb 8 y) ≡ false → PairsFit l
send_list l y b e f = pairs_fit l (sym e ∙ (or_none b (ltb 8 y) f).0)

-- allocate: `b` is what the code found of the list, `r` the actor's record, `h`, `rest` and `w` what it found of the stock -----
pub allocate_fields : {a n kind part i : ℕ} {l : List Pair} {b : Bool} → b ≡ bad_list l
    → Fields (allocate a n kind part i l) (no_object a || no_object n || ltb 1 kind || no_slot i || b)
unfolding bad_field
allocate_fields {a} {n} {kind} {part} {i} {l} {b} e = record { found = ap (λ (x : Bool). no_object a || no_object n || ltb 1 kind || no_slot i || x) (sym e) }

pub allocate_later : {t : Table} {a n kind part i : ℕ} {l : List Pair} {r : Record} {h w : Bool} {rest : ℕ} → r ≡ record_at t a
    → h ≡ has n r.stock → rest ≡ excluding n r.stock → w ≡ subset_of part rest
    → Later t (allocate a n kind part i l) (refuse (not h || not w) (Err NotInStock) Done)
unfolding later_rows not_in_stock
allocate_later e p q w = record { found = rw (p, w, q, e) refl }

pub record AllocatePlaced (a n i : ℕ) (l : PairList) : Type 0 where
  pub actor : a < 64
  pub number : n < 64
  pub slot : i < 8
  pub list : PairsFit l

pub allocate_placed : (a n kind i : ℕ) (l : PairList) {b : Bool} → b ≡ bad_list (pairs_of l) → (no_object a || no_object n || ltb 1 kind || no_slot i || b) ≡ false
    → AllocatePlaced a n i l
allocate_placed a n kind i l {b} e f =
    let p = or_none (no_object a || no_object n || ltb 1 kind || no_slot i) b f in
    let q = or_none (no_object a || no_object n || ltb 1 kind) (no_slot i) p.0 in
    let r = or_none (no_object a || no_object n) (ltb 1 kind) q.0 in
    let u = or_none (no_object a) (no_object n) r.0 in
    record {
      actor = omega (arith, ltb-false 63 a u.0);
      number = omega (arith, ltb-false 63 n u.1);
      slot = omega (arith, ltb-false 7 i q.1);
      list = pairs_fit l (sym e ∙ p.1);
    }

-- a code with no request
pub unknown_fields : {code a : ℕ} → Fields (unknown code a) true
unfolding bad_field
unknown_fields = record { found = refl }
