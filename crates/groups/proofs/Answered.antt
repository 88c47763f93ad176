-- What the call asks of its helpers, and what it answers of a sound table. Assumes nothing.
use mathlib.Core.Path.{◌≡◌, refl, sym, ◌∙◌, ap}
use mathlib.Core.Bool.{Bool, true, false, not, ◌&&◌, ◌||◌}
use mathlib.Core.List.{List}
use Prim.Native.Nat.{ℕ, zero, suc, ◌/◌, ◌%◌, ◌≤◌, ◌<◌}
use native.Mathlib.Omega.{arith}
use lib.Dec.{eqb}
use lib.ListN.{get_or}
use borrow.Author.Tests.{eqb-true, eqb-false, ne_eqb, not-true}
use Rattle.mask.specs.Sets.{has, all_below}
use Rattle.mask.proofs.Tests.{by_cases, by_eq, clash, and_true, or_cases}
use Rattle.mask.proofs.Below.{all_at, any_elim, any_ext}
use Rattle.mask.proofs.Bits.{has_zero}
use Rattle.table.specs.declared.Table.{Table}
use Rattle.table.specs.Cells.{slot_at, has_wk}
use Rattle.table.specs.Soundness.{sound}
use Rattle.table.proofs.Cells.{Sized}
use Rattle.table.proofs.SoundFacts.{sound_facts}
use Rattle.table.proofs.Lists.{length_tabulate, get_d_tabulate, as_tabulate}
use Rattle.relation.specs.Relation.{rd, wr, wk, tx, table_holding, right_at}
use Rattle.relation.specs.Closure.{holds_strong, row_of}
use Rattle.std.specs.Prelude.{Ok}
use Rattle.relation.proofs.Tables.{takes_part_lem}
use Rattle.access.specs.Answers.{born_outside, access_of}
use Rattle.access.proofs.TableWords.{outside_intro}
use Rattle.links.specs.Links.{words_of, word_edge, slot_held, slot_holding, has_strong}
use Rattle.links.proofs.Edges.{words_same}
use Rattle.held.specs.Helpers.{joins_either, slot_named, held_astray}
use Rattle.held.proofs.Slots.{named_row, join_row}
use Rattle.leads.specs.Helpers.{Joining, group_words, group_links, led_words, Leading}
use Rattle.groups.specs.Helpers.{row_at, laid_out}
use Rattle.groups.proofs.Links.{N, J, W, G, L, joining, leads_on, own, group_row, led_row}

-- the words that the code has, one after another
pub record Worked (t : Table) (n : ℕ) (js ws gs ls : List ℕ) : Type 0 where
  pub born : n ≡ born_outside t.records 0
  pub joins : js ≡ words_of (joins_either false (slot_holding t.slots n))
  pub over : ws ≡ words_of (λ x y. holds_strong (slot_holding t.slots n) x y || slot_held t.slots n wk x y)
  pub groups : gs ≡ group_words (word_edge js) n
  pub links : ls ≡ group_links (word_edge js) (word_edge ws) n

pub joined_words : (t : Table) (n : ℕ) (joins : List ℕ) → n ≡ born_outside t.records 0 → joins ≡ words_of (joins_either false (slot_holding t.slots n))
    → Joining n (word_edge joins)
joined_words t n joins e f = rw (f, e) (joining t)

-- on a sound table nothing is held over an unborn number
pub none_astray : (t : Table) (b r : Bool) (n : ℕ) → Sized t → b ≡ sound t → b ≡ true → n ≡ born_outside t.records 0 → r ≡ held_astray t.slots n → r ≡ false
unfolding held_astray
none_astray t b r n z s e o h =
    let d = sound_facts t z (sym s ∙ e) in
    by_cases r (λ y. any_elim 64 _ (sym h ∙ y) (λ x hx a. any_elim 8 _ (and_true (has x n) _ a).1 (λ j hj c.
    let q = and_true (not (eqb (slot_at t x j).rights 0)) _ c in
    let k = takes_part_lem t d (slot_at t x j).target ((d.slots x j hj).named (omega (arith, eqb-false (slot_at t x j).rights 0 (not-true _ q.0)))) in
    clash (ap (has (slot_at t x j).target) o ∙ outside_intro t 0 (slot_at t x j).target k (has_zero (slot_at t x j).target)) (not-true _ q.1))))
    (λ y. y)

-- some right is rd, wr or tx, or wk
some_right : (r : ℕ) → r ≤ 15 → not (eqb r 0) ≡ (has_strong r || has_wk r)
unfolding all_below
some_right r h = by_eq r 0 (λ z. rw z refl) (λ z. rw (ne_eqb r 0 z)
    (sym (or_cases (eqb r 0) (has_strong r || has_wk r) (all_at 16 (λ k. eqb k 0 || (has_strong k || has_wk k)) refl r (omega arith)) (λ e. absurd (z (eqb-true r 0 e))) (λ e. e))))

-- so on a sound table what is named is held
pub named_held : (t : Table) (b : Bool) (n : ℕ) (ws : List ℕ) → Sized t → b ≡ sound t → b ≡ true → ws ≡ words_of (slot_named t.slots n)
    → ws ≡ words_of (λ x y. holds_strong (slot_holding t.slots n) x y || slot_held t.slots n wk x y)
named_held t b n ws z s e f =
    let d = sound_facts t z (sym s ∙ e) in
    f ∙ words_same _ _ (λ x y hx hy. named_row t.slots n x y
    ∙ ap (λ (a : Bool). has x n && a) (any_ext 8 _ _ (λ j hj. ap (λ (a : Bool). a && eqb y (slot_at t x j).target)
    (ap (λ (a : Bool). has (slot_at t x j).target n && a) (some_right (slot_at t x j).rights (d.slots x j hj).high)
    ∙ two (has (slot_at t x j).target n) (has_strong (slot_at t x j).rights) (has_wk (slot_at t x j).rights))))
    ∙ sym (join_row t.slots n x true y))
  where
    two : (p a b : Bool) → (p && (a || b)) ≡ ((p && a) || (p && b))
    two true a b = refl
    two false a b = refl

module _ (t : Table) (n : ℕ) (js ws gs ls : List ℕ) (p : Worked t n js ws gs ls) where
  joins_are : js ≡ J t
  joins_are = p.joins ∙ ap (λ (m : ℕ). words_of (joins_either false (slot_holding t.slots m))) p.born

  over_are : ws ≡ W t
  over_are = p.over ∙ ap (λ (m : ℕ). words_of (λ x y. holds_strong (slot_holding t.slots m) x y || slot_held t.slots m wk x y)) p.born

  groups_are : gs ≡ G t
  groups_are = p.groups ∙ rw (joins_are, p.born) refl

  links_are : ls ≡ L t
  links_are = p.links ∙ rw (joins_are, over_are, p.born) refl

  pub leading_words : Leading gs ls
  leading_words = rw (groups_are, links_are) (leads_on t)

  pub own_words : (u : ℕ) → u < 64 → has u n ≡ has u (get_or gs u 0)
  own_words u h = rw (groups_are, p.born) (own t u h)

  -- the row at k
  row : (k q : ℕ) → k / 64 ≡ q → k < 256 → row_at (G t) (led_words (word_edge (L t)) (N t)) k ≡ row_of (table_holding t) (right_at q) (k % 64)
  unfolding row_at row_of
  row k zero e h = rw (e, row_at) (group_row t rd (k % 64) (omega arith) refl)
  row k (suc zero) e h = rw (e, row_at) (group_row t wr (k % 64) (omega arith) refl)
  row k (suc (suc zero)) e h = rw (e, row_at) (led_row t (k % 64) (omega arith))
  row k (suc (suc (suc zero))) e h = rw (e, row_at) (group_row t tx (k % 64) (omega arith) refl)
  row k (suc (suc (suc (suc q)))) e h = absurd (omega (arith, e))

  pub access_done : (b : Bool) (led rows : List ℕ) → b ≡ sound t → b ≡ true → led ≡ led_words (word_edge ls) n → rows ≡ laid_out gs led
      → Ok rows ≡ access_of t
  unfolding access_of laid_out
  access_done b led rows s e f g =
      let z : rows ≡ laid_out (G t) (led_words (word_edge (L t)) (N t)) = g ∙ rw (f, groups_are, links_are, p.born) refl in
      rw (sym s ∙ e, access_of) (ap (λ (r : List ℕ). Ok r) (z ∙ as_tabulate 256 _ 0 _ (length_tabulate 256 _)
      (λ k h. get_d_tabulate 256 _ k 0 h ∙ row k (k / 64) refl h)))
