-- The words of slots, of one holder more, and of a table: each holding is a union of single capabilities, so its links are theirs.
-- Assumes nothing.
use mathlib.Core.Path.{◌≡◌, sym, ◌∙◌, ap, ap₂}
use mathlib.Core.Bool.{Bool, ◌&&◌, ◌||◌}
use mathlib.Core.List.{List, []}
use Prim.Native.Nat.{ℕ, ◌/◌, ◌<◌}
use lib.Dec.{eqb}
use borrow.Author.Tests.{eqb-true, eq-eqb}
use Rattle.mask.specs.Sets.{has, any_below}
use Rattle.mask.proofs.Tests.{bool_ext, and_true, and_intro, or_cases, or_left, or_right}
use Rattle.mask.proofs.Below.{any_intro, any_elim}
use Rattle.mask.proofs.Bits.{has_zero}
use Rattle.table.specs.Cells.{slot_of}
use Rattle.table.specs.declared.Capability.{Capability}
use Rattle.table.specs.declared.Table.{Table}
use Rattle.relation.specs.Relation.{Right, Holding, takes_part, holds_in, table_holding}
use Rattle.relation.specs.Closure.{both_take_part, holds_strong, link}
use Rattle.access.specs.Answers.{born_outside}
use Rattle.access.proofs.TableWords.{outside_facts, outside_intro}
use Rattle.relation.proofs.Tables.{slot_held_lem, held_slot}
use Rattle.links.specs.Links.{link_words, slot_held, slot_holding, entry_held, with_holder, capability_link, joined, entry_link}
use Rattle.links.proofs.Edges.{words_same, links_are_edges}
use Rattle.links.proofs.Unions.{link_held, Among, link_held_lem, part_once, held_or, row_held, row_intro, row_elim, row_link}

-- both ends of slot k are in the set
abbrev pub inside : List Capability → ℕ → ℕ → Bool
inside slots among k = has (k / 8) among && has (slot_of slots k).target among

-- the target of entry k is in the set
abbrev pub listed : List Capability → ℕ → ℕ → Bool
listed entries among k = has (slot_of entries k).target among

-- slots -----------------------------------------------------------------------------------
module _ (slots : List Capability) (among : ℕ) where
  abbrev to : ℕ → ℕ
  to k = (slot_of slots k).target

  -- a table with these slots, to which the laws of tables apply
  abbrev table : Table
  table = record { records = []; slots = slots }

  pub slot_among : Among (slot_holding slots among)
  unfolding slot_held
  slot_among b x y e = let p = and_true (has x among) _ e in (p.0, (and_true (has y among) _ p.1).0)

  slot_row : (b : Right) (x y : ℕ) → x < 64
      → slot_held slots among b x y ≡ row_held 512 (λ k. k / 8) (slot_of slots) (inside slots among) b x y
  unfolding slot_held holds_in
  slot_row b x y hx = bool_ext _ _
      (λ e.
      let p = and_true (has x among) _ e in
      let q = and_true (has y among) (holds_in table b x y) p.1 in
      held_slot table b x y q.1 hx (λ k h u v r. row_intro 512 (λ i. i / 8) (slot_of slots) (inside slots among) b x y k h
      (and_intro (has (k / 8) among) _ (ap (λ (i : ℕ). has i among) u ∙ p.0) (ap (λ (i : ℕ). has i among) v ∙ q.0)) u v r))
      (λ e. row_elim 512 (λ i. i / 8) (slot_of slots) (inside slots among) b x y e (λ k h w u v r.
      let p = and_true (has (k / 8) among) (has (to k) among) w in
      rw (← u, ← v) (and_intro (has (k / 8) among) _ p.0 (and_intro (has (to k) among) _ p.1 (slot_held_lem table b k r)))))

  -- the links of the slots are those of their capabilities
  pub slot_link : (x y : ℕ) → x < 64 → y < 64
      → any_below 512 (λ k. inside slots among k && capability_link (k / 8) (slot_of slots k) x y) ≡ link (slot_holding slots among) x y
  slot_link x y hx hy = sym (link_held_lem (slot_holding slots among) x y slot_among
      ∙ row_link 512 (λ k. k / 8) (slot_of slots) (inside slots among) (slot_held slots among) x y
      (λ b. slot_row b x y hx) (λ b. slot_row b y x hy))

-- entries of one holder more ----------------------------------------------------------------
module _ (entries : List Capability) (n among x : ℕ) where
  abbrev over : ℕ → ℕ
  over k = (slot_of entries k).target

  entry_row : (b : Right) (u v : ℕ)
      → entry_held entries n among x b u v ≡ row_held n (λ k. x) (slot_of entries) (listed entries among) b u v
  unfolding entry_held
  entry_row b u v = bool_ext _ _
      (λ e.
      let p = and_true (eqb u x) _ e in
      let q = and_true (has v among) _ p.1 in
      any_elim n _ q.1 (λ k h a.
      let z = and_true (eqb (over k) v) _ a in
      let at = eqb-true (over k) v z.0 in
      row_intro n (λ i. x) (slot_of entries) (listed entries among) b u v k h
      (ap (λ (i : ℕ). has i among) at ∙ q.0) (sym (eqb-true u x p.0)) at z.1))
      (λ e. row_elim n (λ i. x) (slot_of entries) (listed entries among) b u v e (λ k h w s t r.
      and_intro (eqb u x) _ (eq-eqb u x (sym s)) (and_intro (has v among) _ (ap (λ (i : ℕ). has i among) (sym t) ∙ w)
      (any_intro n _ k h (and_intro (eqb (over k) v) _ (eq-eqb (over k) v t) r)))))

  entry_link_lem : (u v : ℕ) → link_held (entry_held entries n among x) u v ≡ entry_link entries n among x u v
  unfolding entry_link
  entry_link_lem u v = row_link n (λ k. x) (slot_of entries) (listed entries among) (entry_held entries n among x) u v
      (λ b. entry_row b u v) (λ b. entry_row b v u)

  module _ (slots : List Capability) where
    abbrev more : Holding
    more = with_holder slots among entries n x

    more_among : Among more
    unfolding entry_held
    more_among b u v e = or_cases (slot_held slots among b u v) _ e
        (λ s. let p = slot_among slots among b u v s in (or_left (has u among) _ p.0, or_left (has v among) _ p.1))
        (λ s.
        let p = and_true (eqb u x) _ s in
        (or_right (has u among) _ p.0, or_left (has v among) _ (and_true (has v among) _ p.1).0))

    more_link : (u v : ℕ) → (link (slot_holding slots among) u v || entry_link entries n among x u v) ≡ link more u v
    more_link u v =
        ap₂ (λ (s t : Bool). s || t) (link_held_lem (slot_holding slots among) u v (slot_among slots among)) (sym (entry_link_lem u v))
        ∙ sym (link_held_lem more u v more_among ∙ held_or (slot_held slots among) (entry_held entries n among x) u v)

-- The theorem of one holder more. In plain words: the words of the slots, joined with the links of the entries that x holds, are the
-- words of the slots and x together, whether or not x is in the set
pub entries_join : (slots : List Capability) (among : ℕ) (entries : List Capability) (n x : ℕ)
    → joined (link_words (slot_holding slots among)) (entry_link entries n among x) ≡ link_words (with_holder slots among entries n x)
unfolding joined link_words
entries_join slots among entries n x = words_same _ _ (λ u v hu hv.
    ap (λ (t : Bool). t || entry_link entries n among x u v) (links_are_edges (slot_holding slots among) u v hu hv)
    ∙ more_link entries n among x slots u v)

-- a table ---------------------------------------------------------------------------------------
pub born_part : (t : Table) (n : ℕ) → has n (born_outside t.records 0) ≡ takes_part t n
born_part t n = bool_ext _ _ (λ e. (outside_facts t 0 n e).0) (λ e. outside_intro t 0 n e (has_zero n))

-- The theorem of a table. In plain words: the words of a table's slots between born numbers are the words of the table, sound or not
pub table_links : (t : Table) → link_words (slot_holding t.slots (born_outside t.records 0)) ≡ link_words (table_holding t)
unfolding link_words link both_take_part holds_strong slot_held holds_in link_held
table_links t = words_same _ _ (λ x y hx hy.
    part_once (λ n. has n (born_outside t.records 0)) (holds_in t) x y
    ∙ ap₂ (λ (p q : Bool). (p && q) && link_held (holds_in t) x y) (born_part t x) (born_part t y))
