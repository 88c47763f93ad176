-- "here every capability held in the table gives a link, members' included": on a sound table the links of the table's holding are those of its
-- capabilities, whoever holds them. Assumes nothing.
use mathlib.Core.Path.{◌≡◌, refl, sym, ◌∙◌, ap}
use mathlib.Core.Bool.{true, false, ◌&&◌, ◌||◌}
use Prim.Native.Nat.{ℕ, ◌+◌, ◌*◌, ◌/◌, ◌%◌, ◌≤◌, ◌<◌}
use native.Mathlib.Omega.{arith}
use lib.Dec.{eqb}
use borrow.Author.Tests.{eqb-true}
use Rattle.mask.specs.Sets.{has}
use Rattle.mask.proofs.Tests.{by_eq, clash, and_true, and_intro, or_cases}
use Rattle.mask.proofs.Below.{any_intro, any_elim}
use Rattle.mask.proofs.Bits.{has_zero}
use Rattle.table.specs.declared.Capability.{Capability}
use Rattle.table.specs.declared.Table.{Table}
use Rattle.table.specs.Cells.{slot_at, slot_of, has_wk}
use Rattle.table.proofs.Cells.{table_sized}
use Rattle.table.proofs.SoundFacts.{Sound, sound_facts}
use Rattle.relation.specs.Relation.{wk, table_holding}
use Rattle.relation.specs.Closure.{link}
use Rattle.relation.proofs.Exact.{edge_low, table_low}
use Rattle.relation.proofs.Tables.{takes_part_lem}
use Rattle.access.specs.Answers.{born_outside}
use Rattle.access.proofs.TableWords.{outside_intro}
use Rattle.links.specs.Links.{word_edge, slot_holding, has_strong, capability_link}
use Rattle.links.proofs.Edges.{links_are_edges}
use Rattle.links.proofs.Holdings.{inside, slot_link, table_links}
use Rattle.groups.specs.Exactness.{HeldLink, held, EveryCapabilityLinks}

-- who holds something
no_link : (n : ℕ) (c : Capability) (u v : ℕ) → c.rights ≡ 0 → capability_link n c u v ≡ false
unfolding capability_link
no_link n c u v z = rw (z, capability_link) refl

some_right : (n : ℕ) (c : Capability) (u v : ℕ) → capability_link n c u v ≡ true → 1 ≤ c.rights
some_right n c u v e = by_eq c.rights 0 (λ z. clash e (no_link n c u v z)) (λ z. omega (arith, z))

-- a link is between the holder and the target
ends : {P : Type 0} (n : ℕ) (c : Capability) (u v : ℕ) → capability_link n c u v ≡ true → (u ≡ n → v ≡ c.target → P) → (u ≡ c.target → v ≡ n → P) → P
unfolding capability_link
ends n c u v e f g = or_cases (has_strong c.rights && (eqb u n && eqb v c.target)) _ e
    (λ p. let q = and_true (eqb u n) _ (and_true (has_strong c.rights) _ p).1 in f (eqb-true u n q.0) (eqb-true v c.target q.1))
    (λ p. let q = and_true (eqb u c.target) _ (and_true (has_strong c.rights || has_wk c.rights) _ p).1 in g (eqb-true u c.target q.0) (eqb-true v n q.1))

module _ (t : Table) where
  abbrev N : ℕ
  N = born_outside t.records 0

  -- the links of the slots are the links of the table
  link_is : (u v : ℕ) → u < 64 → v < 64 → link (slot_holding t.slots N) u v ≡ link (table_holding t) u v
  link_is u v hu hv = sym (links_are_edges (slot_holding t.slots N) u v hu hv) ∙ ap (λ w. word_edge w u v) (table_links t) ∙ links_are_edges (table_holding t) u v hu hv

  held_links : Sound t → (u v : ℕ) → HeldLink t u v → link (table_holding t) u v ≡ true
  held_links d u v (held n j hn hj e) =
      let c = slot_at t n j in
      let r = some_right n c u v e in
      let pn = takes_part_lem t d n (omega (arith, (d.slots n j hj).held r)) in
      let pt = takes_part_lem t d c.target ((d.slots n j hj).named r) in
      let lt = table_low t c.target pt in
      let k : (n * 8 + j) / 8 ≡ n = omega arith in
      let in' : inside t.slots N (n * 8 + j) ≡ true = and_intro _ _ (ap (λ (i : ℕ). has i N) k ∙ outside_intro t 0 n pn (has_zero n)) (outside_intro t 0 c.target pt (has_zero c.target)) in
      let low : (u < 64) × (v < 64) = ends n c u v e (λ a b. (omega (arith, a, hn), omega (arith, b, lt))) (λ a b. (omega (arith, a, lt), omega (arith, b, hn))) in
      sym (link_is u v low.0 low.1) ∙ sym (slot_link t.slots N u v low.0 low.1)
      ∙ any_intro 512 _ (n * 8 + j) (omega arith) (and_intro (inside t.slots N (n * 8 + j)) _ in' (ap (λ (i : ℕ). capability_link i c u v) k ∙ e))

  links_held : (u v : ℕ) → link (table_holding t) u v ≡ true → HeldLink t u v
  links_held u v e =
      let l = edge_low (table_holding t) (table_low t) wk v u e in
      any_elim 512 _ (slot_link t.slots N u v l.1 l.0 ∙ link_is u v l.1 l.0 ∙ e) (λ k hk a.
      let p = and_true (inside t.slots N k) _ a in
      let at : k / 8 * 8 + k % 8 ≡ k = omega arith in
      held (k / 8) (k % 8) (omega arith) (omega arith) (ap (λ (i : ℕ). capability_link (k / 8) (slot_of t.slots i) u v) at ∙ p.1))

pub every_capability_links : EveryCapabilityLinks
unfolding EveryCapabilityLinks
every_capability_links t z s u v = (held_links t (sound_facts t (table_sized t z) s) u v, links_held t u v)
