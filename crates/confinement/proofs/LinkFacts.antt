-- A link of 2.1: what is computed is what 2.1 says, one capability of a non-member's slot or of an entry, and, where the test is
-- accepted, the link of the test's holding. Assumes nothing.
use mathlib.Core.Path.{◌≡◌, refl, sym, ◌∙◌, ap₂}
use mathlib.Core.Bool.{true, false, not, ◌&&◌, ◌||◌, false≢true}
use mathlib.Core.List.{List}
use Prim.Native.Nat.{ℕ, ◌<◌}
use lib.Dec.{ltb, eqb}
use lib.ListN.{length}
use borrow.Author.Tests.{ltb-true, lt-ltb, eqb-true, eq-eqb, not-true}
use Rattle.mask.specs.Sets.{has}
use Rattle.mask.proofs.Tests.{by_cases, bool_ext, and_true, and_intro, or_cases, or_left, or_right}
use Rattle.mask.proofs.Below.{any_intro, any_elim}
use Rattle.table.specs.declared.Capability.{Capability}
use Rattle.table.specs.declared.Table.{Table}
use Rattle.table.specs.Cells.{slot_at, has_wk}
use Rattle.table.proofs.SoundFacts.{Sound}
use Rattle.relation.specs.Relation.{Right, rd, wr, wk, tx, bit_at, Holding, holds_in}
use Rattle.relation.specs.Closure.{both_take_part, holds_strong, link}
use Rattle.relation.proofs.Exact.{is_strong, bond_link, held_bond, held_link}
use Rattle.links.specs.Links.{has_strong, capability_link}
use Rattle.bounds.specs.StandIn.{entry_at, listed as listed_in, stand_in, test_node, test_held, test_holding}
use Rattle.bounds.proofs.Exact.{node_low}
use Rattle.confinement.proofs.TestFacts.{Facts}
use Rattle.confinement.proofs.Held.{Has, has_target, slot_has, entry_has}
use Rattle.confinement.specs.Links.{Link, held, listed, slots_link, list_link, linked}

-- one capability ----------------------------------------------------------------------------
-- its holder is one of the link's ends
by_end : {P : Type 0} (n : ℕ) (c : Capability) (u v : ℕ) → capability_link n c u v ≡ true → (n ≡ u → P) → (n ≡ v → P) → P
unfolding capability_link
by_end n c u v e f g = or_cases (has_strong c.rights && (eqb u n && eqb v c.target)) _ e
    (λ p. f (sym (eqb-true u n (and_true (eqb u n) _ (and_true (has_strong c.rights) _ p).1).0)))
    (λ p. g (sym (eqb-true v n (and_true (eqb u c.target) (eqb v n) (and_true (has_strong c.rights || has_wk c.rights) _ p).1).1)))

strong_has : {P : Type 0} (r : ℕ) → has_strong r ≡ true → ((b : Right) → is_strong b ≡ true → has (bit_at b) r ≡ true → P) → P
strong_has r e f = or_cases (has 0 r || has 1 r) (has 3 r) e (λ q. or_cases (has 0 r) (has 1 r) q (f rd refl) (f wr refl)) (f tx refl)

has_strong_lem : (b : Right) (r : ℕ) → is_strong b ≡ true → has (bit_at b) r ≡ true → has_strong r ≡ true
has_strong_lem rd r s e = or_left (has 0 r || has 1 r) (has 3 r) (or_left (has 0 r) (has 1 r) e)
has_strong_lem wr r s e = or_left (has 0 r || has 1 r) (has 3 r) (or_right (has 0 r) (has 1 r) e)
has_strong_lem wk r s e = absurd (false≢true s)
has_strong_lem tx r s e = or_right (has 0 r || has 1 r) (has 3 r) e

has_some : (b : Right) (r : ℕ) → has (bit_at b) r ≡ true → (has_strong r || has_wk r) ≡ true
has_some rd r e = or_left (has_strong r) (has_wk r) (has_strong_lem rd r refl e)
has_some wr r e = or_left (has_strong r) (has_wk r) (has_strong_lem wr r refl e)
has_some wk r e = or_right (has_strong r) (has_wk r) e
has_some tx r e = or_left (has_strong r) (has_wk r) (has_strong_lem tx r refl e)

-- an rd, wr or tx leads from holder to target, every right from target to holder
leads_on : (b : Right) (x y : ℕ) (c : Capability) → is_strong b ≡ true → c.target ≡ y → has (bit_at b) c.rights ≡ true → capability_link x c x y ≡ true
unfolding capability_link
leads_on b x y c s q e = or_left (has_strong c.rights && (eqb x x && eqb y c.target)) _
    (and_intro _ _ (has_strong_lem b c.rights s e) (and_intro _ _ (eq-eqb x x refl) (eq-eqb y c.target (sym q))))

leads_back : (b : Right) (x y : ℕ) (c : Capability) → c.target ≡ y → has (bit_at b) c.rights ≡ true → capability_link x c y x ≡ true
unfolding capability_link
leads_back b x y c q e = or_right (has_strong c.rights && (eqb y x && eqb x c.target)) _
    (and_intro _ _ (has_some b c.rights e) (and_intro _ _ (eq-eqb y c.target (sym q)) (eq-eqb x x refl)))

module _ (t : Table) (members : ℕ) (list : List Capability) where
  -- what is computed, and 2.1's words -------------------------------------------------------------
  slots_intro : (n j u v : ℕ) → n < 64 → has n members ≡ false → j < 8 → capability_link n (slot_at t n j) u v ≡ true → slots_link t members n u v ≡ true
  unfolding slots_link
  slots_intro n j u v hn o hj e = and_intro (ltb n 64) _ (lt-ltb n 64 hn) (and_intro (not (has n members)) _ (rw o refl) (any_intro 8 _ j hj e))

  slots_elim : {P : Type 0} (n u v : ℕ) → slots_link t members n u v ≡ true
      → ((j : ℕ) → n < 64 → has n members ≡ false → j < 8 → capability_link n (slot_at t n j) u v ≡ true → P) → P
  unfolding slots_link
  slots_elim n u v e f =
      let p = and_true (ltb n 64) _ e in
      let q = and_true (not (has n members)) _ p.1 in
      any_elim 8 _ q.1 (λ j hj a. f j (ltb-true n 64 p.0) (not-true _ q.0) hj a)

  pub link_linked : (u v : ℕ) → Link t members list u v → linked t members list u v ≡ true
  unfolding linked list_link
  link_linked u v (held n j hn o hj e) =
      let s = slots_intro n j u v hn o hj e in
      or_left (slots_link t members u u v || slots_link t members v u v) _
      (by_end n (slot_at t n j) u v e
      (λ q. or_left (slots_link t members u u v) _ (rw q at s))
      (λ q. or_right (slots_link t members u u v) _ (rw q at s)))
  link_linked u v (listed k h e) = or_right (slots_link t members u u v || slots_link t members v u v) _ (any_intro (length list) _ k h e)

  pub linked_link : (u v : ℕ) → linked t members list u v ≡ true → Link t members list u v
  unfolding linked list_link
  linked_link u v e = or_cases (slots_link t members u u v || slots_link t members v u v) _ e
      (λ p. or_cases (slots_link t members u u v) (slots_link t members v u v) p
      (λ s. slots_elim u u v s (λ j hn o hj a. held u j hn o hj a))
      (λ s. slots_elim v u v s (λ j hn o hj a. held v j hn o hj a)))
      (λ p. any_elim (length list) _ p (λ k h a. listed k h a))

  -- the test's holding --------------------------------------------------------------------------------
  abbrev H : Holding
  H = test_holding t members list

  -- what is held in it is held by a slot or listed
  held_by : {P : Type 0} (b : Right) (x y : ℕ) → x < 64 → test_held t members list b x y ≡ true
      → ((c : Capability) → c.target ≡ y → has (bit_at b) c.rights ≡ true → ((u v : ℕ) → capability_link x c u v ≡ true → Link t members list u v) → P) → P
  unfolding test_held holds_in listed_in
  held_by b x y h e f = by_cases (has x members)
      (λ m.
      let p = and_true (eqb x (stand_in members)) _ (and_true (not (has y members)) _ (rw (m, test_held) at e)).1 in
      any_elim (length list) _ p.1 (λ k hk a.
      let q = and_true (eqb (entry_at list k).target y) _ a in
      f (entry_at list k) (eqb-true _ y q.0) q.1 (λ u v g. listed k hk (rw (eqb-true x (stand_in members) p.0) at g))))
      (λ m.
      let p = and_true (not (has y members)) _ (rw (m, test_held) at e) in
      any_elim 8 _ p.1 (λ j hj a.
      let q = and_true (eqb (slot_at t x j).target y) _ a in
      f (slot_at t x j) (eqb-true _ y q.0) q.1 (λ u v g. held x j h m hj g)))

  strong_by : {P : Type 0} (x y : ℕ) → holds_strong H x y ≡ true → ((b : Right) → is_strong b ≡ true → test_held t members list b x y ≡ true → P) → P
  unfolding holds_strong
  strong_by x y e f = or_cases (H.held rd x y || H.held wr x y) _ e (λ q. or_cases (H.held rd x y) _ q (f rd refl) (f wr refl)) (f tx refl)

  test_link : (u v : ℕ) → link H u v ≡ true → Link t members list u v
  unfolding link both_take_part
  test_link u v e =
      let p = and_true (test_node t members u && test_node t members v) _ e in
      let n = and_true (test_node t members u) (test_node t members v) p.0 in
      let lu = node_low t members list u n.0 in
      let lv = node_low t members list v n.1 in
      or_cases (holds_strong H u v || holds_strong H v u) _ p.1
      (λ q. or_cases (holds_strong H u v) _ q
      (λ s. strong_by u v s (λ b i h. held_by b u v lu h (λ c w r k. k u v (leads_on b u v c i w r))))
      (λ s. strong_by v u s (λ b i h. held_by b v u lv h (λ c w r k. k u v (leads_back b v u c w r)))))
      (λ s. held_by wk v u lv s (λ c w r k. k u v (leads_back wk v u c w r)))

  module _ (d : Sound t) (ok : Facts t members list) where
    abbrev Held : Right → ℕ → ℕ → Type 0
    Held b x y = Has t members list d ok b x y

    link_on : (b : Right) (x y : ℕ) → is_strong b ≡ true → Held b x y → link H x y ≡ true
    link_on b x y s h = bond_link H x y (held_bond H b x y h.holder (has_target t members list d ok h) s h.held)

    link_back_lem : (b : Right) (x y : ℕ) → Held b x y → link H y x ≡ true
    link_back_lem b x y h = held_link H b x y h.holder (has_target t members list d ok h) h.held

    cap_link : (n : ℕ) (c : Capability) (u v : ℕ) → ((b : Right) → has (bit_at b) c.rights ≡ true → Held b n c.target) → capability_link n c u v ≡ true → link H u v ≡ true
    unfolding capability_link
    cap_link n c u v f e = or_cases (has_strong c.rights && (eqb u n && eqb v c.target)) _ e
        (λ p.
        let q = and_true (has_strong c.rights) _ p in
        let w = and_true (eqb u n) _ q.1 in
        ap₂ (link H) (eqb-true u n w.0) (eqb-true v c.target w.1) ∙ strong_has c.rights q.0 (λ b s h. link_on b n c.target s (f b h)))
        (λ p.
        let q = and_true (has_strong c.rights || has_wk c.rights) _ p in
        let w = and_true (eqb u c.target) _ q.1 in
        ap₂ (link H) (eqb-true u c.target w.0) (eqb-true v n w.1)
        ∙ or_cases (has_strong c.rights) (has_wk c.rights) q.0
        (λ s. strong_has c.rights s (λ b i h. link_back_lem b n c.target (f b h)))
        (λ s. link_back_lem wk n c.target (f wk s)))

    link_test : (u v : ℕ) → Link t members list u v → link H u v ≡ true
    link_test u v (held n j hn o hj e) = cap_link n (slot_at t n j) u v (λ b h. slot_has t members list d ok n j b hj o h) e
    link_test u v (listed k h e) = cap_link (stand_in members) (entry_at list k) u v (λ b r. entry_has t members list d ok k b h r) e

    -- In plain words: of an accepted test, a link of 2.1 is a link of the test's holding
    pub linked_test : (u v : ℕ) → linked t members list u v ≡ link H u v
    linked_test u v = bool_ext _ _ (λ e. link_test u v (linked_link u v e)) (λ e. link_linked u v (test_link u v e))
