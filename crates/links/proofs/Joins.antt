-- Links joined into words one capability after another, as the loops over slots and over entries do: each step adds the edges of
-- its capability and no other. Assumes nothing.
use mathlib.Core.Path.{◌≡◌, refl, sym, ◌∙◌, ap, ap₂}
use mathlib.Core.Bool.{Bool, true, false, ◌&&◌, ◌||◌}
use mathlib.Core.List.{List}
use Prim.Native.Nat.{ℕ, ◌+◌, ◌<◌}
use native.Mathlib.Numerals.{add-one}
use native.Mathlib.Omega.{arith}
use lib.Dec.{eqb}
use lib.ListN.{get_or, set, length-set}
use lib.Seq.{get_or-set_same, get_or-set_other}
use borrow.Author.Tests.{eq-eqb, ne_eqb}
use Rattle.mask.specs.Sets.{bits, any_below, including}
use Rattle.mask.proofs.Tests.{by_eq, or_false, or_assoc, and_true}
use Rattle.mask.proofs.Below.{any_last}
use Rattle.mask.proofs.Bits.{bits_same}
use Rattle.table.specs.declared.Capability.{Capability}
use Rattle.table.specs.Cells.{has_wk}
use Rattle.table.proofs.Lists.{length_tabulate, get_d_tabulate, as_tabulate}
use Rattle.links.specs.Links.{words_of, has_strong, capability_link}
use Rattle.links.specs.Helpers.{edge_if, link_if}
use Rattle.links.proofs.Edges.{words_edge, words_same}

-- the edge from u to v, where it is wanted
abbrev pub one : Bool → ℕ → ℕ → ℕ → ℕ → Bool
one on u v a b = on && (eqb a u && eqb b v)

pub edge_more : (e : ℕ → ℕ → Bool) (on : Bool) (u v : ℕ) → (on ≡ true → (u < 64) × (v < 64))
    → edge_if on (words_of e) u v ≡ words_of (λ a b. e a b || one on u v a b)
unfolding edge_if including
edge_more e false u v low = words_same _ _ (λ a b ha hb. sym (or_false (e a b)))
edge_more e true u v low =
    let hu = (low refl).0 in
    let word : ℕ → ℕ = λ a. bits 64 (e a) in
    as_tabulate 64 _ 0 _ (length-set (words_of e) u _ ∙ length_tabulate 64 word) (λ a ha. by_eq a u
    (λ q. ap (λ (i : ℕ). get_or (set (words_of e) u (including v (get_or (words_of e) u 0))) i 0) q
    ∙ get_or-set_same (words_of e) u _ 0 (omega (arith, length_tabulate 64 word))
    ∙ bits_same 64 _ _ (λ b hb. ap (λ (t : Bool). t || eqb b v) (words_edge e u b hu hb ∙ ap (λ (i : ℕ). e i b) (sym q))
    ∙ ap (λ (t : Bool). e a b || (t && eqb b v)) (sym (eq-eqb a u q))))
    (λ q. get_or-set_other (words_of e) u a _ 0 q ∙ get_d_tabulate 64 word a 0 ha
    ∙ bits_same 64 _ _ (λ b hb. sym (or_false (e a b)) ∙ ap (λ (t : Bool). e a b || (t && eqb b v)) (sym (ne_eqb a u q)))))

-- two edges in turn are the links of a capability
both_ways : (on s k p q : Bool) → ((on && s) && p || (on && (s || k)) && q) ≡ (on && (s && p || (s || k) && q))
both_ways true s k p q = refl
both_ways false s k p q = refl

pub link_more : (e : ℕ → ℕ → Bool) (on : Bool) (holder : ℕ) (c : Capability) → (on ≡ true → (holder < 64) × (c.target < 64))
    → link_if on (words_of e) holder c ≡ words_of (λ u v. e u v || (on && capability_link holder c u v))
unfolding capability_link link_if
link_more e on holder c low =
    let s = has_strong c.rights in
    let k = has_wk c.rights in
    let f : ℕ → ℕ → Bool = λ a b. e a b || one (on && s) holder c.target a b in
    ap (λ (w : List ℕ). edge_if (on && (s || k)) w c.target holder)
    (edge_more e (on && s) holder c.target (λ t. low (and_true on s t).0))
    ∙ edge_more f (on && (s || k)) c.target holder (λ t. let l = low (and_true on (s || k) t).0 in (l.1, l.0))
    ∙ words_same _ _ (λ a b ha hb. or_assoc (e a b) _ _ ∙ ap (λ (t : Bool). e a b || t) (both_ways on s k _ _))

-- the same as the code does it, in two joins
pub link_steps : (words a b : List ℕ) (on s k : Bool) (holder : ℕ) (c : Capability) → s ≡ has_strong c.rights → k ≡ has_wk c.rights
    → a ≡ edge_if (on && s) words holder c.target → b ≡ edge_if (on && (s || k)) a c.target holder → b ≡ link_if on words holder c
unfolding link_if
link_steps words a b on s k holder c e f p q =
    q ∙ ap (λ (w : List ℕ). edge_if (on && (s || k)) w c.target holder) p
    ∙ ap₂ (λ (t v : Bool). edge_if (on && (t || v)) (edge_if (on && t) words holder c.target) c.target holder) e f

-- a row of capabilities, each with its holder and whether it is wanted: the words after the first k, from the words with the edges e
module _ (e : ℕ → ℕ → Bool) (holder : ℕ → ℕ) (cap : ℕ → Capability) (on : ℕ → Bool) where
  abbrev pub linked_to : ℕ → ℕ → ℕ → Bool
  linked_to k u v = e u v || any_below k (λ i. on i && capability_link (holder i) (cap i) u v)

  pub linked_none : words_of e ≡ words_of (linked_to 0)
  unfolding any_below
  linked_none = words_same _ _ (λ u v hu hv. sym (or_false (e u v)))

  pub linked_more : (k : ℕ) (r q : List ℕ) (b : Bool) → (on k ≡ true → (holder k < 64) × ((cap k).target < 64)) → r ≡ words_of (linked_to k)
      → b ≡ on k → q ≡ link_if b r (holder k) (cap k) → q ≡ words_of (linked_to (k + 1))
  linked_more k r q b low p z m =
      m ∙ ap (λ (t : Bool). link_if t r (holder k) (cap k)) z ∙ ap (λ (w : List ℕ). link_if (on k) w (holder k) (cap k)) p
      ∙ link_more (linked_to k) (on k) (holder k) (cap k) low
      ∙ words_same _ _ (λ u v hu hv. or_assoc (e u v) _ _ ∙ ap (λ (t : Bool). e u v || t) (sym (any_last k _)))
      ∙ ap (λ (n : ℕ). words_of (linked_to n)) (sym (add-one k))
