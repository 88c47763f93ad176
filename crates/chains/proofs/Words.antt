-- The words of the code: those of the test's links without the members have the links of a chain, so the least chain over them is the one
-- that is shown. Assumes nothing.
use mathlib.Core.Path.{◌≡◌, refl, sym, ◌∙◌, ap, fun_ext}
use mathlib.Core.Bool.{Bool, true, false, not, ◌&&◌, and_comm}
use mathlib.Core.List.{List}
use Prim.Native.Nat.{ℕ, ◌^◌, ◌≤◌, ◌<◌}
use native.Mathlib.Omega.{arith}
use lib.Dec.{ltb}
use lib.ListN.{get_or, get_or-eq_default}
use borrow.Author.Tests.{ltb-true, ltb-false, lt-ltb, eqb-true}
use Rattle.mask.specs.Sets.{has, bits, less_of}
use Rattle.mask.proofs.Tests.{by_cases, and_intro}
use Rattle.mask.proofs.Bits.{bits_same, bits_lt, has_zero, has_high}
use Rattle.table.specs.declared.Capability.{Capability}
use Rattle.table.specs.declared.Table.{Table}
use Rattle.table.specs.Cells.{empty_slot}
use Rattle.table.proofs.Lists.{length_tabulate, get_d_tabulate, as_tabulate}
use Rattle.table.proofs.Cells.{Sized}
use Rattle.table.proofs.SoundFacts.{Sound, sound_facts}
use Rattle.access.specs.Answers.{born_outside}
use Rattle.links.specs.Links.{link_words, word_edge, slot_holding, joined, entry_link}
use Rattle.links.proofs.Edges.{words_edge, links_are_edges}
use Rattle.bounds.specs.declared.EntryList.{EntryList}
use Rattle.bounds.specs.StandIn.{entries_of, stand_in, test_holding, bound_of}
use Rattle.bounds.proofs.TestLinks.{code_links}
use Rattle.confinement.specs.Refusals.{verdict_number, verdict_of}
use Rattle.confinement.specs.Tests.{is_accepted}
use Rattle.confinement.proofs.TestFacts.{Facts, accepted_facts}
use Rattle.walks.specs.Chains.{Chain, last, more, least_chain}
use Rattle.walks.specs.Helpers.{in_range}
use Rattle.confinement.specs.Links.{linked, object_link}
use Rattle.chains.specs.Helpers.{chain_words, less_words}
use Rattle.confinement.proofs.LinkFacts.{linked_test}
use Rattle.confinement.proofs.ObjectLinks.{edge_low}
use Rattle.chains.proofs.BoundChains.{bound_chain}

-- the words ---------------------------------------------------------------------------------
chain_in_range : {edge : ℕ → ℕ → Bool} {z x : ℕ} {cs : List ℕ} → ((u v : ℕ) → edge u v ≡ true → (u < 64) × (v < 64)) → Chain edge z x cs → in_range cs ≡ true
unfolding in_range
chain_in_range {edge} {z} {x} low (last e) = and_intro (ltb z 64) true (lt-ltb z 64 (low x z e).1) refl
chain_in_range {edge} {z} {x} low (more {y = y} {cs = cs} e c) = and_intro (ltb y 64) (in_range cs) (lt-ltb y 64 (low x y e).1) (chain_in_range low c)

module _ (t : Table) (members : ℕ) (list : List Capability) (d : Sound t) (ok : Facts t members list) where
  abbrev edge : ℕ → ℕ → Bool
  edge = object_link t members list

  -- the words of the test's holding, without the members
  less_same : (x v : ℕ) → x < 64 → v < 64 → (has v (get_or (link_words (test_holding t members list)) x 0) && not (has v members)) ≡ edge x v
  unfolding object_link
  less_same x v hx hv =
      ap (λ (b : Bool). b && not (has v members)) (links_are_edges (test_holding t members list) x v hx hv ∙ sym (linked_test t members list d ok x v))
      ∙ and_comm (linked t members list x v) _

  pub less_links : less_words (link_words (test_holding t members list)) members ≡ chain_words t members list
  unfolding less_words chain_words less_of
  less_links = as_tabulate 64 _ 0 _ (length_tabulate 64 _)
      (λ x hx. get_d_tabulate 64 _ x 0 hx ∙ bits_same 64 _ _ (λ v hv. less_same x v hx hv))

  -- no edge leads from or to a number above 63
  out_of_range : (u v : ℕ) → ((u < 64) × (v < 64) → ⊥) → edge u v ≡ false
  out_of_range u v f = by_cases (edge u v) (λ e. absurd (f (edge_low t members list d ok u v e))) (λ e. e)

  words_above : (u : ℕ) → 64 ≤ u → get_or (chain_words t members list) u 0 ≡ 0
  unfolding chain_words
  words_above u h = get_or-eq_default (chain_words t members list) 0 (omega (arith, h, length_tabulate 64 (λ a. bits 64 (edge a))))

  word_lt : (u : ℕ) → u < 64 → get_or (chain_words t members list) u 0 < 2 ^ 64
  unfolding chain_words
  word_lt u h = rw (get_d_tabulate 64 (λ a. bits 64 (edge a)) u 0 h) (bits_lt 64 (edge u))

  inside_edge : (u v : ℕ) → u < 64 → v < 64 → word_edge (chain_words t members list) u v ≡ edge u v
  unfolding chain_words
  inside_edge = words_edge edge

  all_edges : (u v : ℕ) → word_edge (chain_words t members list) u v ≡ edge u v
  all_edges u v = by_cases (ltb u 64)
      (λ e. by_cases (ltb v 64)
      (λ f. inside_edge u v (ltb-true u 64 e) (ltb-true v 64 f))
      (λ f. has_high v _ 64 (word_lt u (ltb-true u 64 e)) (ltb-false v 64 f) ∙ sym (out_of_range u v (λ p. absurd (omega (arith, p.1, ltb-false v 64 f))))))
      (λ e. ap (has v) (words_above u (ltb-false u 64 e)) ∙ has_zero v ∙ sym (out_of_range u v (λ p. absurd (omega (arith, p.0, ltb-false u 64 e)))))

  -- In plain words: the least chain over the words is the one over the links
  pub least_words : (words : List ℕ) (x z : ℕ) → words ≡ chain_words t members list → least_chain (word_edge words) x z ≡ least_chain edge x z
  least_words words x z e = ap (λ (w : List ℕ). least_chain (word_edge w) x z) e
      ∙ ap (λ (f : ℕ → ℕ → Bool). least_chain f x z) (fun_ext (λ u. fun_ext (λ v. all_edges u v)))

  pub least_in_range : (words : List ℕ) (x z : ℕ) → words ≡ chain_words t members list → x ≡ stand_in members → has z (bound_of t members list) ≡ true
      → in_range (least_chain (word_edge words) x z) ≡ true
  least_in_range words x z e q b = ap in_range (least_words words x z e ∙ ap (λ (u : ℕ). least_chain edge u z) q)
      ∙ chain_in_range (edge_low t members list d ok) (bound_chain t members list d ok z b)

-- the words of the code ----------------------------------------------------------------------
module _ (t : Table) (members : ℕ) (l : EntryList) (sized : Sized t) (accepted : is_accepted (verdict_of t members (entries_of l)) ≡ true) where
  pub accepted_ok : Facts t members (entries_of l)
  accepted_ok = accepted_facts t members (entries_of l) (eqb-true (verdict_number (verdict_of t members (entries_of l))) 0 accepted)

  pub accepted_sound : Sound t
  accepted_sound = sound_facts t sized accepted_ok.fine

  pub accepted_short : l.count ≤ 8
  unfolding entries_of
  accepted_short = omega (arith, accepted_ok.short, length_tabulate l.count (λ k. get_or l.entries k empty_slot))

  pub accepted_low : (x : ℕ) → x ≡ stand_in members → x < 64
  accepted_low x e = rw e accepted_ok.low

  pub object_words : (outside x : ℕ) (words r : List ℕ) → outside ≡ born_outside t.records members → x ≡ stand_in members
      → words ≡ joined (link_words (slot_holding t.slots outside)) (entry_link l.entries l.count outside x) → r ≡ less_words words members
      → r ≡ chain_words t members (entries_of l)
  object_words outside x words r o e f h = h
      ∙ ap (λ (v : List ℕ). less_words v members) (code_links t members l outside x words accepted_ok.low o e f)
      ∙ less_links t members (entries_of l) accepted_sound accepted_ok
