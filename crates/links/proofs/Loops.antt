-- What the loops over slots and over entries keep: the words have the links of the capabilities passed. Before the first there is
-- none, after the last they are the words of the contract. Assumes nothing.
use mathlib.Core.Path.{◌≡◌, refl, ◌∙◌, ap}
use mathlib.Core.Bool.{Bool, false}
use mathlib.Core.List.{List}
use Prim.Native.Nat.{ℕ, ◌+◌, ◌/◌, ◌^◌, ◌≤◌, ◌<◌}
use native.Mathlib.Omega.{arith}
use lib.ListN.{length, take, replicate}
use Rattle.std.proofs.lemmas.List.{get_or-take, length-take}
use Rattle.mask.specs.Sets.{has, bits, any_below}
use Rattle.mask.proofs.Tests.{and_true}
use Rattle.table.specs.Cells.{slot_of}
use Rattle.table.specs.declared.Capability.{Capability}
use Rattle.table.specs.Lists.{tabulate}
use Rattle.access.proofs.Marks.{has_low}
use Rattle.links.specs.Links.{words_of, link_words, word_edge, slot_holding, joined, entry_link}
use Rattle.links.specs.Helpers.{link_if}
use Rattle.links.proofs.Edges.{words_same}
use Rattle.links.proofs.Joins.{linked_to, linked_none, linked_more}
use Rattle.links.proofs.Holdings.{inside, listed, slot_link}

-- slots -----------------------------------------------------------------------
module _ (slots : List Capability) (among : ℕ) where
  abbrev none : ℕ → ℕ → Bool
  none u v = false

  -- the links of the first n slots
  unfoldable pub slots_to : ℕ → List ℕ
  slots_to n = words_of (linked_to none (λ k. k / 8) (slot_of slots) (inside slots among) n)

  pub slots_none : replicate 64 0 ≡ slots_to 0
  unfolding slots_to any_below tabulate bits
  slots_none = refl

  pub slots_more : (k : ℕ) (r q : List ℕ) (on : Bool) → among < 2 ^ 64 → k < 512 → r ≡ slots_to k → on ≡ inside slots among k
      → q ≡ link_if on r (k / 8) (slot_of slots k) → q ≡ slots_to (k + 1)
  unfolding slots_to
  slots_more k r q on low h p e m = linked_more none (λ i. i / 8) (slot_of slots) (inside slots among) k r q on
      (λ t. (omega arith, has_low among _ low (and_true (has (k / 8) among) _ t).1)) p e m

  pub slots_all : (n : ℕ) (r : List ℕ) → 512 ≤ n → n ≤ 512 → r ≡ slots_to n → r ≡ link_words (slot_holding slots among)
  unfolding slots_to link_words
  slots_all n r h l p = let all : n ≡ 512 = omega arith in p ∙ ap slots_to all ∙ words_same _ _ (slot_link slots among)

-- entries -----------------------------------------------------------------------
-- those of a part from the first on are those of the whole
pub taken : (m k : ℕ) (entries : List Capability) → k < length (take m entries) → slot_of (take m entries) k ≡ slot_of entries k
taken m k entries h = get_or-take m entries k _ (omega (arith, length-take m entries, h))

module _ (words : List ℕ) (entries : List Capability) (among x : ℕ) where
  pub entries_none : words ≡ words_of (word_edge words) → words ≡ joined words (entry_link entries 0 among x)
  unfolding joined entry_link
  entries_none e = e ∙ linked_none (word_edge words) (λ k. x) (slot_of entries) (listed entries among)

  pub entries_more : (k : ℕ) (r q : List ℕ) (on : Bool) → among < 2 ^ 64 → x < 64 → r ≡ joined words (entry_link entries k among x)
      → on ≡ listed entries among k → q ≡ link_if on r x (slot_of entries k) → q ≡ joined words (entry_link entries (k + 1) among x)
  unfolding joined entry_link
  entries_more k r q on low h p e m = linked_more (word_edge words) (λ i. x) (slot_of entries) (listed entries among) k r q on
      (λ t. (h, has_low among _ low t)) p e m

  pub entries_all : (i n : ℕ) (r : List ℕ) → n ≤ i → i ≤ n → r ≡ joined words (entry_link entries i among x)
      → r ≡ joined words (entry_link entries n among x)
  entries_all i n r h l p = let all : i ≡ n = omega arith in p ∙ ap (λ (m : ℕ). joined words (entry_link entries m among x)) all
