-- Words by their edges: 64 words of 64 bits are settled by the edges between numbers below 64. Assumes nothing.
use mathlib.Core.Path.{◌≡◌, ◌∙◌, ap, subst⁻¹}
use mathlib.Core.Bool.{Bool}
use mathlib.Core.List.{List}
use Prim.Native.Nat.{ℕ, ◌^◌, ◌<◌}
use native.Mathlib.Omega.{arith}
use lib.Dec.{ltb}
use lib.ListN.{length, get_or, get_or-eq_default}
use borrow.Author.Tests.{ltb-true, ltb-false}
use Rattle.mask.specs.Sets.{has, bits}
use Rattle.mask.proofs.Tests.{by_cases}
use Rattle.mask.proofs.Bits.{has_bits, bits_lt, bits_same, as_bits}
use Rattle.table.proofs.Lists.{length_tabulate, get_d_tabulate, as_tabulate}
use Rattle.relation.specs.Relation.{Holding}
use Rattle.relation.specs.Closure.{link}
use Rattle.links.specs.Links.{words_of, link_words, word_edge}

pub words_edge : (edge : ℕ → ℕ → Bool) (u v : ℕ) → u < 64 → v < 64 → word_edge (words_of edge) u v ≡ edge u v
words_edge edge u v hu hv = ap (has v) (get_d_tabulate 64 (λ a. bits 64 (edge a)) u 0 hu) ∙ has_bits 64 v (edge u) hv

pub words_long : (edge : ℕ → ℕ → Bool) → length (words_of edge) ≡ 64
words_long edge = length_tabulate 64 _

pub words_fits : (edge : ℕ → ℕ → Bool) (u : ℕ) → get_or (words_of edge) u 0 < 2 ^ 64
words_fits edge u = by_cases (ltb u 64)
    (λ l. subst⁻¹ (λ (m : ℕ). m < 2 ^ 64) (get_d_tabulate 64 (λ a. bits 64 (edge a)) u 0 (ltb-true u 64 l)) (bits_lt 64 (edge u)))
    (λ l. subst⁻¹ (λ (m : ℕ). m < 2 ^ 64) (get_or-eq_default (words_of edge) 0 (omega (arith, ltb-false u 64 l, words_long edge))) (omega arith))

-- words of which each has these edges
pub as_words : (edge : ℕ → ℕ → Bool) (words : List ℕ) → length words ≡ 64 → ((u : ℕ) → get_or words u 0 < 2 ^ 64)
    → ((u v : ℕ) → u < 64 → v < 64 → word_edge words u v ≡ edge u v) → words ≡ words_of edge
as_words edge words long low e = as_tabulate 64 _ 0 words long (λ u hu. as_bits 64 _ (edge u) (low u) (λ v hv. e u v hu hv))

pub words_same : (e f : ℕ → ℕ → Bool) → ((u v : ℕ) → u < 64 → v < 64 → e u v ≡ f u v) → words_of e ≡ words_of f
words_same e f same = as_tabulate 64 _ 0 (words_of e) (length_tabulate 64 _)
    (λ u hu. get_d_tabulate 64 (λ a. bits 64 (e a)) u 0 hu ∙ bits_same 64 (e u) (f u) (λ v hv. same u v hu hv))

-- The theorem. In plain words: for numbers below 64, word x of a holding has y exactly if there is a link from x to y
pub links_are_edges : (h : Holding) (x y : ℕ) → x < 64 → y < 64 → word_edge (link_words h) x y ≡ link h x y
unfolding link_words
links_are_edges h = words_edge (link h)
