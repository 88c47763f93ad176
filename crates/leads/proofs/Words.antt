-- The words of groups are words of groups and of whom they lead to: what `Leading` asks for. Assumes nothing.
use mathlib.Core.Path.{◌≡◌, refl, sym, ◌∙◌, ap, subst}
use mathlib.Core.Bool.{Bool, true, false}
use Prim.Native.Nat.{ℕ, ◌^◌, ◌<◌}
use native.Mathlib.Omega.{arith}
use lib.Dec.{ltb}
use lib.ListN.{length, get_or, get_or-eq_default}
use borrow.Author.Tests.{ltb-true, ltb-false}
use Rattle.mask.specs.Sets.{has, union_of}
use Rattle.mask.proofs.Tests.{by_cases, clash, bool_ext, and_true}
use Rattle.mask.proofs.Below.{any_elim}
use Rattle.mask.proofs.Bits.{has_zero}
use Rattle.table.proofs.Lists.{length_tabulate, get_d_tabulate}
use Rattle.relation.specs.Closure.{reached}
use Rattle.sweeps.specs.Helpers.{near_of}
use Rattle.sweeps.proofs.Frontier.{has_near}
use Rattle.leads.specs.Helpers.{Joining, words_among, group_words, group_links, Leading}
use Rattle.leads.proofs.Reaching.{reach_start}
use Rattle.leads.proofs.Settling.{in_union, union_left, union_fits}
use Rattle.leads.proofs.Grouping.{low, group_same, group_within}

-- words for the numbers of a set -----------------------------------------------------------
module _ (among : ℕ) (word : ℕ → ℕ) where
  pub word_in : (u : ℕ) → u < 64 → has u among ≡ true → get_or (words_among among word) u 0 ≡ word u
  word_in u h e = get_d_tabulate 64 _ u 0 h ∙ rw e refl

  pub word_out : (u : ℕ) → u < 64 → has u among ≡ false → get_or (words_among among word) u 0 ≡ 0
  word_out u h e = get_d_tabulate 64 _ u 0 h ∙ rw e refl

  -- who has a number in its word is in the set
  pub word_has : (u v : ℕ) → u < 64 → has v (get_or (words_among among word) u 0) ≡ true → (has u among ≡ true) × (has v (word u) ≡ true)
  word_has u v h e = by_cases (has u among)
      (λ p. (p, ap (has v) (sym (word_in u h p)) ∙ e))
      (λ p. clash e (ap (has v) (word_out u h p) ∙ has_zero v))

  word_fits : ((u : ℕ) → word u < 2 ^ 64) → (u : ℕ) → get_or (words_among among word) u 0 < 2 ^ 64
  word_fits f u = by_cases (ltb u 64)
      (λ l. by_cases (has u among)
      (λ p. subst (λ (m : ℕ). m < 2 ^ 64) (sym (word_in u (ltb-true u 64 l) p)) (f u))
      (λ p. subst (λ (m : ℕ). m < 2 ^ 64) (sym (word_out u (ltb-true u 64 l) p)) (omega arith)))
      (λ l. subst (λ (m : ℕ). m < 2 ^ 64) (sym (get_or-eq_default (words_among among word) 0 (omega (arith, ltb-false u 64 l, long)))) (omega arith))
    where
      long : length (words_among among word) ≡ 64
      long = length_tabulate 64 _

module _ (edge weak : ℕ → ℕ → Bool) (among : ℕ) (j : Joining among edge) where
  -- who is in the set is in a group, and nobody else
  pub own_group : (u : ℕ) → u < 64 → has u among ≡ has u (get_or (group_words edge among) u 0)
  unfolding group_words
  own_group u h = bool_ext _ _
      (λ e. ap (has u) (word_in among (reached edge) u h e) ∙ reach_start edge (low edge weak among j) u h)
      (λ e. (word_has among (reached edge) u u h e).0)

  module _ (within : (u v : ℕ) → weak u v ≡ true → has v among ≡ true) where
    abbrev led : ℕ → ℕ
    led x = union_of (reached edge x) (near_of weak (reached edge x))

    led_within : (u v : ℕ) → v < 64 → has u among ≡ true → has v (led u) ≡ true → has v among ≡ true
    led_within u v hv p e = in_union v (reached edge u) (near_of weak (reached edge u)) (led u) hv refl e
        (group_within edge weak among j u v hv p)
        (λ q. any_elim 64 _ (sym (has_near weak (reached edge u) v hv) ∙ q) (λ m hm b. within m v (and_true (has m (reached edge u)) _ b).1))

    pub leading : Leading (group_words edge among) (group_links edge weak among)
    unfolding group_words group_links
    leading = record {
      long = length_tabulate 64 _;
      fits = word_fits among led (λ u. union_fits (reached edge u) (near_of weak (reached edge u)) (led u) refl);
      many = length_tabulate 64 _;
      bare = λ u hu e. word_out among (reached edge) u hu (own_group u hu ∙ e);
      mates = λ u v hu hv e.
          let p = word_has among (reached edge) u v hu e in
          let q = group_within edge weak among j u v hv p.0 p.1 in (
            sym (own_group v hv) ∙ q,
            word_in among led v hv q ∙ ap (λ (s : ℕ). union_of s (near_of weak s)) (sym (group_same edge weak among j u v hu hv p.1)) ∙ sym (word_in among led u hu p.0),
          );
      inside = λ u v hu hv e.
          let p = word_has among (reached edge) u v hu e in
          ap (has v) (word_in among led u hu p.0) ∙ union_left v (reached edge u) _ (led u) hv refl p.1;
      led = λ u v hu hv e.
          let p = word_has among led u v hu e in
          sym (own_group v hv) ∙ led_within u v hv p.0 p.1;
    }
