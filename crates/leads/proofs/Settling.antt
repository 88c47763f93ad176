-- Sets that are joined and taken apart, and rows that are settled, from the first to the last. Assumes nothing.
use mathlib.Core.Path.{◌≡◌, refl, sym, ◌∙◌, ap, subst, subst⁻¹}
use mathlib.Core.Bool.{Bool, true, false, not}
use mathlib.Core.List.{List}
use Prim.Native.Nat.{ℕ, ◌^◌, ◌<◌}
use lib.ListN.{get_or}
use borrow.Author.Tests.{not-true}
use Rattle.mask.specs.Sets.{has, union_of, less_of}
use Rattle.mask.proofs.Tests.{by_cases, clash, and_true, and_intro, or_cases, or_left, or_right, or_none}
use Rattle.mask.proofs.Bits.{has_zero, has_union, has_less, bits_lt}
use Rattle.table.proofs.Lists.{as_tabulate}
use Rattle.relation.specs.Closure.{reached}
use Rattle.relation.specs.Helpers.{count}
use Rattle.relation.proofs.Reach.{count_lt}
use Rattle.links.specs.Links.{word_edge}
use Rattle.leads.specs.Helpers.{EndsThere, led_words, Leading, Settled}
use Rattle.leads.proofs.Reaching.{word_low, reach_edge, reach_keeps, as_reached}

-- who is in one of two sets, in one and not in the other, in both --------------------------------
pub in_union : {P : Type 0} (v a b m : ℕ) → v < 64 → m ≡ union_of a b → has v m ≡ true → (has v a ≡ true → P) → (has v b ≡ true → P) → P
in_union v a b m h n e = or_cases (has v a) (has v b) (sym (has_union v a b h) ∙ subst (λ (i : ℕ). has v i ≡ true) n e)

pub union_left : (v a b m : ℕ) → v < 64 → m ≡ union_of a b → has v a ≡ true → has v m ≡ true
union_left v a b m h n e = ap (has v) n ∙ has_union v a b h ∙ or_left (has v a) _ e

pub union_right : (v a b m : ℕ) → v < 64 → m ≡ union_of a b → has v b ≡ true → has v m ≡ true
union_right v a b m h n e = ap (has v) n ∙ has_union v a b h ∙ or_right (has v a) _ e

pub in_neither : (v a b m : ℕ) → v < 64 → m ≡ union_of a b → has v m ≡ false → (has v a ≡ false) × (has v b ≡ false)
in_neither v a b m h n e = or_none (has v a) (has v b) (sym (has_union v a b h) ∙ subst (λ (i : ℕ). has v i ≡ false) n e)

pub in_less : (v a b m : ℕ) → v < 64 → m ≡ less_of a b → has v m ≡ true → (has v a ≡ true) × (has v b ≡ false)
in_less v a b m h n e =
    let p = and_true (has v a) _ (sym (has_less v a b h) ∙ subst (λ (i : ℕ). has v i ≡ true) n e) in
    (p.0, not-true (has v b) p.1)

pub less_in : (v a b m : ℕ) → v < 64 → m ≡ less_of a b → has v a ≡ true → has v b ≡ false → has v m ≡ true
less_in v a b m h n e f = ap (has v) n ∙ has_less v a b h ∙ and_intro (has v a) (not (has v b)) e (ap not f)

-- nothing is left: the first is in the second
pub less_none : (v a b m : ℕ) → v < 64 → m ≡ less_of a b → m ≡ 0 → has v a ≡ true → has v b ≡ true
less_none v a b m h n z e = by_cases (has v b) (λ f. f) (λ f. clash (less_in v a b m h n e f) (ap (has v) z ∙ has_zero v))

pub union_fits : (a b m : ℕ) → m ≡ union_of a b → m < 2 ^ 64
unfolding union_of
union_fits a b m n = subst⁻¹ (λ (i : ℕ). i < 2 ^ 64) n (bits_lt 64 _)

-- a number less is left
pub less_count : (a b m n : ℕ) → m ≡ less_of a b → n < 64 → has n a ≡ true → has n b ≡ true → count 64 m < count 64 a
less_count a b m n e h p q = count_lt 64 m a n (λ k hk o. (in_less k a b m hk e o).0) h
    (by_cases (has n m) (λ o. clash q (in_less n a b m h e o).1) (λ o. o)) p

-- where more is taken from a set, x among it, a number less is left
pub fewer_among : (a b c m n x : ℕ) → m ≡ less_of a b → n ≡ less_of a c → ((u : ℕ) → u < 64 → has u b ≡ true → has u c ≡ true) → x < 64
    → has x m ≡ true → has x c ≡ true → count 64 n < count 64 m
fewer_among a b c m n x e f more h p q = count_lt 64 n m x
    (λ k hk o. let z = in_less k a c n hk f o in less_in k a b m hk e z.0 (by_cases (has k b) (λ y. clash (more k hk y) z.1) (λ y. y)))
    h (by_cases (has x n) (λ o. clash q (in_less x a c n h f o).1) (λ o. o)) p

module _ (groups links : List ℕ) (g : Leading groups links) where
  abbrev E : ℕ → ℕ → Bool
  E = word_edge links

  low : (u v : ℕ) → E u v ≡ true → (u < 64) × (v < 64)
  low = word_low links g.long g.fits

  -- who is in a group
  abbrev In : ℕ → Type 0
  In u = has u (get_or groups u 0) ≡ true

  pub reached_in : (x v : ℕ) → v < 64 → In x → has v (reached E x) ≡ true → In v
  reached_in = λ x v hv p e. reach_keeps E low In (λ u w q f. g.led u w (low u w f).0 (low u w f).1 f) x v hv p e

  -- all the rows ----------------------------------------------------------------------------------------
  -- a group that does not lead on is all that is reached from each of it
  ends : (u : ℕ) → u < 64 → In u → get_or links u 0 ≡ get_or groups u 0 → get_or groups u 0 ≡ reached E u
  ends u hu p e = as_reached E low u (get_or groups u 0) (subst (λ (m : ℕ). m < 2 ^ 64) e (g.fits u)) p
      (λ v hv o. reach_edge E low u v (ap (has v) e ∙ o))
      (λ w v hw hv o f. ap (has v) (sym e ∙ sym (g.mates u w hu hw o).1) ∙ f)

  -- where the rows are the groups, those that do not lead on are settled
  pub settled_ends : (among leading settled : ℕ) → ((u : ℕ) → u < 64 → has u among ≡ has u (get_or groups u 0)) → EndsThere among leading groups links
      → settled ≡ less_of among leading → Settled groups links settled groups
  settled_ends among leading settled own there n = record {
    long = g.many;
    part = λ u hu o. sym (own u hu) ∙ (in_less u among leading settled hu n o).0;
    row = λ u hu o. let p = in_less u among leading settled hu n o in ends u hu (sym (own u hu) ∙ p.0) (there u hu p.0 p.1);
    rest = g.bare;
  }

  pub settled_all : (among settled left : ℕ) (rows : List ℕ) → ((u : ℕ) → u < 64 → has u among ≡ has u (get_or groups u 0)) → Settled groups links settled rows
      → left ≡ less_of among settled → left ≡ 0 → rows ≡ led_words E among
  unfolding led_words
  settled_all among settled left rows own s n z = as_tabulate 64 _ 0 rows s.long (λ u hu. by_cases (has u among)
      (λ e. s.row u hu (less_none u among settled left hu n z e) ∙ sym (rw e refl))
      (λ e. s.rest u hu (sym (own u hu) ∙ e) ∙ sym (rw e refl)))
