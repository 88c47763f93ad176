-- Groups found one after another: whoever is reached from a number is of its group and has the same one. Assumes nothing.
use mathlib.Core.Path.{◌≡◌, refl, sym, ◌∙◌, ap}
use mathlib.Core.Bool.{Bool, true, false}
use mathlib.Core.List.{List}
use Prim.Native.Nat.{ℕ, zero, suc, ◌<◌}
use lib.ListN.{length, get_or, replicate, length-replicate, get_or-replicate}
use Rattle.mask.specs.Sets.{has, union_of, less_of}
use borrow.Author.Tests.{eqb-true, eq-eqb}
use Rattle.mask.proofs.Tests.{by_cases, by_eq, clash, bool_ext, and_true, or_cases, or_left}
use Rattle.mask.proofs.Below.{any_elim}
use Rattle.mask.proofs.Bits.{has_zero, bits_ext}
use Rattle.table.proofs.Lists.{as_tabulate}
use Rattle.relation.specs.Closure.{grow, spread, only, most_rounds, reached}
use Rattle.relation.proofs.Reach.{Path, stay, step, join, has_grow, grow_lt, has_only, only_lt, reached_path, path_reached}
use Rattle.relation.specs.Helpers.{count}
use Rattle.sweeps.specs.Helpers.{Lowest, near_of, PutEach}
use Rattle.links.specs.Links.{word_edge}
use Rattle.links.specs.Helpers.{spread_of}
use Rattle.leads.specs.Helpers.{Joining, LeadingWith, EndsThere, group_words, group_links}
use Rattle.leads.proofs.Reaching.{reach_start, reach_keeps, reach_same}
use Rattle.leads.proofs.Settling.{in_less, less_in, less_count, union_left, union_right}

module _ (edge weak : ℕ → ℕ → Bool) (among : ℕ) (j : Joining among edge) where
  pub low : (u v : ℕ) → edge u v ≡ true → (u < 64) × (v < 64)
  low u v e = ((j.within u v e).0, (j.within v u (j.either u v e)).0)

  back : {x y : ℕ} → Path edge x y → Path edge y x
  back stay = stay
  back (step {y = u} {z = v} p e) = join (step stay (j.either u v e)) (back p)

  -- whoever is reached from x reaches x
  reach_back : (x y : ℕ) → x < 64 → y < 64 → has y (reached edge x) ≡ true → has x (reached edge y) ≡ true
  reach_back x y hx hy e = path_reached edge low y x hy (back (reached_path edge x y hy e))

  pub group_same : (x y : ℕ) → x < 64 → y < 64 → has y (reached edge x) ≡ true → reached edge x ≡ reached edge y
  group_same x y hx hy e = reach_same edge low x y hx hy e (reach_back x y hx hy e)

  -- and is in the set, if x is
  pub group_within : (x y : ℕ) → y < 64 → has x among ≡ true → has y (reached edge x) ≡ true → has y among ≡ true
  group_within x y hy p e = reach_keeps edge low (λ u. has u among ≡ true) (λ u v q f. (j.within v u (j.either u v f)).1) x y hy p e

  -- a group and whom it leads to
  abbrev led : ℕ → ℕ
  led x = union_of (reached edge x) (near_of weak (reached edge x))

  pub record Grouping (left leading : ℕ) (groups links : List ℕ) : Type 0 where
    pub group_long : length groups ≡ 64
    pub link_long : length links ≡ 64
    pub within : (u : ℕ) → u < 64 → has u left ≡ true → has u among ≡ true
    pub group : (u : ℕ) → u < 64 → has u among ≡ true → has u left ≡ false → get_or groups u 0 ≡ reached edge u
    pub link : (u : ℕ) → u < 64 → has u among ≡ true → has u left ≡ false → get_or links u 0 ≡ led u
    pub ends : (u : ℕ) → u < 64 → has u among ≡ true → has u left ≡ false → has u leading ≡ false → get_or links u 0 ≡ get_or groups u 0
    pub no_group : (u : ℕ) → u < 64 → has u among ≡ false → get_or groups u 0 ≡ 0
    pub no_link : (u : ℕ) → u < 64 → has u among ≡ false → get_or links u 0 ≡ 0

  none_yet : Grouping among 0 (replicate 64 0) (replicate 64 0)
  none_yet = record {
    group_long = length-replicate {A = ℕ} 64 0;
    link_long = length-replicate {A = ℕ} 64 0;
    within = λ u h e. e;
    group = λ u h e f. clash e f;
    link = λ u h e f. clash e f;
    ends = λ u h e f o. clash e f;
    no_group = λ u h e. get_or-replicate 64 u 0 0 h;
    no_link = λ u h e. get_or-replicate 64 u 0 0 h;
  }

  pub group_none : (groups links : List ℕ) → groups ≡ replicate 64 0 → links ≡ replicate 64 0 → Grouping among 0 groups links
  group_none groups links e f = rw (e, f) none_yet

  module _ (left leading x set out word less : ℕ) (groups links g l : List ℕ) (p : Grouping left leading groups links) (q : Lowest left x) (s : set ≡ reached edge x)
      (o : out ≡ near_of weak set) (w : word ≡ union_of set out) (pg : PutEach set set groups g) (pl : PutEach set word links l) (n : less ≡ less_of left set) where
    own : has x set ≡ true
    own = ap (has x) s ∙ reach_start edge low x q.low

    -- of the group that was found
    found : (u : ℕ) → u < 64 → has u set ≡ true → set ≡ reached edge u
    found u h e = s ∙ group_same x u q.low h (ap (has u) (sym s) ∙ e)

    found_led : (u : ℕ) → u < 64 → has u set ≡ true → word ≡ led u
    found_led u h e = let f = found u h e in w ∙ rw (o, f) refl

    found_within : (u : ℕ) → u < 64 → has u set ≡ true → has u among ≡ true
    found_within u h e = group_within x u h (p.within x q.low q.there) (ap (has u) (sym s) ∙ e)

    outside : (u : ℕ) → u < 64 → has u among ≡ false → has u set ≡ false
    outside u h e = by_cases (has u set) (λ f. clash (found_within u h f) e) (λ f. f)

    -- of a group that was found before
    before : (u : ℕ) → u < 64 → has u less ≡ false → has u set ≡ false → has u left ≡ false
    before u h e f = by_cases (has u left) (λ z. clash (less_in u left set less h n z f) e) (λ z. z)

    pub group_more : (after : ℕ) → LeadingWith leading set word after → Grouping less after g l
    group_more after k = record {
      group_long = pg.long ∙ p.group_long;
      link_long = pl.long ∙ p.link_long;
      within = λ u h e. p.within u h (in_less u left set less h n e).0;
      group = λ u h e f. by_cases (has u set) (λ z. pg.new u h z ∙ found u h z) (λ z. pg.old u h z ∙ p.group u h e (before u h f z));
      link = λ u h e f. by_cases (has u set) (λ z. pl.new u h z ∙ found_led u h z) (λ z. pl.old u h z ∙ p.link u h e (before u h f z));
      ends = λ u h e f o. by_cases (has u set)
          (λ z. pl.new u h z ∙ by_eq word set (λ y. y) (λ y. clash (k.more y u h z) o) ∙ sym (pg.new u h z))
          (λ z. pl.old u h z ∙ p.ends u h e (before u h f z) (by_cases (has u leading) (λ y. clash (k.kept u h y) o) (λ y. y)) ∙ sym (pg.old u h z));
      no_group = λ u h e. pg.old u h (outside u h e) ∙ p.no_group u h e;
      no_link = λ u h e. pl.old u h (outside u h e) ∙ p.no_link u h e;
    }

    pub group_less : count 64 less < count 64 left
    group_less = less_count left set less x n q.low q.there own

  pub group_all : (left leading : ℕ) (groups links : List ℕ) → left ≡ 0 → Grouping left leading groups links
      → (groups ≡ group_words edge among) × (links ≡ group_links edge weak among) × EndsThere among leading groups links
  unfolding group_words group_links
  group_all left leading groups links z p =
      let none : (u : ℕ) → has u left ≡ false = λ u. ap (has u) z ∙ has_zero u in (
        as_tabulate 64 _ 0 groups p.group_long (λ u h. by_cases (has u among)
            (λ e. p.group u h e (none u) ∙ sym (rw e refl)) (λ e. p.no_group u h e ∙ sym (rw e refl))),
        as_tabulate 64 _ 0 links p.link_long (λ u h. by_cases (has u among)
            (λ e. p.link u h e (none u) ∙ sym (rw e refl)) (λ e. p.no_link u h e ∙ sym (rw e refl))),
        λ u h e o. p.ends u h e (none u) o,
      )

-- rounds of which none adds anything
stays : (n : ℕ) (edge : ℕ → ℕ → Bool) (s : ℕ) → grow edge s ≡ s → spread n edge s ≡ s
unfolding spread
stays zero edge s e = refl
stays (suc n) edge s e = rw (eq-eqb (grow edge s) s e, spread) refl

-- who is joined to nobody is a group alone
pub alone_group : (words : List ℕ) (x s : ℕ) → get_or words x 0 ≡ 0 → s ≡ only x → s ≡ reached (word_edge words) x
unfolding reached
alone_group words x s z e = e ∙ sym (stays most_rounds (word_edge words) (only x) (bits_ext 64 _ _ (grow_lt (word_edge words) (only x)) (only_lt (word_edge words) x) (λ y h. bool_ext _ _
    (λ a. or_cases (has y (only x)) _ (sym (has_grow (word_edge words) (only x) y h) ∙ a) (λ b. b)
    (λ b. any_elim 64 _ b (λ u hu c.
    let p = and_true (has u (only x)) _ c in
    clash p.1 (ap (λ (m : ℕ). has y (get_or words m 0)) (eqb-true u x (sym (has_only (word_edge words) x u hu) ∙ p.0)) ∙ ap (has y) z ∙ has_zero y))))
    (λ a. has_grow (word_edge words) (only x) y h ∙ or_left (has y (only x)) _ a))))

-- one group more of those that lead on
pub lead_kept : (leading group led : ℕ) → led ≡ group → LeadingWith leading group led leading
lead_kept leading group led e = record { kept = λ u h o. o; more = λ n. absurd (n e) }

pub lead_more : (leading group led r : ℕ) → r ≡ union_of leading group → LeadingWith leading group led r
lead_more leading group led r e = record { kept = λ u h o. union_left u leading group r h e o; more = λ n u h o. union_right u leading group r h e o }

-- what a spread reaches
pub spread_set : (edge : ℕ → ℕ → Bool) (x : ℕ) → (spread_of edge x).set ≡ reached edge x
unfolding spread_of
spread_set edge x = refl
