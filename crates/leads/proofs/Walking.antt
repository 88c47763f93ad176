-- The walk that settles rows: steps of numbers that lead to each other, on a path on which each leads to all that those after it lead to.
-- Assumes nothing.
use mathlib.Core.Path.{◌≡◌, sym, ◌∙◌, ap, subst, subst⁻¹}
use mathlib.Core.Bool.{Bool, true, false, ◌||◌}
use mathlib.Core.List.{List}
use Prim.Native.Nat.{ℕ, ◌+◌, ◌-◌, ◌*◌, ◌^◌, ◌≤◌, ◌<◌}
use native.Mathlib.Omega.{arith}
use lib.ListN.{length, get_or, set, length-set}
use lib.Seq.{get_or-set_same, get_or-set_other}
use Rattle.mask.specs.Sets.{has, any_below, union_of, less_of, common_of}
use Rattle.mask.proofs.Tests.{by_cases, by_eq, clash, and_true, and_intro, or_cases, or_left, or_right}
use Rattle.mask.proofs.Below.{any_intro, any_elim}
use Rattle.mask.proofs.Bits.{has_zero, has_common, bits_lt}
use Rattle.relation.specs.Closure.{reached}
use Rattle.relation.specs.Helpers.{count}
use Rattle.relation.proofs.Reach.{count_lt, count_high}
use Rattle.links.specs.Links.{word_edge}
use Rattle.sweeps.specs.Helpers.{Lowest, PutEach}
use Rattle.sweeps.proofs.Numbers.{lowest_is}
use Rattle.leads.specs.declared.Step.{Step as Kept}
use Rattle.leads.specs.Helpers.{Leading, Settled, SettledWith}
use Rattle.leads.proofs.Reaching.{word_low, reach_start, reach_edge, reach_more, reach_on, as_reached}
use Rattle.leads.proofs.Settling.{in_union, union_left, union_right, in_neither, in_less, less_in, less_none, union_fits, less_count, reached_in}

-- who is in both of two sets
in_common : (v a b m : ℕ) → v < 64 → m ≡ common_of a b → has v m ≡ true → (has v a ≡ true) × (has v b ≡ true)
in_common v a b m h n e = and_true (has v a) (has v b) (sym (has_common v a b h) ∙ subst (λ (i : ℕ). has v i ≡ true) n e)

none_common : (v a b m : ℕ) → v < 64 → m ≡ common_of a b → m ≡ 0 → has v a ≡ true → has v b ≡ false
none_common v a b m h n z e = by_cases (has v b)
    (λ f. clash (ap (has v) n ∙ has_common v a b h ∙ and_intro (has v a) _ e f) (ap (has v) z ∙ has_zero v)) (λ f. f)

-- how much there is still to do: numbers that are free, steps before the last, numbers to look at
abbrev pub to_do : ℕ → ℕ → ℕ → ℕ
to_do free depth looked = (count 64 free * 65 + depth) * 65 + (64 - count 64 looked)

-- a step as the path has it
abbrev pub no_step : Kept
no_step = record { objects = 0; known = 0; passed = 0 }

abbrev pub at : List Kept → ℕ → Kept
at path i = get_or path i no_step

module _ (groups links : List ℕ) (g : Leading groups links) where
  abbrev E : ℕ → ℕ → Bool
  E = word_edge links

  low : (u v : ℕ) → E u v ≡ true → (u < 64) × (v < 64)
  low = word_low links g.long g.fits

  abbrev In : ℕ → Type 0
  In u = has u (get_or groups u 0) ≡ true

  abbrev To : ℕ → ℕ → Type 0
  To u v = has v (reached E u) ≡ true

  -- a step ---------------------------------------------------------------------------------------
  pub record Step (objects s looked : ℕ) : Type 0 where
    pub fits : s < 2 ^ 64
    pub part : (u : ℕ) → u < 64 → has u objects ≡ true → In u
    pub inside : (v : ℕ) → v < 64 → has v s ≡ true → In v
    pub own : (u : ℕ) → u < 64 → has u objects ≡ true → has u s ≡ true
    pub covered : (u : ℕ) → u < 64 → has u objects ≡ true → has u looked ≡ true
    pub reach : (u v : ℕ) → u < 64 → v < 64 → has u objects ≡ true → has v s ≡ true → To u v
    pub taken : (u v : ℕ) → u < 64 → v < 64 → has u looked ≡ true → E u v ≡ true → has v s ≡ true

  -- a group begins one
  step_start : (x : ℕ) → x < 64 → In x → Step (get_or groups x 0) (get_or links x 0) (get_or groups x 0)
  step_start x hx p = record {
    fits = g.fits x;
    part = λ u hu e. (g.mates x u hx hu e).0;
    inside = λ v hv e. g.led x v hx hv e;
    own = λ u hu e. g.inside x u hx hu e;
    covered = λ u hu e. e;
    reach = λ u v hu hv e f. reach_edge E low u v (ap (has v) (g.mates x u hx hu e).1 ∙ f);
    taken = λ u v hu hv e f. ap (has v) (sym (g.mates x u hx hu e).1) ∙ f;
  }

  -- what is reached from one that is led to comes in, with all the links of some of it
  module _ (o s l y w c t a : ℕ) (p : Step o s l) (hy : y < 64) (there : has y s ≡ true) (to : (v : ℕ) → v < 64 → has v w ≡ true → To y v)
      (all : (u v : ℕ) → u < 64 → v < 64 → has u c ≡ true → E u v ≡ true → has v w ≡ true) (e : t ≡ union_of s w) (f : a ≡ union_of l c) where
    step_more : Step o t a
    step_more = record {
      fits = union_fits s w t e;
      part = p.part;
      inside = λ v hv z. in_union v s w t hv e z (p.inside v hv) (λ q. reached_in groups links g y v hv (p.inside y hy there) (to v hv q));
      own = λ u hu z. union_left u s w t hu e (p.own u hu z);
      covered = λ u hu z. union_left u l c a hu f (p.covered u hu z);
      reach = λ u v hu hv z q. in_union v s w t hv e q (p.reach u v hu hv z) (λ r. reach_on E low u y v hu hy hv (p.reach u y hu hy z there) (to v hv r));
      taken = λ u v hu hv z q. in_union u l c a hu f z (λ r. union_left v s w t hv e (p.taken u v hu hv r q)) (λ r. union_right v s w t hv e (all u v hu hv r q));
    }

  -- the path ---------------------------------------------------------------------------------------
  pub record Walk (settled x : ℕ) (rows : List ℕ) (path : List Kept) (objects s looked free done depth : ℕ) : Type 0 where
    pub deep : depth ≤ 64
    pub path_long : length path ≡ 64
    pub now : Settled groups links done rows
    pub kept : (u : ℕ) → u < 64 → has u settled ≡ true → has u done ≡ true
    pub first : (x < 64) × In x × (has x free ≡ false)
    pub step : Step objects s looked
    pub steps : (i : ℕ) → i < depth → Step ((at path i).objects) ((at path i).known) ((at path i).passed)
    pub ahead : (i u v : ℕ) → i < depth → u < 64 → v < 64 → has u ((at path i).objects) ≡ true → has v s ≡ true → To u v
    pub pairs : (i j u v : ℕ) → i < j → j < depth → u < 64 → v < 64 → has u ((at path i).objects) ≡ true → has v ((at path j).known) ≡ true → To u v
    pub visited : (z : ℕ) → z < 64 → In z → has z free ≡ false → has z done ≡ false → (has z objects || any_below depth (λ k. has z ((at path k).objects))) ≡ true

  pub walk_start : (settled unsettled x free : ℕ) (rows : List ℕ) (path : List Kept) → Settled groups links settled rows → x < 64 → In x
      → ((u : ℕ) → u < 64 → In u → has u settled ≡ false → has u unsettled ≡ true) → length path ≡ 64
      → free ≡ less_of unsettled (get_or groups x 0) → Walk settled x rows path (get_or groups x 0) (get_or links x 0) (get_or groups x 0) free settled 0
  walk_start settled unsettled x free rows path s hx p more lp n = record {
    deep = omega arith;
    path_long = lp;
    now = s;
    kept = λ u hu e. e;
    first = (hx, p, by_cases (has x free) (λ e. clash p (in_less x unsettled (get_or groups x 0) free hx n e).1) (λ e. e));
    step = step_start x hx p;
    steps = λ i h. absurd (omega arith);
    ahead = λ i u v h. absurd (omega arith);
    pairs = λ i j u v h k. absurd (omega arith);
    visited = λ z hz q e f. or_left (has z (get_or groups x 0)) _ (by_cases (has z (get_or groups x 0)) (λ y. y)
        (λ y. clash (less_in z unsettled (get_or groups x 0) free hz n (more z hz q f) y) e));
  }

  module _ (settled x : ℕ) (rows : List ℕ) (path : List Kept) (o s l free done depth left : ℕ) (p : Walk settled x rows path o s l free done depth)
      (n : left ≡ less_of s l) where
    left_fits : left < 2 ^ 64
    unfolding less_of
    left_fits = subst⁻¹ (λ (m : ℕ). m < 2 ^ 64) n (bits_lt 64 _)

    -- one that is left is led to
    is_left : (y : ℕ) → y < 64 → has y left ≡ true → (has y s ≡ true) × (has y l ≡ false)
    is_left y hy e = in_less y s l left hy n e

    -- more of the last step
    module _ (y w c t a : ℕ) (hy : y < 64) (there : has y left ≡ true) (to : (v : ℕ) → v < 64 → has v w ≡ true → To y v)
        (all : (u v : ℕ) → u < 64 → v < 64 → has u c ≡ true → E u v ≡ true → has v w ≡ true) (e : t ≡ union_of s w) (f : a ≡ union_of l c) where
      last_more : Walk settled x rows path o t a free done depth
      last_more = let ys = (is_left y hy there).0 in record {
        deep = p.deep;
        path_long = p.path_long;
        now = p.now;
        kept = p.kept;
        first = p.first;
        step = step_more o s l y w c t a p.step hy ys to all e f;
        steps = p.steps;
        ahead = λ i u v h hu hv z q. in_union v s w t hv e q (p.ahead i u v h hu hv z) (λ r. reach_on E low u y v hu hy hv (p.ahead i u y h hu hy z ys) (to v hv r));
        pairs = p.pairs;
        visited = p.visited;
      }

      less_last : has y c ≡ true → to_do free depth a < to_do free depth l
      less_last own = omega (
        arith,
        count_high 64 a,
        count_lt 64 l a y (λ k hk q. union_left k l c a hk f q) hy (is_left y hy there).1 (union_right y l c a hy f own),
      )

    -- one that is settled
    module _ (ready y t a : ℕ) (r : ready ≡ common_of left done) (q : Lowest ready y) (e : t ≡ union_of s (get_or rows y 0)) (f : a ≡ union_of l (get_or rows y 0)) where
      both : (has y left ≡ true) × (has y done ≡ true)
      both = in_common y left done ready q.low r q.there

      row : get_or rows y 0 ≡ reached E y
      row = p.now.row y q.low both.1

      pub walk_ready : Walk settled x rows path o t a free done depth
      walk_ready = last_more y (get_or rows y 0) (get_or rows y 0) t a q.low both.0 (λ v hv z. ap (has v) (sym row) ∙ z)
          (λ u v hu hv z h. ap (has v) row ∙ reach_more E low y u v q.low hu (ap (has u) (sym row) ∙ z) h) e f

      pub less_ready : to_do free depth a < to_do free depth l
      less_ready = less_last y (get_or rows y 0) (get_or rows y 0) t a q.low both.0 (λ v hv z. ap (has v) (sym row) ∙ z)
          (λ u v hu hv z h. ap (has v) row ∙ reach_more E low y u v q.low hu (ap (has u) (sym row) ∙ z) h) e f
          (ap (has y) row ∙ reach_start E low y q.low)

    -- one that is free
    module _ (fresh y : ℕ) (r : fresh ≡ common_of left free) (q : Lowest fresh y) where
      in_both : (has y left ≡ true) × (has y free ≡ true)
      in_both = in_common y left free fresh q.low r q.there

      known_y : has y s ≡ true
      known_y = (is_left y q.low in_both.0).0

      y_in : In y
      y_in = p.step.inside y q.low known_y

      -- looked at where it is
      pub walk_here : (t a : ℕ) → t ≡ union_of s (get_or links y 0) → a ≡ union_of l (get_or groups y 0) → Walk settled x rows path o t a free done depth
      walk_here t a e f = last_more y (get_or links y 0) (get_or groups y 0) t a q.low in_both.0 (λ v hv z. reach_edge E low y v z)
          (λ u v hu hv z h. ap (has v) (sym (g.mates y u q.low hu z).1) ∙ h) e f

      pub less_here : (t a : ℕ) → t ≡ union_of s (get_or links y 0) → a ≡ union_of l (get_or groups y 0) → to_do free depth a < to_do free depth l
      less_here t a e f = less_last y (get_or links y 0) (get_or groups y 0) t a q.low in_both.0 (λ v hv z. reach_edge E low y v z)
          (λ u v hu hv z h. ap (has v) (sym (g.mates y u q.low hu z).1) ∙ h) e f y_in

      -- or as a step of its own
      module _ (h : depth < 64) (b : ℕ) (e : b ≡ less_of free (get_or groups y 0)) where
        abbrev path' : List Kept
        path' = set path depth (record { objects = o; known = s; passed = l })

        new_at : at path' depth ≡ record { objects = o; known = s; passed = l }
        new_at = get_or-set_same path depth _ no_step (omega (arith, h, p.path_long))

        path_at : (at path' depth).objects ≡ o
        path_at = ap (λ (w : Kept). w.objects) new_at

        known_at : (at path' depth).known ≡ s
        known_at = ap (λ (w : Kept). w.known) new_at

        old_at : (i : ℕ) → i < depth → at path' i ≡ at path i
        old_at i k = get_or-set_other path depth i _ no_step (λ z. omega (arith, z, k))

        path_old : (i : ℕ) → i < depth → (at path' i).objects ≡ (at path i).objects
        path_old i k = ap (λ (w : Kept). w.objects) (old_at i k)

        known_old : (i : ℕ) → i < depth → (at path' i).known ≡ (at path i).known
        known_old i k = ap (λ (w : Kept). w.known) (old_at i k)

        -- whoever leads to y leads to whom y leads to
        on : (u v : ℕ) → u < 64 → To u y → has v (get_or links y 0) ≡ true → To u v
        on u v hu z k = reach_more E low u y v hu q.low z k

        on_path : (z : ℕ) → (has z o || any_below depth (λ k. has z ((at path k).objects))) ≡ true → any_below (depth + 1) (λ k. has z ((at path' k).objects)) ≡ true
        on_path z w = or_cases (has z o) _ w
            (λ a. any_intro (depth + 1) _ depth (omega arith) (ap (has z) path_at ∙ a))
            (λ a. any_elim depth _ a (λ k hk c. any_intro (depth + 1) _ k (omega (arith, hk)) (ap (has z) (path_old k hk) ∙ c)))

        pub walk_push : Walk settled x rows path' (get_or groups y 0) (get_or links y 0) (get_or groups y 0) b done (depth + 1)
        walk_push = record {
          deep = omega arith;
          path_long = length-set path depth _ ∙ p.path_long;
          now = p.now;
          kept = p.kept;
          first = (p.first.0, p.first.1, by_cases (has x b) (λ z. clash (in_less x free (get_or groups y 0) b p.first.0 e z).0 p.first.2) (λ z. z));
          step = step_start y q.low y_in;
          steps = λ i k. by_eq i depth
              (λ z. subst⁻¹ (λ (w : Kept). Step w.objects w.known w.passed) (ap (at path') z ∙ new_at) p.step)
              (λ z. let k' : i < depth = omega (arith, k, z) in subst⁻¹ (λ (w : Kept). Step w.objects w.known w.passed) (old_at i k') (p.steps i k'));
          ahead = λ i u v k hu hv z w. by_eq i depth
              (λ j. on u v hu (p.step.reach u y hu q.low (ap (has u) (sym path_at ∙ ap (λ (m : ℕ). (at path' m).objects) (sym j)) ∙ z) known_y) w)
              (λ j. let k' : i < depth = omega (arith, k, j) in on u v hu (p.ahead i u y k' hu q.low (ap (has u) (sym (path_old i k')) ∙ z) known_y) w);
          pairs = λ i j u v ij k hu hv z w.
              let k' : i < depth = omega (arith, ij, k) in
              let z' : has u ((at path i).objects) ≡ true = ap (has u) (sym (path_old i k')) ∙ z in by_eq j depth
              (λ c. p.ahead i u v k' hu hv z' (ap (has v) (sym known_at ∙ ap (λ (m : ℕ). (at path' m).known) (sym c)) ∙ w))
              (λ c. let j' : j < depth = omega (arith, k, c) in p.pairs i j u v ij j' hu hv z' (ap (has v) (sym (known_old j j')) ∙ w));
          visited = λ z hz i c d. by_cases (has z (get_or groups y 0))
              (λ w. or_left (has z (get_or groups y 0)) _ w)
              (λ w. or_right (has z (get_or groups y 0)) _ (on_path z (p.visited z hz i (by_cases (has z free) (λ a. clash (less_in z free (get_or groups y 0) b hz e a w) c) (λ a. a)) d)));
        }

        pub less_push : to_do b (depth + 1) (get_or groups y 0) < to_do free depth l
        less_push = omega (arith, h, less_count free (get_or groups y 0) b y e q.low in_both.1 y_in)

    -- what is left leads back to the path
    module _ (ready fresh : ℕ) (r : ready ≡ common_of left done) (rz : ready ≡ 0) (f : fresh ≡ common_of left free) (fz : fresh ≡ 0) (some : 0 < left) where
      at_left : {P : Type 0} (y : ℕ) → Lowest left y → ((z k : ℕ) → z < 64 → has z s ≡ true → k < depth → has z ((at path k).objects) ≡ true → P) → P
      at_left y w then =
          let k = is_left y w.low w.there in
          or_cases (has y o) _ (p.visited y w.low (p.step.inside y w.low k.0) (none_common y left free fresh w.low f fz w.there) (none_common y left done ready w.low r rz w.there))
          (λ a. clash (p.step.covered y w.low a) k.1)
          (λ a. any_elim depth _ a (λ i hi c. then y i w.low k.0 hi c))

      back_at : {P : Type 0} → ((z k : ℕ) → z < 64 → has z s ≡ true → k < depth → has z ((at path k).objects) ≡ true → P) → P
      back_at then = at_left _ (lowest_is left some left_fits) then

      pub not_first : 0 < depth
      not_first = back_at (λ z k hz zs hk c. omega (arith, hk))

      module _ (m a t b : ℕ) (dm : depth ≡ m + 1) (e : a ≡ union_of o ((at path m).objects)) (h : t ≡ union_of s ((at path m).known)) (c : b ≡ union_of l ((at path m).passed)) where
        hm : m < depth
        hm = omega (arith, dm)

        before : Step ((at path m).objects) ((at path m).known) ((at path m).passed)
        before = p.steps m hm

        -- the last step leads to all that the one before it leads to
        back : (u v : ℕ) → u < 64 → v < 64 → has u o ≡ true → has v ((at path m).known) ≡ true → To u v
        back u v hu hv z w = back_at (λ y k hy ys hk d. reach_on E low u y v hu hy hv (p.step.reach u y hu hy z ys)
            (by_eq k m (λ j. before.reach y v hy hv (subst (λ (i : ℕ). has y ((at path i).objects) ≡ true) j d) w) (λ j. p.pairs k m y v (omega (arith, hk, dm, j)) hm hy hv d w)))

        pub walk_merge : Walk settled x rows path a t b free done m
        walk_merge = record {
          deep = omega (arith, dm, p.deep);
          path_long = p.path_long;
          now = p.now;
          kept = p.kept;
          first = p.first;
          step = record {
            fits = union_fits s ((at path m).known) t h;
            part = λ u hu z. in_union u o ((at path m).objects) a hu e z (p.step.part u hu) (before.part u hu);
            inside = λ v hv z. in_union v s ((at path m).known) t hv h z (p.step.inside v hv) (before.inside v hv);
            own = λ u hu z. in_union u o ((at path m).objects) a hu e z (λ q. union_left u s ((at path m).known) t hu h (p.step.own u hu q)) (λ q. union_right u s ((at path m).known) t hu h (before.own u hu q));
            covered = λ u hu z. in_union u o ((at path m).objects) a hu e z (λ q. union_left u l ((at path m).passed) b hu c (p.step.covered u hu q)) (λ q. union_right u l ((at path m).passed) b hu c (before.covered u hu q));
            reach = λ u v hu hv z w. in_union u o ((at path m).objects) a hu e z
                (λ q. in_union v s ((at path m).known) t hv h w (p.step.reach u v hu hv q) (back u v hu hv q))
                (λ q. in_union v s ((at path m).known) t hv h w (p.ahead m u v hm hu hv q) (before.reach u v hu hv q));
            taken = λ u v hu hv z w. in_union u l ((at path m).passed) b hu c z
                (λ q. union_left v s ((at path m).known) t hv h (p.step.taken u v hu hv q w))
                (λ q. union_right v s ((at path m).known) t hv h (before.taken u v hu hv q w));
          };
          steps = λ i k. p.steps i (omega (arith, k, dm));
          ahead = λ i u v k hu hv z w. in_union v s ((at path m).known) t hv h w (p.ahead i u v (omega (arith, k, dm)) hu hv z) (p.pairs i m u v k hm hu hv z);
          pairs = λ i j u v ij k. p.pairs i j u v ij (omega (arith, k, dm));
          visited = λ z hz i q d. or_cases (has z o) _ (p.visited z hz i q d)
              (λ w. or_left (has z a) _ (union_left z o ((at path m).objects) a hz e w))
              (λ w. any_elim depth _ w (λ k hk y. by_eq k m
              (λ j. or_left (has z a) _ (union_right z o ((at path m).objects) a hz e (subst (λ (i : ℕ). has z ((at path i).objects) ≡ true) j y)))
              (λ j. or_right (has z a) _ (any_intro m _ k (omega (arith, hk, dm, j)) y))));
        }

        pub less_merge : to_do free m b < to_do free depth l
        less_merge = omega (arith, dm)

    -- nobody is left
    module _ (lz : left ≡ 0) (after : List ℕ) (put : PutEach o s rows after) (done' : ℕ) (u' : done' ≡ union_of done o) where
      closed : (u v : ℕ) → u < 64 → v < 64 → has u s ≡ true → E u v ≡ true → has v s ≡ true
      closed u v hu hv z e = p.step.taken u v hu hv (less_none u s l left hu n lz z) e

      whole : (u : ℕ) → u < 64 → has u o ≡ true → s ≡ reached E u
      whole u hu z = as_reached E low u s p.step.fits (p.step.own u hu z) (λ v hv w. p.step.reach u v hu hv z w) closed

      settled_now : Settled groups links done' after
      settled_now = record {
        long = put.long ∙ p.now.long;
        part = λ u hu z. in_union u done o done' hu u' z (p.now.part u hu) (p.step.part u hu);
        row = λ u hu z. by_cases (has u o)
            (λ w. put.new u hu w ∙ whole u hu w)
            (λ w. put.old u hu w ∙ p.now.row u hu (in_union u done o done' hu u' z (λ q. q) (λ q. clash q w)));
        rest = λ u hu z. put.old u hu (by_cases (has u o) (λ w. clash (p.step.part u hu w) z) (λ w. w)) ∙ p.now.rest u hu z;
      }

      still : (u : ℕ) → u < 64 → has u settled ≡ true → has u done' ≡ true
      still u hu z = union_left u done o done' hu u' (p.kept u hu z)

      -- of the first step
      pub walk_end : depth ≡ 0 → SettledWith groups links settled x done' after
      unfolding any_below
      walk_end z = record {
        now = settled_now;
        more = still;
        own = by_cases (has x done') (λ e. e) (λ e. let k = in_neither x done o done' p.first.0 u' e in
            or_cases (has x o) _ (p.visited x p.first.0 p.first.1 p.first.2 k.0) (λ w. clash w k.1)
            (λ w. any_elim depth _ w (λ i hi c. absurd (omega (arith, hi, z)))));
      }

      -- of a later one: the step before it goes on
      module _ (m t b : ℕ) (dm : depth ≡ m + 1) (h : t ≡ union_of s ((at path m).known)) (c : b ≡ union_of s ((at path m).passed)) where
        hm' : m < depth
        hm' = omega (arith, dm)

        prior : Step ((at path m).objects) ((at path m).known) ((at path m).passed)
        prior = p.steps m hm'

        pub walk_pop : Walk settled x after path ((at path m).objects) t b free done' m
        walk_pop = record {
          deep = omega (arith, dm, p.deep);
          path_long = p.path_long;
          now = settled_now;
          kept = still;
          first = p.first;
          step = record {
            fits = union_fits s ((at path m).known) t h;
            part = prior.part;
            inside = λ v hv z. in_union v s ((at path m).known) t hv h z (p.step.inside v hv) (prior.inside v hv);
            own = λ u hu z. union_right u s ((at path m).known) t hu h (prior.own u hu z);
            covered = λ u hu z. union_right u s ((at path m).passed) b hu c (prior.covered u hu z);
            reach = λ u v hu hv z w. in_union v s ((at path m).known) t hv h w (p.ahead m u v hm' hu hv z) (prior.reach u v hu hv z);
            taken = λ u v hu hv z w. in_union u s ((at path m).passed) b hu c z
                (λ q. union_left v s ((at path m).known) t hv h (closed u v hu hv q w))
                (λ q. union_right v s ((at path m).known) t hv h (prior.taken u v hu hv q w));
          };
          steps = λ i k. p.steps i (omega (arith, k, dm));
          ahead = λ i u v k hu hv z w. in_union v s ((at path m).known) t hv h w (p.ahead i u v (omega (arith, k, dm)) hu hv z) (p.pairs i m u v k hm' hu hv z);
          pairs = λ i j u v ij k. p.pairs i j u v ij (omega (arith, k, dm));
          visited = λ z hz i q d. let w = in_neither z done o done' hz u' d in
              or_cases (has z o) _ (p.visited z hz i q w.0) (λ y. clash y w.1)
              (λ y. any_elim depth _ y (λ k hk e. by_eq k m
              (λ j. or_left (has z ((at path m).objects)) _ (subst (λ (a : ℕ). has z ((at path a).objects) ≡ true) j e))
              (λ j. or_right (has z ((at path m).objects)) _ (any_intro m _ k (omega (arith, hk, dm, j)) e))));
        }

        pub less_pop : to_do free m b < to_do free depth l
        less_pop = omega (arith, dm)
