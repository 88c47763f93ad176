-- The loops of the walk: words without the members, a round backwards, layers made one after the other in an array, and the walk through
-- them, each law a turn. Assumes nothing.
use mathlib.Core.Path.{◌≡◌, refl, sym, ◌∙◌, ap, ap₂}
use mathlib.Core.Bool.{Bool, true, false, not, ◌&&◌, ◌||◌}
use mathlib.Core.List.{List, [], ◌∷◌, ◌++◌, append-nil, append_assoc}
use Prim.Native.Nat.{ℕ, zero, suc, ◌+◌, ◌-◌, ◌≤◌, ◌<◌}
use native.Mathlib.Omega.{arith}
use lib.Dec.{ltb}
use lib.ListN.{length, length-append, length-set, get_or, set, replicate}
use lib.Seq.{get_or-set_same, get_or-set_other}
use borrow.Author.Tests.{ltb-true}
use Rattle.mask.specs.Sets.{has, any_below, common_of, disjoint_of}
use Rattle.mask.proofs.Tests.{by_cases, and_true}
use Rattle.mask.proofs.Bits.{has_common, shared}
use Rattle.mask.proofs.UpTo.{up_to, up_all}
use Rattle.table.specs.Lists.{padded}
use Rattle.table.proofs.Lists.{padded_push}
use Rattle.relation.specs.Closure.{grow, only}
use Rattle.links.specs.Links.{word_edge}
use Rattle.bounds.specs.StandIn.{lowest_from, stand_in}
use Rattle.walks.specs.declared.Walked.{Walked}
use Rattle.walks.specs.Chains.{layers_to, next_of, walk_down, least_chain, walked}
use Rattle.walks.specs.Helpers.{latest_first, in_range}
use Rattle.walks.proofs.Lengths.{walk_long, none_padded}

-- a round backwards --------------------------------------------------------------------------------
-- y is there, or has an edge into what is there
abbrev pub into : (ℕ → ℕ → Bool) → ℕ → ℕ → Bool
into edge s y = has y s || any_below 64 (λ b. has b s && edge y b)

pub into_is : (words : List ℕ) (s x : ℕ) (h d : Bool) → h ≡ has x s → d ≡ disjoint_of s (get_or words x 0) → (h || not d) ≡ into (word_edge words) s x
into_is words s x h d e f = ap₂ (λ (a b : Bool). a || b) e (ap not f ∙ shared s (get_or words x 0))

-- what a layer and a word share, where a test said whether there is any
pub met : (words : List ℕ) (x s : ℕ) (d b : Bool) → d ≡ disjoint_of s (get_or words x 0) → not d ≡ b → any_below 64 (λ y. has y s && word_edge words x y) ≡ b
met words x s d b e f = sym (shared s (get_or words x 0)) ∙ ap not (sym e) ∙ f

pub back_all : (edge : ℕ → ℕ → Bool) (s n m : ℕ) → 64 ≤ n → m ≡ up_to n (into edge s) → m ≡ grow (λ a b. edge b a) s
unfolding grow
back_all edge s n m h e = e ∙ up_all (into edge s) n h

-- the sets of the array --------------------------------------------------------------------------
latest_kept : (sets : List ℕ) (n a m : ℕ) → m ≤ n → latest_first (set sets n a) m ≡ latest_first sets m
unfolding latest_first
latest_kept sets n a zero h = refl
latest_kept sets n a (suc m) h = ap₂ (λ (s : ℕ) (l : List ℕ). s ∷ l) (get_or-set_other sets n m a 0 (λ e. absurd (omega arith))) (latest_kept sets n a m (omega arith))

latest_long : (sets : List ℕ) (m : ℕ) → length (latest_first sets m) ≡ m
unfolding latest_first
latest_long sets zero = refl
latest_long sets (suc m) = ap suc (latest_long sets m)

module _ (edge : ℕ → ℕ → Bool) (x z : ℕ) where
  -- the layers that are there, and those that are left, are all
  pub record Making (sets : List ℕ) (s k : ℕ) : Type 0 where
    pub few : k ≤ 62
    pub long : length sets ≡ 63
    pub latest : get_or sets k 0 ≡ s
    pub rest : layers_to (62 - k) edge x s (latest_first sets k) ≡ layers_to 62 edge x (only z) []

  pub making_none : (s : ℕ) (sets : List ℕ) → s ≡ only z → sets ≡ set (replicate 63 0) 0 s → Making sets s 0
  unfolding latest_first
  making_none s sets e f = record {
    few = omega arith;
    long = ap length f ∙ length-set (replicate 63 0) 0 s;
    latest = ap (λ (l : List ℕ). get_or l 0 0) f;
    rest = ap (λ (m : ℕ). layers_to 62 edge x m []) e;
  }

  made : (sets : List ℕ) (s k m : ℕ) → m ≡ suc k → get_or sets k 0 ≡ s → latest_first sets m ≡ s ∷ latest_first sets k
  unfolding latest_first
  made sets s k m q e = ap (latest_first sets) q ∙ ap (λ (i : ℕ). i ∷ latest_first sets k) e

  stop : (n s : ℕ) (below : List ℕ) → any_below 64 (λ y. has y s && edge x y) ≡ true → layers_to n edge x s below ≡ s ∷ below
  unfolding layers_to
  stop zero s below e = refl
  stop (suc n) s below e = rw (e, layers_to) refl

  onward : (n m s : ℕ) (below : List ℕ) → n ≡ suc m → any_below 64 (λ y. has y s && edge x y) ≡ false
      → layers_to n edge x s below ≡ layers_to m edge x (grow (λ a b. edge b a) s) (s ∷ below)
  unfolding layers_to
  onward n m s below q e = ap (λ (i : ℕ). layers_to i edge x s below) q ∙ rw (e, layers_to) refl

  pub making_stop : (sets : List ℕ) (s k m : ℕ) → m ≡ suc k → any_below 64 (λ y. has y s && edge x y) ≡ true → Making sets s k
      → (m ≤ 63) × (latest_first sets m ≡ layers_to 62 edge x (only z) [])
  making_stop sets s k m q e d = (omega (arith, d.few), made sets s k m q d.latest ∙ sym (stop (62 - k) s (latest_first sets k) e) ∙ d.rest)

  pub making_end : (sets : List ℕ) (s k : ℕ) → 62 ≤ k → Making sets s k → (63 ≤ 63) × (latest_first sets 63 ≡ layers_to 62 edge x (only z) [])
  unfolding layers_to
  making_end sets s k h d =
      let n : 62 - k ≡ 0 = omega arith in
      (omega arith, made sets s k 63 (omega (arith, d.few)) d.latest ∙ sym (ap (λ (i : ℕ). layers_to i edge x s (latest_first sets k)) n) ∙ d.rest)

  pub making_more : (sets new : List ℕ) (s t k m : ℕ) → k < 62 → m ≡ k + 1 → t ≡ grow (λ a b. edge b a) s → new ≡ set sets m t
      → any_below 64 (λ y. has y s && edge x y) ≡ false → Making sets s k → Making new t m
  making_more sets new s t k m h q g f e d = record {
    few = omega arith;
    long = ap length f ∙ length-set sets m t ∙ d.long;
    latest = ap (λ (l : List ℕ). get_or l m 0) f ∙ get_or-set_same sets m t 0 (omega (arith, d.long));
    rest = ap₂ (λ (i : ℕ) (l : List ℕ). layers_to (62 - m) edge x i l) g
        (ap (λ (l : List ℕ). latest_first l m) f ∙ latest_kept sets m t m (omega arith) ∙ made sets s k m (omega arith) d.latest)
        ∙ sym (onward (62 - k) (62 - m) s (latest_first sets k) (omega arith) e) ∙ d.rest;
  }

-- the chain through all the layers that were made
pub least_walked : (edge : ℕ → ℕ → Bool) (x z : ℕ) (l : List ℕ) (r : Walked) → l ≡ layers_to 62 edge x (only z) [] → r ≡ walked (walk_down edge x l) → r ≡ walked (least_chain edge x z)
unfolding least_chain
least_walked edge x z l r e f = f ∙ ap (λ (m : List ℕ). walked (walk_down edge x m)) e

pub least_layers : (edge : ℕ → ℕ → Bool) (x z : ℕ) (l : List ℕ) → l ≡ layers_to 62 edge x (only z) [] → walk_down edge x l ≡ least_chain edge x z
unfolding least_chain
least_layers edge x z l e = ap (walk_down edge x) e

-- the lowest number of what a layer and a word share ------------------------------------------------
lowest_same : (n i : ℕ) (p q : ℕ → Bool) → ((k : ℕ) → k < n + i → p k ≡ q k) → lowest_from n i p ≡ lowest_from n i q
unfolding lowest_from
lowest_same zero i p q f = refl
lowest_same (suc n) i p q f = by_cases (p i)
    (λ e. rw (e, lowest_from, sym (f i (omega arith)) ∙ e) refl)
    (λ e. rw (e, lowest_from, sym (f i (omega arith)) ∙ e) (lowest_same n (suc i) p q (λ k h. f k (omega arith))))

pub next_shared : (words : List ℕ) (x s : ℕ) → stand_in (common_of s (get_or words x 0)) ≡ next_of (word_edge words) x s
unfolding stand_in next_of
next_shared words x s = lowest_same 64 0 _ _ (λ k h. has_common k s (get_or words x 0) (omega arith))

-- the walk -------------------------------------------------------------------------------------------
module _ (edge : ℕ → ℕ → Bool) (x : ℕ) (sets : List ℕ) (count : ℕ) where
  abbrev all : List ℕ
  all = walk_down edge x (latest_first sets count)

  -- the numbers that are put, and those that are left, are all
  pub record Walking (numbers : List ℕ) (at i : ℕ) : Type 0 where
    pub few : i ≤ count
    pub low : at < 64
    pub done : List ℕ
    pub long : length done ≡ i
    pub put : numbers ≡ padded 63 0 done
    pub rest : done ++ walk_down edge at (latest_first sets (count - i)) ≡ all
    pub range : in_range (walk_down edge at (latest_first sets (count - i))) ≡ true

  pub walking_none : (numbers : List ℕ) → x < 64 → numbers ≡ replicate 63 0 → in_range all ≡ true → Walking numbers x 0
  walking_none numbers h e r =
      let n : count - 0 ≡ count = omega arith in
      let w = ap (λ (k : ℕ). walk_down edge x (latest_first sets k)) n in
      record { few = omega arith; low = h; done = []; long = refl; put = e ∙ none_padded; rest = w; range = ap in_range w ∙ r }

  -- the next number
  left : (at i m : ℕ) → count - i ≡ suc m → walk_down edge at (latest_first sets (count - i)) ≡ next_of edge at (get_or sets m 0) ∷ walk_down edge (next_of edge at (get_or sets m 0)) (latest_first sets m)
  unfolding latest_first walk_down
  left at i m q = ap (λ (n : ℕ). walk_down edge at (latest_first sets n)) q

  head_low : (c : ℕ) (cs : List ℕ) → in_range (c ∷ cs) ≡ true → (c < 64) × (in_range cs ≡ true)
  unfolding in_range
  head_low c cs e = let p = and_true (ltb c 64) (in_range cs) e in (ltb-true c 64 p.0, p.1)

  pub next_low : (numbers : List ℕ) (at i m : ℕ) → count - i ≡ suc m → Walking numbers at i → next_of edge at (get_or sets m 0) < 64
  next_low numbers at i m q d = (head_low _ _ (ap in_range (sym (left at i m q)) ∙ d.range)).0

  pub walking_more : (numbers new : List ℕ) (at i m c j : ℕ) → count ≤ 63 → count - i ≡ suc m → c ≡ next_of edge at (get_or sets m 0)
      → new ≡ set numbers i c → j ≡ i + 1 → Walking numbers at i → Walking new c j
  walking_more numbers new at i m c j h q e f g d =
      let n : count - j ≡ m = omega arith in
      let l = left at i m q in
      let r = head_low _ _ (ap in_range (sym l) ∙ d.range) in
      record {
        few = omega arith;
        low = rw e r.0;
        done = d.done ++ (c ∷ []);
        long = length-append d.done (c ∷ []) ∙ omega (arith, d.long);
        put = f ∙ ap (λ (a : List ℕ). set a i c) d.put ∙ ap (λ (k : ℕ). set (padded 63 0 d.done) k c) (sym d.long) ∙ padded_push 63 0 d.done c (omega (arith, d.long));
        rest = append_assoc d.done (c ∷ []) _
            ∙ ap₂ (λ (b : ℕ) (k : ℕ). d.done ++ (b ∷ walk_down edge b (latest_first sets k))) e n ∙ ap (λ (a : List ℕ). d.done ++ a) (sym l) ∙ d.rest;
        range = ap₂ (λ (b : ℕ) (k : ℕ). in_range (walk_down edge b (latest_first sets k))) e n ∙ r.1;
      }

  pub walking_end : (numbers : List ℕ) (at i : ℕ) → count ≤ i → Walking numbers at i → (numbers ≡ padded 63 0 all) × (count ≡ length all)
  unfolding latest_first walk_down
  walking_end numbers at i h d =
      let n : count - i ≡ 0 = omega arith in (
        d.put ∙ ap (padded 63 0) (sym (append-nil d.done) ∙ ap (λ (k : ℕ). d.done ++ walk_down edge at (latest_first sets k)) (sym n) ∙ d.rest),
        sym (walk_long edge x (latest_first sets count) ∙ latest_long sets count),
      )
