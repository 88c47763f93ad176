-- The table's holding as words: its bonds, and the links between its groups, which lead where its links taken back lead. Assumes nothing.
use mathlib.Core.Path.{◌≡◌, refl, sym, ◌∙◌, ap, ap₂}
use mathlib.Core.Bool.{Bool, true, false, ◌&&◌, ◌||◌}
use mathlib.Core.List.{List}
use Prim.Native.Nat.{ℕ, ◌<◌}
use lib.ListN.{get_or}
use Rattle.mask.specs.Sets.{has, union_of}
use Rattle.mask.proofs.Tests.{by_cases, bool_ext, and_true, and_intro, or_cases, or_left, or_right}
use Rattle.mask.proofs.Below.{any_intro, any_elim}
use Rattle.mask.proofs.Bits.{bits_ext}
use Rattle.table.specs.declared.Table.{Table}
use Rattle.relation.specs.Relation.{Right, rd, wr, wk, tx, Holding, takes_part, holds_in, table_holding}
use Rattle.relation.specs.Closure.{reached, both_take_part, holds_strong, bond, link, link_back, row_of}
use Rattle.relation.proofs.Reach.{Path, stay, step, join, reached_lt, reached_path, path_reached}
use Rattle.relation.proofs.Exact.{part_facts, bond_part, link_part, bond_of_lem, edge_low, bond_sym, bonds_back, held_link, table_low}
use Rattle.access.specs.Answers.{born_outside}
use Rattle.links.specs.Links.{words_of, word_edge, slot_held, slot_holding}
use Rattle.links.proofs.Edges.{words_edge, words_long, words_fits}
use Rattle.links.proofs.Rounds.{reached_same}
use Rattle.links.proofs.Holdings.{born_part}
use Rattle.sweeps.specs.Helpers.{near_of}
use Rattle.sweeps.proofs.Frontier.{has_near}
use Rattle.held.specs.Helpers.{joins_either}
use Rattle.leads.specs.Helpers.{Joining, group_words, group_links, led_words, words_among, Leading}
use Rattle.leads.proofs.Reaching.{word_low}
use Rattle.leads.proofs.Settling.{in_union, union_left, union_right}
use Rattle.leads.proofs.Words.{word_in, word_out, word_has, own_group, leading}

module _ (t : Table) where
  abbrev T : Holding
  T = table_holding t

  abbrev pub N : ℕ
  N = born_outside t.records 0

  abbrev pub J : List ℕ
  J = words_of (joins_either false (slot_holding t.slots N))

  -- over whom something is held
  abbrev pub over : ℕ → ℕ → Bool
  over x y = holds_strong (slot_holding t.slots N) x y || slot_held t.slots N wk x y

  abbrev pub W : List ℕ
  W = words_of over

  -- what slots hold between born numbers is what the table's holding has between those who take part
  held_part : (b : Right) (x y : ℕ) → slot_held t.slots N b x y ≡ (takes_part t x && (takes_part t y && holds_in t b x y))
  unfolding slot_held holds_in
  held_part b x y = ap₂ (λ (p q : Bool). p && (q && holds_in t b x y)) (born_part t x) (born_part t y)

  strong_part : (x y : ℕ) → holds_strong (slot_holding t.slots N) x y ≡ (takes_part t x && (takes_part t y && holds_strong T x y))
  unfolding holds_strong
  strong_part x y = ap₂ (λ (a b : Bool). a || b) (ap₂ (λ (a b : Bool). a || b) (held_part rd x y) (held_part wr x y)) (held_part tx x y)
      ∙ three (takes_part t x) (takes_part t y) (holds_in t rd x y) (holds_in t wr x y) (holds_in t tx x y)
    where
      three : (p q a b c : Bool) → ((p && (q && a)) || (p && (q && b)) || (p && (q && c))) ≡ (p && (q && (a || b || c)))
      three true true a b c = refl
      three true false a b c = refl
      three false q a b c = refl

  -- the words of joins are the bonds
  joins_bond : (x y : ℕ) → x < 64 → y < 64 → word_edge J x y ≡ bond T x y
  unfolding joins_either bond both_take_part
  joins_bond x y hx hy = words_edge (joins_either false (slot_holding t.slots N)) x y hx hy
      ∙ ap₂ (λ (a b : Bool). a || (b || false)) (strong_part x y) (strong_part y x)
      ∙ both (takes_part t x) (takes_part t y) (holds_strong T x y) (holds_strong T y x)
    where
      both : (p q a b : Bool) → ((p && (q && a)) || ((q && (p && b)) || false)) ≡ ((p && q) && (a || b))
      both true true a true = refl
      both true true a false = refl
      both true false a b = refl
      both false true a b = refl
      both false false a b = refl

  J-low : (u v : ℕ) → word_edge J u v ≡ true → (u < 64) × (v < 64)
  J-low = word_low J (words_long _) (words_fits _)

  W-low : (u v : ℕ) → word_edge W u v ≡ true → (u < 64) × (v < 64)
  W-low = word_low W (words_long _) (words_fits _)

  bond_at : (u v : ℕ) → word_edge J u v ≡ true → bond T u v ≡ true
  bond_at u v e = let l = J-low u v e in sym (joins_bond u v l.0 l.1) ∙ e

  at_bond : (u v : ℕ) → bond T u v ≡ true → word_edge J u v ≡ true
  at_bond u v e = let l = edge_low T (table_low t) rd u v e in joins_bond u v l.0 l.1 ∙ e

  over_part : (x y : ℕ) → over x y ≡ (takes_part t x && (takes_part t y && (holds_strong T x y || holds_in t wk x y)))
  over_part x y = ap₂ (λ (a b : Bool). a || b) (strong_part x y) (held_part wk x y) ∙ two (takes_part t x) (takes_part t y) (holds_strong T x y) (holds_in t wk x y)
    where
      two : (p q a b : Bool) → ((p && (q && a)) || (p && (q && b))) ≡ (p && (q && (a || b)))
      two true true a b = refl
      two true false a b = refl
      two false q a b = refl

  over_at : (u v : ℕ) → word_edge W u v ≡ true → (takes_part t u ≡ true) × (takes_part t v ≡ true) × ((holds_strong T u v || holds_in t wk u v) ≡ true)
  over_at u v e =
      let l = W-low u v e in
      let p = and_true (takes_part t u) _ (sym (over_part u v) ∙ sym (words_edge over u v l.0 l.1) ∙ e) in
      let q = and_true (takes_part t v) _ p.1 in
      (p.0, q.0, q.1)

  at_weak : (u v : ℕ) → u < 64 → v < 64 → takes_part t u ≡ true → takes_part t v ≡ true → holds_in t wk u v ≡ true → word_edge W u v ≡ true
  at_weak u v hu hv p q e = words_edge over u v hu hv ∙ over_part u v ∙ and_intro (takes_part t u) _ p (and_intro (takes_part t v) _ q (or_right (holds_strong T u v) _ e))

  part_in : (u : ℕ) → takes_part t u ≡ true → has u N ≡ true
  part_in u e = born_part t u ∙ e

  -- what the code's helpers ask for ------------------------------------------------------------------
  pub joining : Joining N (word_edge J)
  joining = record {
    either = λ u v e. at_bond v u (bond_sym T u v (bond_at u v e));
    within = λ u v e. ((J-low u v e).0, part_in u (bond_ends u v (bond_at u v e)));
  }
    where
      bond_ends : (u v : ℕ) → bond T u v ≡ true → takes_part t u ≡ true
      bond_ends u v e = (part_facts T u v (bond_part T u v e)).0

  within : (u v : ℕ) → word_edge W u v ≡ true → has v N ≡ true
  within u v e = part_in v (over_at u v e).1

  abbrev pub G : List ℕ
  G = group_words (word_edge J) N

  abbrev pub L : List ℕ
  L = group_links (word_edge J) (word_edge W) N

  pub leads_on : Leading G L
  leads_on = leading (word_edge J) (word_edge W) N joining within

  pub own : (u : ℕ) → u < 64 → has u N ≡ has u (get_or G u 0)
  own = own_group (word_edge J) (word_edge W) N joining

  -- the groups ------------------------------------------------------------------------------------------
  same_group : (x : ℕ) → reached (word_edge J) x ≡ reached (bond T) x
  same_group = reached_same (word_edge J) (bond T) joins_bond

  -- the word of a number of the set, by whether it takes part
  word_part : (word : ℕ → ℕ) (x : ℕ) → x < 64 → get_or (words_among N word) x 0 ≡ elim (takes_part t x) as (λ b. ℕ) [ true ↦ word x | false ↦ 0 ]
  word_part word x h = by_cases (takes_part t x)
      (λ e. word_in N word x h (part_in x e) ∙ sym (rw e refl))
      (λ e. word_out N word x h (born_part t x ∙ e) ∙ sym (rw e refl))

  pub group_row : (b : Right) (x : ℕ) → x < 64 → row_of T b x ≡ row_of T rd x → get_or G x 0 ≡ row_of T b x
  unfolding group_words row_of
  group_row b x h e = word_part (reached (word_edge J)) x h ∙ ap (λ (m : ℕ). elim (takes_part t x) as (λ b. ℕ) [ true ↦ m | false ↦ 0 ]) (same_group x) ∙ sym e

  -- whom links between groups lead to -----------------------------------------------------------------------
  abbrev E : ℕ → ℕ → Bool
  E = word_edge L

  E-low : (u v : ℕ) → E u v ≡ true → (u < 64) × (v < 64)
  E-low = word_low L leads_on.long leads_on.fits

  back_low : (u v : ℕ) → link_back T u v ≡ true → (u < 64) × (v < 64)
  back_low = edge_low T (table_low t) wk

  bonds_lead : (u v : ℕ) → v < 64 → has v (reached (word_edge J) u) ≡ true → Path (link_back T) u v
  bonds_lead u v hv e = bonds_back T (reached_path (bond T) u v hv (ap (has v) (sym (same_group u)) ∙ e))

  both_part : (u v : ℕ) → takes_part t u ≡ true → takes_part t v ≡ true → both_take_part T u v ≡ true
  unfolding both_take_part
  both_part u v p q = and_intro (takes_part t u) _ p q

  -- a link between groups is a path of links
  edge_path : (u v : ℕ) → E u v ≡ true → Path (link_back T) u v
  unfolding group_links
  edge_path u v e =
      let l = E-low u v e in
      let s = reached (word_edge J) u in
      let p = word_has N (λ x. union_of (reached (word_edge J) x) (near_of (word_edge W) (reached (word_edge J) x))) u v l.0 e in
      in_union v s (near_of (word_edge W) s) (union_of s (near_of (word_edge W) s)) l.1 refl p.1
      (bonds_lead u v l.1)
      (λ q. any_elim 64 _ (sym (has_near (word_edge W) s v l.1) ∙ q) (λ m hm b.
      let c = and_true (has m s) (word_edge W m v) b in
      let w = over_at m v c.1 in
      join (bonds_lead u m hm c.0) (or_cases (holds_strong T m v) (holds_in t wk m v) w.2
      (λ a. bonds_back T (step stay (bond_of_lem T m v (both_part m v w.0 w.1) (or_left (holds_strong T m v) _ a))))
      (λ a. step stay (held_link T wk m v w.0 w.1 a)))))

  -- and a link is a link between groups
  path_edge : (u v : ℕ) → link_back T u v ≡ true → E u v ≡ true
  unfolding group_links link
  path_edge u v e =
      let l = back_low u v e in
      let p = part_facts T v u (link_part T v u e) in
      let s = reached (word_edge J) u in
      let all = union_of s (near_of (word_edge W) s) in
      ap (has v) (word_in N (λ x. union_of (reached (word_edge J) x) (near_of (word_edge W) (reached (word_edge J) x))) u l.0 (part_in u p.1))
      ∙ or_cases (holds_strong T v u || holds_strong T u v) (holds_in t wk u v) (and_true (both_take_part T v u) _ e).1
      (λ a. union_left v s _ all l.1 refl (path_reached (word_edge J) J-low u v l.0 (step stay (at_bond u v (bond_sym T v u (bond_of_lem T v u (link_part T v u e) a))))))
      (λ a. union_right v s _ all l.1 refl (has_near (word_edge W) s v l.1 ∙ any_intro 64 _ u l.0
      (and_intro (has u s) _ (path_reached (word_edge J) J-low u u l.0 stay) (at_weak u v l.0 l.1 p.1 p.0 a))))

  paths : {x y : ℕ} → Path E x y → Path (link_back T) x y
  paths stay = stay
  paths (step {y = u} {z = v} p e) = join (paths p) (edge_path u v e)

  edges : {x y : ℕ} → Path (link_back T) x y → Path E x y
  edges stay = stay
  edges (step {y = u} {z = v} p e) = step (edges p) (path_edge u v e)

  same_led : (x : ℕ) → x < 64 → reached E x ≡ reached (link_back T) x
  same_led x hx = bits_ext 64 _ _ (reached_lt E x) (reached_lt (link_back T) x) (λ v hv. bool_ext _ _
      (λ e. path_reached (link_back T) back_low x v hx (paths (reached_path E x v hv e)))
      (λ e. path_reached E E-low x v hx (edges (reached_path (link_back T) x v hv e))))

  pub led_row : (x : ℕ) → x < 64 → get_or (led_words E N) x 0 ≡ row_of T wk x
  unfolding led_words row_of
  led_row x h = word_part (reached E) x h ∙ ap (λ (m : ℕ). elim (takes_part t x) as (λ b. ℕ) [ true ↦ m | false ↦ 0 ]) (same_led x h)
