-- The theorem: the computed closure is the least relation, and the computed influenced set is the influenced set, for every
-- holding whose participants are numbers below 64. In plain words: over y < 64, row b of x has y exactly if x has b over y by
-- the rules; and the influenced set of x has y exactly if influence steps lead from x to y.
-- The argument: self rights are total, so one held rd, wr or tx gives both ends everything over each other (a bond), and wk
-- alone goes along links. Each rule keeps "there is a path", and each edge is an instance of the rules. Assumes nothing.
use mathlib.Core.Path.{◌≡◌, refl}
use mathlib.Core.Logic.{◌≢◌}
use mathlib.Core.Bool.{Bool, true, false, ◌||◌, false≢true}
use Prim.Native.Nat.{ℕ, ◌^◌, ◌<◌}
use native.Mathlib.Omega.{arith}
use lib.Dec.{ltb}
use borrow.Author.Tests.{ltb-true}
use Rattle.mask.specs.Sets.{has}
use Rattle.mask.proofs.Tests.{clash, and_true, and_intro, or_cases, or_left, or_right, or_swap}
use Rattle.mask.proofs.Bits.{has_zero}
use Rattle.table.specs.declared.Table.{Table}
use Rattle.relation.specs.Relation.{Right, rd, wr, wk, tx, Holding, Can, holds, self, reads, weak_rd, weak_wk, writes, sends, Influences, by_wr, by_tx, by_rd, by_wk, Influenced, first, more, takes_part, table_holding}
use Rattle.relation.specs.Closure.{both_take_part, holds_strong, bond, link, link_back, edge_of, row_of, influenced_set}
use Rattle.relation.specs.Exactness.{Low, AccessExact, InfluenceExact}
use Rattle.relation.proofs.Reach.{Path, stay, step, join, turn, path_into, reached_lt, reached_path, path_reached}

-- every right but wk
abbrev pub is_strong : Right → Bool
is_strong rd = true
is_strong wr = true
is_strong wk = false
is_strong tx = true

module _ (h : Holding) where
  -- what an edge is ----------------------------------------------------------------
  pub part_facts : (x y : ℕ) → both_take_part h x y ≡ true → (h.node x ≡ true) × (h.node y ≡ true)
  unfolding both_take_part
  part_facts x y e = and_true _ _ e

  part_intro : (x y : ℕ) → h.node x ≡ true → h.node y ≡ true → both_take_part h x y ≡ true
  unfolding both_take_part
  part_intro x y p q = and_intro _ _ p q

  pub bond_part : (x y : ℕ) → bond h x y ≡ true → both_take_part h x y ≡ true
  unfolding bond
  bond_part x y e = (and_true (both_take_part h x y) _ e).0

  pub link_part : (x y : ℕ) → link h x y ≡ true → both_take_part h x y ≡ true
  unfolding link
  link_part x y e = (and_true (both_take_part h x y) _ e).0

  pub bond_sym : (x y : ℕ) → bond h x y ≡ true → bond h y x ≡ true
  unfolding bond
  bond_sym x y e =
      let p = and_true (both_take_part h x y) (holds_strong h x y || holds_strong h y x) e in
      let q = part_facts x y p.0 in
      and_intro _ _ (part_intro y x q.1 q.0) (or_swap (holds_strong h x y) (holds_strong h y x) p.1)

  pub bond_link : (x y : ℕ) → bond h x y ≡ true → link h x y ≡ true
  unfolding bond link
  bond_link x y e =
      let p = and_true (both_take_part h x y) (holds_strong h x y || holds_strong h y x) e in
      and_intro _ _ p.0 (or_left (holds_strong h x y || holds_strong h y x) _ p.1)

  pub bond_of_lem : (x y : ℕ) → both_take_part h x y ≡ true → (holds_strong h x y || holds_strong h y x) ≡ true → bond h x y ≡ true
  unfolding bond
  bond_of_lem x y p e = and_intro _ _ p e

  strong_held : (b : Right) (x y : ℕ) → is_strong b ≡ true → h.held b x y ≡ true → holds_strong h x y ≡ true
  unfolding holds_strong
  strong_held rd x y f e = or_left _ _ (or_left (h.held rd x y) _ e)
  strong_held wr x y f e = or_left _ _ (or_right (h.held rd x y) _ e)
  strong_held wk x y f e = absurd (false≢true f)
  strong_held tx x y f e = or_right (h.held rd x y || h.held wr x y) _ e

  pub held_bond : (b : Right) (x y : ℕ) → h.node x ≡ true → h.node y ≡ true → is_strong b ≡ true → h.held b x y ≡ true → bond h x y ≡ true
  unfolding bond
  held_bond b x y p q f e = and_intro _ _ (part_intro x y p q) (or_left (holds_strong h x y) _ (strong_held b x y f e))

  strong_link : (b : Right) (x y : ℕ) → is_strong b ≡ true → h.node x ≡ true → h.node y ≡ true → h.held b x y ≡ true → link_back h x y ≡ true
  strong_link b x y f p q e = bond_link y x (bond_sym x y (held_bond b x y p q f e))

  pub held_link : (b : Right) (x y : ℕ) → h.node x ≡ true → h.node y ≡ true → h.held b x y ≡ true → link_back h x y ≡ true
  unfolding link
  held_link rd x y = strong_link rd x y refl
  held_link wr x y = strong_link wr x y refl
  held_link wk x y = λ p q e. and_intro _ _ (part_intro y x q p) (or_right (holds_strong h y x || holds_strong h x y) _ e)
  held_link tx x y = strong_link tx x y refl

  -- each edge is an instance of the rules ------------------------------------
  strong_can : (b : Right) (x y : ℕ) → h.node x ≡ true → h.node y ≡ true → holds_strong h x y ≡ true → (Can h b x y) × (Can h b y x)
  unfolding holds_strong
  strong_can b x y p q e = or_cases (h.held rd x y || h.held wr x y) _ e
      (λ a. or_cases (h.held rd x y) _ a
      (λ r. let c : (d : Right) → Can h d x y = (λ d. reads (holds p q r) (self q)) in (c b, writes (c wr) (self p)))
      (λ w. let c : (d : Right) → Can h d y x = (λ d. writes (holds p q w) (self p)) in (writes (c wr) (self q), c b)))
      (λ w. let c : (d : Right) → Can h d y x = (λ d. sends (holds p q w) (self p)) in (writes (c wr) (self q), c b))

  either_can : (b : Right) (x y : ℕ) → h.node x ≡ true → h.node y ≡ true → (holds_strong h x y || holds_strong h y x) ≡ true → Can h b x y
  either_can b x y p q e = or_cases (holds_strong h x y) (holds_strong h y x) e (λ a. (strong_can b x y p q a).0) (λ a. (strong_can b y x q p a).1)

  bond_can : (b : Right) (x y : ℕ) → bond h x y ≡ true → Can h b x y
  unfolding bond
  bond_can b x y e =
      let p = and_true (both_take_part h x y) (holds_strong h x y || holds_strong h y x) e in
      let q = part_facts x y p.0 in
      either_can b x y q.0 q.1 p.1

  link_can : (x y : ℕ) → link_back h x y ≡ true → Can h wk x y
  unfolding link
  link_can x y e =
      let p = and_true (both_take_part h y x) _ e in
      let q = part_facts y x p.0 in
      or_cases (holds_strong h y x || holds_strong h x y) (h.held wk x y) p.1
      (λ a. either_can wk x y q.1 q.0 (or_swap (holds_strong h y x) (holds_strong h x y) a))
      (λ a. holds q.1 q.0 a)

  bonds_can : {b : Right} {x y : ℕ} → h.node x ≡ true → Path (bond h) x y → Can h b x y
  bonds_can p stay = self p
  bonds_can {b} p (step {y = w} {z = z} q e) = reads (bonds_can p q) (bond_can b w z e)

  pub links_can : {x y : ℕ} → h.node x ≡ true → Path (link_back h) x y → Can h wk x y
  links_can p stay = self p
  links_can p (step {y = w} {z = z} q e) = weak_wk (links_can p q) (link_can w z e)

  edges_can : (b : Right) (x y : ℕ) → h.node x ≡ true → Path (edge_of h b) x y → Can h b x y
  edges_can rd x y p q = bonds_can p q
  edges_can wr x y p q = bonds_can p q
  edges_can wk x y p q = links_can p q
  edges_can tx x y p q = bonds_can p q

  -- paths of bonds and of links ------------------------------------------------------
  bonds_sym : {x y : ℕ} → Path (bond h) x y → Path (bond h) y x
  bonds_sym stay = stay
  bonds_sym (step {y = w} p e) = join (step stay (bond_sym w _ e)) (bonds_sym p)

  pub bonds_back : {x y : ℕ} → Path (bond h) x y → Path (link_back h) x y
  bonds_back stay = stay
  bonds_back (step {y = w} {z = y} p e) = step (bonds_back p) (bond_link y w (bond_sym w y e))

  -- and back: what a right comes to: a path of links, and of bonds unless it is wk
  pub record Means (b : Right) (x y : ℕ) : Type 0 where
    pub from : h.node x ≡ true
    pub over : h.node y ≡ true
    pub links : Path (link_back h) x y
    pub bonds : is_strong b ≡ true → Path (bond h) x y

  -- each rule keeps it
  chained : {b : Right} {x y z : ℕ} → Path (bond h) x y → h.node x ≡ true → Means b y z → Means b x z
  chained p f n = record { from = f; over = n.over; links = join (bonds_back p) n.links; bonds = λ s. join p (n.bonds s) }

  weakly : {b c : Right} {x y z : ℕ} → Means b x y → Means c y z → Means wk x z
  weakly m n = record { from = m.from; over = n.over; links = join m.links n.links; bonds = λ s. absurd (false≢true s) }

  pub means : {b : Right} {x y : ℕ} → Can h b x y → Means b x y
  means (holds {b} {x} {y} p q e) = record { from = p; over = q; links = step stay (held_link b x y p q e); bonds = λ f. step stay (held_bond b x y p q f e) }
  means (self p) = record { from = p; over = p; links = stay; bonds = λ f. stay }
  means (reads c d) = chained ((means c).bonds refl) (means c).from (means d)
  means (weak_rd c d) = weakly (means c) (means d)
  means (weak_wk c d) = weakly (means c) (means d)
  means (writes c d) = chained (bonds_sym ((means c).bonds refl)) (means c).over (means d)
  means (sends c d) = chained (bonds_sym ((means c).bonds refl)) (means c).over (means d)

  means_edges : (b : Right) {x y : ℕ} → Means b x y → Path (edge_of h b) x y
  means_edges rd m = m.bonds refl
  means_edges wr m = m.bonds refl
  means_edges wk m = m.links
  means_edges tx m = m.bonds refl

  -- influence is links -------------------------------------------------------------------
  pub influences_links : {x y : ℕ} → Influences h x y → (h.node x ≡ true) × (Path (link_back h) y x)
  influences_links (by_wr c) = ((means c).from, bonds_back (bonds_sym ((means c).bonds refl)))
  influences_links (by_tx c) = ((means c).from, bonds_back (bonds_sym ((means c).bonds refl)))
  influences_links (by_rd c) = ((means c).over, (means c).links)
  influences_links (by_wk c) = ((means c).over, (means c).links)

  pub influenced_links : {x y : ℕ} → Influenced h x y → (h.node x ≡ true) × (Path (link h) x y)
  influenced_links (first i) = ((influences_links i).0, turn (link h) (influences_links i).1)
  influenced_links (more p i) = ((influenced_links p).0, join (influenced_links p).1 (turn (link h) (influences_links i).1))

  links_influenced : {x y : ℕ} → h.node x ≡ true → Path (link h) x y → Influenced h x y
  links_influenced n stay = first (by_wr (self n))
  links_influenced n (step {y = w} {z = z} p e) = more (links_influenced n p) (by_wk (link_can z w e))

  -- the theorem -----------------------------------------------------------------------------
  module _ (low : (x : ℕ) → h.node x ≡ true → x < 64) where
    part_low : (x y : ℕ) → both_take_part h x y ≡ true → (x < 64) × (y < 64)
    part_low x y e = let q = part_facts x y e in (low x q.0, low y q.1)

    pub edge_low : (b : Right) (x y : ℕ) → edge_of h b x y ≡ true → (x < 64) × (y < 64)
    edge_low rd x y e = part_low x y (bond_part x y e)
    edge_low wr x y e = part_low x y (bond_part x y e)
    edge_low wk x y e = let p = part_low y x (link_part y x e) in (p.1, p.0)
    edge_low tx x y e = part_low x y (bond_part x y e)

    -- a set that only a participant has
    in_node : (n : Bool) (m y : ℕ) → has y (elim n as (λ k. ℕ) [ true ↦ m | false ↦ 0 ]) ≡ true → (n ≡ true) × (has y m ≡ true)
    in_node true m y e = (refl, e)
    in_node false m y e = clash e (has_zero y)

    pub row_can : (b : Right) (x y : ℕ) → y < 64 → has y (row_of h b x) ≡ true → Can h b x y
    unfolding row_of
    row_can b x y l e = let p = in_node (h.node x) _ y e in edges_can b x y p.0 (reached_path (edge_of h b) x y l p.1)

    pub can_row : (b : Right) (x y : ℕ) → Can h b x y → has y (row_of h b x) ≡ true
    unfolding row_of
    can_row b x y c = let m = means c in rw (m.from, row_of) (path_reached (edge_of h b) (edge_low b) x y (low x m.from) (means_edges b m))

    pub set_influenced : (x y : ℕ) → y < 64 → has y (influenced_set h x) ≡ true → Influenced h x y
    unfolding influenced_set
    set_influenced x y l e = let p = in_node (h.node x) _ y e in links_influenced p.0 (reached_path (link h) x y l p.1)

    pub influenced_set_lem : (x y : ℕ) → Influenced h x y → has y (influenced_set h x) ≡ true
    unfolding influenced_set
    influenced_set_lem x y i =
        let p = influenced_links i in
        rw (p.0, influenced_set) (path_reached (link h) (λ u v e. part_low u v (link_part u v e)) x y (low x p.0) p.1)

  set_lt : (n : Bool) (m : ℕ) → m < 2 ^ 64 → elim n as (λ k. ℕ) [ true ↦ m | false ↦ 0 ] < 2 ^ 64
  set_lt true m l = l
  set_lt false m l = omega arith

  pub row_lt : (b : Right) (x : ℕ) → row_of h b x < 2 ^ 64
  unfolding row_of
  row_lt b x = set_lt (h.node x) _ (reached_lt (edge_of h b) x)

  pub influenced_lt : (x : ℕ) → influenced_set h x < 2 ^ 64
  unfolding influenced_set
  influenced_lt x = set_lt (h.node x) _ (reached_lt (link h) x)

-- links into x lead nowhere new from x
pub influenced_into : (g h : Holding) (x y : ℕ) → h.node x ≡ true → ((u v : ℕ) → v ≢ x → link g u v ≡ true → link h u v ≡ true) → Influenced g x y → Influenced h x y
influenced_into g h x y n f i = links_influenced h n (path_into (link g) (link h) x f (influenced_links g i).1)

-- the statements ---------------------------------------------------------------------------------------
pub access_exact : AccessExact
unfolding AccessExact
access_exact h low b x y l = (row_can h low b x y l, can_row h low b x y)

pub influence_exact : InfluenceExact
unfolding InfluenceExact
influence_exact h low x y l = (set_influenced h low x y l, influenced_set_lem h low x y)

-- the table's holding is one of numbers below 64
pub table_low : (t : Table) → Low (table_holding t)
unfolding takes_part
table_low t x e = ltb-true x 64 (and_true (ltb x 64) _ e).0
