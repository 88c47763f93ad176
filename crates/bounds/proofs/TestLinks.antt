-- The links of the confinement test as the code of `links` gives them: the slots between born non-members, joined with the entries of
-- the list, which the stand-in holds, are the test's holding, link by link. For every table, sound or not, and every set of members
-- that has one. Assumes nothing.
use mathlib.Core.Path.{◌≡◌, refl, ◌∙◌, ap, ap₂, subst⁻¹}
use mathlib.Core.Bool.{Bool, true, false, ◌&&◌, ◌||◌}
use mathlib.Core.List.{List}
use Prim.Native.Nat.{ℕ, ◌<◌}
use lib.Dec.{eqb}
use borrow.Author.Tests.{eqb-true, eq-eqb}
use Rattle.mask.specs.Sets.{has, any_below, less_of}
use Rattle.mask.proofs.Tests.{clash, bool_ext, and_true, and_intro, or_cases, or_left, or_right}
use Rattle.mask.proofs.Below.{any_intro, any_elim}
use Rattle.table.specs.declared.Table.{Table}
use Rattle.table.specs.Cells.{slot_of}
use Rattle.relation.specs.Relation.{Right, rd, wr, wk, tx, bit_at, Holding, holds_in}
use Rattle.relation.specs.Closure.{both_take_part, holds_strong, link, influenced_set}
use Rattle.access.specs.Answers.{born_outside}
use Rattle.access.proofs.TableWords.{outside_facts}
use Rattle.links.specs.declared.Spread.{Spread}
use Rattle.links.specs.Links.{link_words, word_edge, slot_holding, slot_held, entry_held, with_holder, joined, entry_link}
use Rattle.links.specs.Helpers.{spread_of}
use Rattle.links.proofs.Edges.{words_same}
use Rattle.links.proofs.Rounds.{spread_links}
use Rattle.links.proofs.Holdings.{entries_join}
use Rattle.bounds.specs.declared.EntryList.{EntryList}
use Rattle.bounds.specs.StandIn.{entries_of, entry_at, listed, stand_in, test_node, test_held, test_holding, bound_of}
use Rattle.bounds.specs.Helpers.{bound_grown}
use Rattle.bounds.proofs.Holding.{node_x, free_node, node_cases, held_free, held_x, held_not, held_cases, entry_at_lem, long}

-- the same test, and the same behind it where it passes
both : (a b p q : Bool) → a ≡ b → (b ≡ true → p ≡ q) → (a && p) ≡ (b && q)
both a true p q e f = ap₂ (λ (u v : Bool). u && v) e (f refl)
both a false p q e f = rw e refl

module _ (t : Table) (members : ℕ) (l : EntryList) (low : stand_in members < 64) where
  abbrev X : ℕ
  X = stand_in members

  abbrev outside : ℕ
  outside = born_outside t.records members

  abbrev test : Holding
  test = test_holding t members (entries_of l)

  abbrev code : Holding
  code = with_holder t.slots outside l.entries l.count X

  node_same : (n : ℕ) → (has n outside || eqb n X) ≡ test_node t members n
  node_same n = bool_ext _ _
      (λ e. or_cases (has n outside) (eqb n X) e (free_node t members l low n)
      (λ h. subst⁻¹ (λ (m : ℕ). test_node t members m ≡ true) (eqb-true n X h) (node_x t members low)))
      (λ e. node_cases t members l low n e (λ h f. or_left (has n outside) _ f) (λ h q. or_right (has n outside) (eqb n X) (eq-eqb n X q)))

  -- what the entries list, as the code holds them
  entries_listed : (b : Right) (y : ℕ)
      → any_below l.count (λ k. eqb (slot_of l.entries k).target y && has (bit_at b) (slot_of l.entries k).rights) ≡ true
      → listed (entries_of l) b y ≡ true
  unfolding listed
  entries_listed b y e = any_elim l.count _ e (λ k h a.
      any_intro _ (λ i. eqb (entry_at (entries_of l) i).target y && has (bit_at b) (entry_at (entries_of l) i).rights) k (rw (long t members l low) h)
      (rw (entry_at_lem t members l low k h) a))

  listed_entries : (b : Right) (y : ℕ) → listed (entries_of l) b y ≡ true
      → any_below l.count (λ k. eqb (slot_of l.entries k).target y && has (bit_at b) (slot_of l.entries k).rights) ≡ true
  unfolding listed
  listed_entries b y e = any_elim _ (λ i. eqb (entry_at (entries_of l) i).target y && has (bit_at b) (entry_at (entries_of l) i).rights) e (λ k h a.
      let g : k < l.count = rw (long t members l low) at h in
      any_intro l.count _ k g (rw (← entry_at_lem t members l low k g) a))

  held_same : (b : Right) (x y : ℕ) → test_node t members x ≡ true → test_node t members y ≡ true
      → (slot_held t.slots outside b x y || entry_held l.entries l.count outside X b x y) ≡ test_held t members (entries_of l) b x y
  unfolding slot_held entry_held holds_in
  held_same b x y nx ny = bool_ext _ _
      (λ e. or_cases (slot_held t.slots outside b x y) _ e
      (λ s.
      let p = and_true (has x outside) _ s in
      let q = and_true (has y outside) _ p.1 in
      held_free t members l low b x y (outside_facts t members x p.0).1 (outside_facts t members y q.0).1 q.1)
      (λ s.
      let p = and_true (eqb x X) _ s in
      let q = and_true (has y outside) _ p.1 in
      subst⁻¹ (λ (u : ℕ). test_held t members (entries_of l) b u y ≡ true) (eqb-true x X p.0)
      (held_x t members l low b y (outside_facts t members y q.0).1 (entries_listed b y q.1))))
      (λ e.
      let v = held_not t members l low b x y e in
      node_cases t members l low y ny
      (λ h f. held_cases t members l low b x y e v
      (λ u g. node_cases t members l low x nx
      (λ w k. or_left (slot_held t.slots outside b x y) _ (and_intro (has x outside) _ k (and_intro (has y outside) _ f g)))
      (λ w k. clash w u))
      (λ u g. or_right (slot_held t.slots outside b x y) _ (and_intro (eqb x X) _ (eq-eqb x X u) (and_intro (has y outside) _ f (listed_entries b y g)))))
      (λ h f. clash h v))

  strong_same : (x y : ℕ) → test_node t members x ≡ true → test_node t members y ≡ true → holds_strong code x y ≡ holds_strong test x y
  unfolding holds_strong
  strong_same x y nx ny = ap₂ (λ (p q : Bool). p || q) (ap₂ (λ (p q : Bool). p || q) (held_same rd x y nx ny) (held_same wr x y nx ny)) (held_same tx x y nx ny)

  pub link_same : (x y : ℕ) → link code x y ≡ link test x y
  unfolding link both_take_part
  link_same x y = both _ (test_node t members x && test_node t members y) _ _
      (ap₂ (λ (p q : Bool). p && q) (node_same x) (node_same y))
      (λ e.
      let n = and_true (test_node t members x) (test_node t members y) e in
      ap₂ (λ (p q : Bool). p || q) (ap₂ (λ (p q : Bool). p || q) (strong_same x y n.0 n.1) (strong_same y x n.1 n.0)) (held_same wk y x n.1 n.0))

  -- In plain words: the words that `slot_links` and then `with_entries` give are those of the test's holding
  pub test_links : joined (link_words (slot_holding t.slots outside)) (entry_link l.entries l.count outside X) ≡ link_words test
  unfolding link_words
  test_links = entries_join t.slots outside l.entries l.count X ∙ words_same _ _ (λ x y hx hy. link_same x y)

-- what the code's calls come to: the links of the test, and the bound that grows along them
pub joined_own : (own held words : List ℕ) (edge : ℕ → ℕ → Bool) → own ≡ held → words ≡ joined own edge → words ≡ joined held edge
joined_own own held words edge e f = f ∙ ap (λ (w : List ℕ). joined w edge) e

pub code_links : (t : Table) (members : ℕ) (l : EntryList) (out x : ℕ) (words : List ℕ) → stand_in members < 64 → out ≡ born_outside t.records members → x ≡ stand_in members
    → words ≡ joined (link_words (slot_holding t.slots out)) (entry_link l.entries l.count out x) → words ≡ link_words (test_holding t members (entries_of l))
code_links t members l out x words low o e f = f
    ∙ (λ i. joined (link_words (slot_holding t.slots (o i))) (entry_link l.entries l.count (o i) (e i)))
    ∙ test_links t members l low

pub bound_answer : (t : Table) (members : ℕ) (l : EntryList) (x objects : ℕ) (words : List ℕ) (spread : Spread) → stand_in members < 64 → x ≡ stand_in members
    → words ≡ link_words (test_holding t members (entries_of l)) → spread ≡ spread_of (word_edge words) x → objects ≡ less_of spread.set members
    → record { bound = objects; rounds = spread.rounds } ≡ bound_grown t members (entries_of l)
unfolding bound_grown bound_of influenced_set spread_of
bound_answer t members l x objects words spread low e f g h =
    let H = test_holding t members (entries_of l) in
    let r : spread ≡ spread_of (link H) (stand_in members) = g ∙ ap₂ (λ (w : List ℕ) (i : ℕ). spread_of (word_edge w) i) f e ∙ spread_links H (stand_in members) in
    ap₂ (λ (a b : ℕ). record { bound = a; rounds = b })
    (h ∙ ap (λ (s : Spread). less_of s.set members) r ∙ rw (node_x t members low, influenced_set) refl)
    (ap (λ (s : Spread). s.rounds) r)
