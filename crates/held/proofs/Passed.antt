-- Holder by holder: the words have the edges of the holders passed, and after the last they are the words of the contract. Assumes nothing.
use mathlib.Core.Path.{◌≡◌, refl, sym, ◌∙◌, ap, ap₂, subst}
use mathlib.Core.Logic.{◌≢◌}
use mathlib.Core.Bool.{Bool, true, false, not, ◌&&◌, ◌||◌}
use mathlib.Core.List.{List}
use Prim.Native.Nat.{ℕ, ◌+◌, ◌*◌, ◌^◌, ◌≤◌, ◌<◌}
use native.Mathlib.Numerals.{add-one}
use native.Mathlib.Omega.{arith}
use lib.Dec.{ltb, eqb}
use lib.ListN.{get_or, set, replicate, length-set}
use lib.Seq.{get_or-set_same, get_or-set_other}
use borrow.Author.Tests.{ltb-true, ltb-false, lt-ltb, le-ltb, eqb-true, eq-eqb, ne_eqb, not-true, not-false}
use Rattle.mask.specs.Sets.{has, bits, all_below, any_below, including, union_of, subset_of}
use Rattle.mask.proofs.Tests.{by_cases, by_eq, clash, and_true, and_intro, and_false, or_cases, or_none, or_right, or_false, or_assoc, not_less}
use Rattle.mask.proofs.Below.{all_at, all_intro, any_intro, any_elim, any_none, any_last, any_ext}
use Rattle.mask.proofs.Bits.{has_bits, bits_same, subset_at}
use Rattle.table.specs.declared.Capability.{Capability}
use Rattle.table.specs.Cells.{slot_of, has_wk}
use Rattle.table.specs.Lists.{tabulate}
use Rattle.table.proofs.Lists.{length_tabulate, get_d_tabulate, as_tabulate}
use Rattle.relation.specs.Relation.{wk}
use Rattle.relation.specs.Closure.{holds_strong}
use Rattle.access.proofs.Marks.{has_low}
use Rattle.links.specs.Links.{words_of, has_strong, slot_held, slot_holding}
use Rattle.links.specs.Helpers.{edge_if}
use Rattle.links.proofs.Edges.{words_edge, words_same}
use Rattle.held.specs.declared.Holds.{Holds}
use Rattle.held.specs.Helpers.{joins_either, slot_named, is_astray, held_astray, include_if, everyone, strong_on, weak_on, over_on, join_on, Noted}
use Rattle.held.proofs.Slots.{row_to, set_none, set_out, set_more, set_skip, to_x, edge_none, edge_out, edge_next, edge_skip, strong_row, named_row, join_row}

-- all the numbers ---------------------------------------------------------------------------
pub low_every : (n : ℕ) → n < 64 → has n everyone ≡ true
unfolding all_below
low_every n h = all_at 64 (λ k. has k everyone) refl n h

pub high_every : (n : ℕ) → 64 ≤ n → has n everyone ≡ false
high_every n h = by_cases (has n everyone) (λ e. absurd (omega (arith, h, has_low everyone n (omega arith) e))) (λ e. e)

-- one capability, as the code reads it ---------------------------------------------------------
module _ (x : ℕ) (weakly : Bool) (c : Capability) where
  -- over a number that no set has
  pub noted_out : (h r : Holds) (before : List ℕ) → 64 ≤ c.target → r.strong ≡ h.strong → r.over ≡ h.over → r.astray ≡ true → Noted weakly x c h r before before
  unfolding include_if edge_if
  noted_out h r before e f g o =
      let z : has c.target everyone ≡ false = high_every c.target e in record {
        strong = rw (z, include_if) f;
        over = rw (z, include_if) g;
        astray = o ∙ sym (rw z (or_right h.astray true refl));
        joins = rw z (rw (and_false weakly, edge_if) refl);
      }

  -- by rd, wr or tx, and by no such right
  pub noted_strong : (h r : Holds) (before after : List ℕ) (s : Bool) → c.target < 64 → s ≡ has_strong c.rights → s ≡ true → after ≡ edge_if true before c.target x
      → r.strong ≡ including c.target h.strong → r.over ≡ including c.target h.over → r.astray ≡ h.astray → Noted weakly x c h r before after
  unfolding include_if
  noted_strong h r before after s l p e j f g o =
      let z : has c.target everyone ≡ true = low_every c.target l in let q : has_strong c.rights ≡ true = sym p ∙ e in record {
        strong = rw (z, q, include_if) f;
        over = rw (z, include_if) g;
        astray = o ∙ sym (rw z (or_false h.astray));
        joins = j ∙ ap (λ (b : Bool). edge_if b before c.target x) (sym (rw (z, q) refl));
      }

  pub noted_weak : (h r : Holds) (before after : List ℕ) (s k : Bool) → c.target < 64 → s ≡ has_strong c.rights → s ≡ false → k ≡ has_wk c.rights
      → after ≡ edge_if (weakly && k) before c.target x → r.strong ≡ h.strong → r.over ≡ including c.target h.over → r.astray ≡ h.astray → Noted weakly x c h r before after
  unfolding include_if
  noted_weak h r before after s k l p e q j f g o =
      let z : has c.target everyone ≡ true = low_every c.target l in let n : has_strong c.rights ≡ false = sym p ∙ e in record {
        strong = rw (z, n, include_if) f;
        over = rw (z, include_if) g;
        astray = o ∙ sym (rw z (or_false h.astray));
        joins = j ∙ ap (λ (b : Bool). edge_if b before c.target x) (ap (λ (b : Bool). weakly && b) q ∙ sym (rw (z, n) refl));
      }

-- a test of the numbers below x, and of x
below_same : (x u : ℕ) → u ≢ x → ltb u x ≡ ltb u (x + 1)
below_same x u q = by_cases (ltb u x)
    (λ e. e ∙ sym (lt-ltb u (x + 1) (omega (arith, ltb-true u x e))))
    (λ e. e ∙ sym (le-ltb u (x + 1) (omega (arith, q, ltb-false u x e))))

below_more : (x u : ℕ) (p : ℕ → Bool) → ((ltb u x && p u) || (eqb u x && p x)) ≡ (ltb u (x + 1) && p u)
below_more x u p = by_eq u x
    (λ q. let l : ltb u x ≡ false = le-ltb u x (omega (arith, q)) in let m : ltb u (x + 1) ≡ true = lt-ltb u (x + 1) (omega (arith, q)) in
    rw (l, m, eq-eqb u x q) (ap p (sym q)))
    (λ q. rw (ne_eqb u x q) (or_false (ltb u x && p u) ∙ ap (λ (b : Bool). b && p u) (below_same x u q)))

-- one word replaced
word_put : (e f : ℕ → ℕ → Bool) (x m : ℕ) → x < 64 → m ≡ bits 64 (f x) → ((u v : ℕ) → u < 64 → v < 64 → u ≢ x → e u v ≡ f u v) → set (words_of e) x m ≡ words_of f
word_put e f x m hx p same =
    let word : ℕ → ℕ = λ a. bits 64 (e a) in
    as_tabulate 64 _ 0 _ (length-set (words_of e) x m ∙ length_tabulate 64 word) (λ u hu. by_eq u x
    (λ q. ap (λ (i : ℕ). get_or (set (words_of e) x m) i 0) q ∙ get_or-set_same (words_of e) x m 0 (omega (arith, hx, length_tabulate 64 word)) ∙ p ∙ ap (λ (i : ℕ). bits 64 (f i)) (sym q))
    (λ q. get_or-set_other (words_of e) x u m 0 q ∙ get_d_tabulate 64 word u 0 hu ∙ bits_same 64 (e u) (f u) (λ v hv. same u v hu hv q)))

module _ (slots : List Capability) (among : ℕ) (weakly : Bool) where
  abbrev S : ℕ → ℕ → Bool
  S = holds_strong (slot_holding slots among)

  abbrev W : ℕ → ℕ → Bool
  W = slot_held slots among wk

  -- what joins u to the holder v
  abbrev B : ℕ → ℕ → Bool
  B v u = S v u || (weakly && W v u)

  -- the edges of the holders below x
  abbrev pub joins_to : ℕ → ℕ → ℕ → Bool
  joins_to x u v = (ltb u x && S u v) || (ltb v x && B v u)

  abbrev pub over_to : ℕ → ℕ → ℕ → Bool
  over_to x u v = ltb u x && slot_named slots among u v

  abbrev pub astray_to : ℕ → Bool
  astray_to x = any_below x (λ y. has y among && any_below 8 (λ k. is_astray among (slot_of slots (y * 8 + k))))

  pub astray_none : false ≡ astray_to 0
  unfolding any_below
  astray_none = refl

  no_words : replicate 64 0 ≡ words_of (λ u v. false)
  unfolding tabulate bits
  no_words = refl

  pub joins_none : replicate 64 0 ≡ words_of (joins_to 0)
  joins_none = no_words ∙ words_same _ _ (λ u v hu hv. sym (rw (le-ltb u 0 (omega arith), le-ltb v 0 (omega arith)) refl))

  pub over_none : replicate 64 0 ≡ words_of (over_to 0)
  over_none = no_words ∙ words_same _ _ (λ u v hu hv. sym (rw (le-ltb u 0 (omega arith)) refl))

  -- one holder -------------------------------------------------------------------------------
  -- after j of the slots of x; of one outside the set none is looked at
  pub record Taking (x j s w : ℕ) (o : Bool) (words : List ℕ) : Type 0 where
    pub few : j ≤ 8
    pub inside : j < 8 → has x among ≡ true
    pub strong : s ≡ bits 64 (row_to slots among x (strong_on everyone) j)
    pub over : w ≡ bits 64 (row_to slots among x (over_on everyone) j)
    pub astray : o ≡ (has x among && any_below j (λ i. is_astray everyone (slot_of slots (x * 8 + i))))
    pub joins : words ≡ words_of (to_x slots among x (joins_to x) (join_on weakly everyone) j)

  pub take_none : (x j : ℕ) (joins : List ℕ) → j ≡ 0 → has x among ≡ true → joins ≡ words_of (joins_to x) → Taking x j 0 0 false joins
  unfolding any_below
  take_none x j joins z e p = rw z record {
    few = omega arith;
    inside = λ h. e;
    strong = set_none slots among x (strong_on everyone);
    over = set_none slots among x (over_on everyone);
    astray = sym (and_false (has x among));
    joins = edge_none slots among x (joins_to x) (join_on weakly everyone) joins p;
  }

  pub take_out : (x j : ℕ) (joins : List ℕ) → j ≡ 8 → has x among ≡ false → joins ≡ words_of (joins_to x) → Taking x j 0 0 false joins
  take_out x j joins z e p = rw z record {
    few = omega arith;
    inside = λ h. absurd (omega arith);
    strong = set_out slots among x (strong_on everyone) 8 e;
    over = set_out slots among x (over_on everyone) 8 e;
    astray = sym (rw e refl);
    joins = edge_out slots among x (joins_to x) (join_on weakly everyone) 8 joins e p;
  }

  -- after the last slot, and of one outside the set
  pub take_end : (x j : ℕ) (g k : Holds) (joins words : List ℕ) → 8 ≤ j → Taking x j g.strong g.over g.astray joins → words ≡ joins → k ≡ g
      → Taking x 8 k.strong k.over k.astray words
  take_end x j g k joins words h p w q = let e : j ≡ 8 = omega (arith, h, p.few) in rw (w, q) (subst (λ (i : ℕ). Taking x i g.strong g.over g.astray joins) e p)

  pub take_past : (x : ℕ) (g k : Holds) (joins words : List ℕ) → has x among ≡ false → joins ≡ words_of (joins_to x) → words ≡ joins → k ≡ g
      → g.strong ≡ 0 → g.over ≡ 0 → g.astray ≡ false → Taking x 8 k.strong k.over k.astray words
  take_past x g k joins words e p w q a b o = rw (w, q, a, b, o) (take_out x 8 joins refl e p)

  module _ (x j : ℕ) (hx : x < 64) (h : j < 8) where
    abbrev c : Capability
    c = slot_of slots (x * 8 + j)

    on_low : join_on weakly everyone c ≡ true → c.target < 64
    on_low e = has_low everyone c.target (omega arith) (or_cases (strong_on everyone c) _ e
        (λ f. (and_true (has c.target everyone) _ f).0)
        (λ f. (and_true (has c.target everyone) _ (and_true weakly _ f).1).0))

    abbrev strays : ℕ → Bool
    strays i = is_astray everyone (slot_of slots (x * 8 + i))

    astray_next : has x among ≡ true → ((has x among && any_below j strays) || strays j) ≡ (has x among && any_below (j + 1) strays)
    astray_next e = rw add-one (rw e (sym (any_last j strays)))

    some : (b : Bool) → c.rights ≢ 0 → b ≡ (b && not (eqb c.rights 0))
    some b z = rw (ne_eqb c.rights 0 z) (kept b)
      where
        kept : (b : Bool) → b ≡ (b && not false)
        kept true = refl
        kept false = refl

    pub take_more : (g r k : Holds) (joins after words : List ℕ) → Taking x j g.strong g.over g.astray joins → c.rights ≢ 0 → Noted weakly x c g r joins after
        → k ≡ r → words ≡ after → Taking x (j + 1) k.strong k.over k.astray words
    take_more g r k joins after words p z n q w = let e = p.inside h in rw (q, w) record {
      few = omega arith;
      inside = λ l. e;
      strong = set_more slots among x (strong_on everyone) j _ _ e p.strong n.strong;
      over = set_more slots among x (over_on everyone) j _ _ e p.over (n.over ∙ ap (λ (b : Bool). include_if b c.target g.over) (some (has c.target everyone) z));
      astray = n.astray ∙ ap₂ (λ (a b : Bool). a || b) p.astray (ap (λ (a : Bool). not a && not (has c.target everyone)) (sym (ne_eqb c.rights 0 z)))
          ∙ astray_next e;
      joins = edge_next slots among x (joins_to x) (join_on weakly everyone) j joins after e hx on_low p.joins n.joins;
    }

    no_rights : c.rights ≡ 0 → (strong_on everyone c ≡ false) × (weak_on everyone c ≡ false) × (over_on everyone c ≡ false)
    no_rights z = let n = and_false (has c.target everyone) in (rw z n, rw z n, rw z n)

    pub take_skip : (g k : Holds) (joins words : List ℕ) → Taking x j g.strong g.over g.astray joins → c.rights ≡ 0
        → k ≡ g → words ≡ joins → Taking x (j + 1) k.strong k.over k.astray words
    take_skip g k joins words p z q w = let e = p.inside h in let f = no_rights z in rw (q, w) record {
      few = omega arith;
      inside = λ l. e;
      strong = set_skip slots among x (strong_on everyone) j _ e f.0 p.strong;
      over = set_skip slots among x (over_on everyone) j _ e f.2 p.over;
      astray = p.astray ∙ sym (or_false _) ∙ ap (λ (a : Bool). (has x among && any_below j strays) || (not a && not (has c.target everyone))) (sym (eq-eqb c.rights 0 z))
          ∙ astray_next e;
      joins = edge_skip slots among x (joins_to x) (join_on weakly everyone) j joins e (rw (f.0, f.1) (and_false weakly)) p.joins;
    }

  -- the holder passed --------------------------------------------------------------------------
  module _ (x j strong over : ℕ) (o : Bool) (joins : List ℕ) (hx : x < 64) (h : 8 ≤ j) (p : Taking x j strong over o joins) where
    abbrev at : ℕ → Capability
    at i = slot_of slots (x * 8 + i)

    last : j ≡ 8
    last = omega (arith, h, p.few)

    -- over whom it holds something, and whether it does so over a number that no set has
    over_is : (k : ℕ) → k < 64 → has k over ≡ row_to slots among x (over_on everyone) 8 k
    over_is k hk = ap (has k) (p.over ∙ ap (λ (i : ℕ). bits 64 (row_to slots among x (over_on everyone) i)) last) ∙ has_bits 64 k _ hk

    astray_is : o ≡ (has x among && any_below 8 (λ i. is_astray everyone (at i)))
    astray_is = p.astray ∙ ap (λ (i : ℕ). has x among && any_below i (λ k. is_astray everyone (at k))) last

    found : has x among ≡ true → (i : ℕ) → i < 8 → is_astray among (at i) ≡ true → true ≡ held_astray slots among
    unfolding held_astray
    found e i hi a = sym (any_intro 64 _ x hx (and_intro (has x among) _ e (any_intro 8 _ i hi a)))

    -- a number that is not in the whole is not in the set
    not_in : (n : ℕ) → among < 2 ^ 64 → has n everyone ≡ false → has n among ≡ false
    not_in n low e = by_cases (has n among) (λ f. clash (low_every n (has_low among n low f)) e) (λ f. f)

    -- it reaches out of the set
    pub astray_found : among < 2 ^ 64 → (s : Bool) → s ≡ subset_of over among → (o || not s) ≡ true → true ≡ held_astray slots among
    unfolding subset_of
    astray_found low s m e = or_cases o (not s) e
        (λ f. let q = and_true (has x among) _ (sym astray_is ∙ f) in any_elim 8 _ q.1 (λ i hi a.
        let w = and_true (not (eqb (at i).rights 0)) _ a in
        found q.0 i hi (and_intro _ _ w.0 (ap not (not_in (at i).target low (not-true _ w.1))))))
        (λ f. by_cases (any_below 64 (λ k. has k over && not (has k among)))
        (λ y. any_elim 64 _ y (λ k hk a.
        let w = and_true (has k over) _ a in
        let q = and_true (has x among) _ (sym (over_is k hk) ∙ w.0) in
        any_elim 8 _ q.1 (λ i hi z.
        let v = and_true (over_on everyone (at i)) _ z in
        found q.0 i hi (and_intro _ _ (and_true (has (at i).target everyone) _ v.0).1
        (ap (λ (n : ℕ). not (has n among)) (sym (eqb-true k (at i).target v.1)) ∙ w.1)))))
        (λ y. clash (m ∙ all_intro 64 _ (λ k hk. sym (not_less (has k over) (has k among)) ∙ ap not (any_none 64 _ y k hk))) (not-true s f)))

    -- or it does not
    module _ (low : among < 2 ^ 64) (s : Bool) (m : s ≡ subset_of over among) (e : (o || not s) ≡ false) where
      clean : has x among ≡ true → (i : ℕ) → i < 8 → not (eqb (at i).rights 0) ≡ true → has (at i).target among ≡ true
      clean g i hi n = by_cases (has (at i).target everyone)
          (λ f. let l = has_low everyone (at i).target (omega arith) f in
          subset_at over among (at i).target (sym m ∙ not-false s (or_none o (not s) e).1) l
          (over_is (at i).target l ∙ and_intro (has x among) _ g (any_intro 8 _ i hi
          (and_intro (over_on everyone (at i)) _ (and_intro (has (at i).target everyone) _ f n) (eq-eqb (at i).target (at i).target refl)))))
          (λ f. clash (astray_is ∙ and_intro (has x among) _ g (any_intro 8 _ i hi (and_intro _ _ n (ap not f)))) (or_none o (not s) e).0)

      -- what counts of the whole counts of the set
      swap : has x among ≡ true → (i : ℕ) → i < 8 → (b : Bool) → (b ≡ true → not (eqb (at i).rights 0) ≡ true) → (has (at i).target everyone && b) ≡ (has (at i).target among && b)
      swap g i hi true n = let f = clean g i hi (n refl) in rw (f, low_every (at i).target (has_low among (at i).target low f)) refl
      swap g i hi false n = and_false (has (at i).target everyone) ∙ sym (and_false (has (at i).target among))

      by_strong : (i : ℕ) → has_strong (at i).rights ≡ true → not (eqb (at i).rights 0) ≡ true
      by_strong i f = by_eq (at i).rights 0 (λ z. clash f (rw z refl)) (λ z. rw (ne_eqb (at i).rights 0 z) refl)

      by_weak : (i : ℕ) → has_wk (at i).rights ≡ true → not (eqb (at i).rights 0) ≡ true
      by_weak i f = by_eq (at i).rights 0 (λ z. clash f (rw z refl)) (λ z. rw (ne_eqb (at i).rights 0 z) refl)

      row_in : (q r : Capability → Bool) → (has x among ≡ true → (i : ℕ) → i < 8 → q (at i) ≡ r (at i)) → (y : ℕ) → row_to slots among x q 8 y ≡ row_to slots among x r 8 y
      row_in q r f y = by_cases (has x among)
          (λ g. rw g (any_ext 8 _ _ (λ i hi. ap (λ (b : Bool). b && eqb y (at i).target) (f g i hi))))
          (λ g. rw g refl)

      strong_in : (y : ℕ) → row_to slots among x (strong_on everyone) 8 y ≡ row_to slots among x (strong_on among) 8 y
      strong_in = row_in (strong_on everyone) (strong_on among) (λ g i hi. swap g i hi (has_strong (at i).rights) (by_strong i))

      over_in : (y : ℕ) → row_to slots among x (over_on everyone) 8 y ≡ row_to slots among x (over_on among) 8 y
      over_in = row_in (over_on everyone) (over_on among) (λ g i hi. swap g i hi (not (eqb (at i).rights 0)) (λ n. n))

      join_in : (y : ℕ) → row_to slots among x (join_on weakly everyone) 8 y ≡ row_to slots among x (join_on weakly among) 8 y
      join_in = row_in (join_on weakly everyone) (join_on weakly among) (λ g i hi. ap₂ (λ (a b : Bool). a || (weakly && b)) (swap g i hi (has_strong (at i).rights) (by_strong i)) (swap g i hi (has_wk (at i).rights) (by_weak i)))

      abbrev to_all : ℕ → ℕ → Bool
      to_all u v = joins_to x u v || (eqb v x && B x u)

      all_strong : strong ≡ bits 64 (S x)
      all_strong = p.strong ∙ ap (λ (i : ℕ). bits 64 (row_to slots among x (strong_on everyone) i)) last ∙ bits_same 64 _ _ (λ v hv. strong_in v ∙ sym (strong_row slots among x v))

      all_over : over ≡ bits 64 (slot_named slots among x)
      all_over = p.over ∙ ap (λ (i : ℕ). bits 64 (row_to slots among x (over_on everyone) i)) last ∙ bits_same 64 _ _ (λ v hv. over_in v ∙ sym (named_row slots among x v))

      all_joins : joins ≡ words_of to_all
      all_joins = p.joins ∙ ap (λ (i : ℕ). words_of (to_x slots among x (joins_to x) (join_on weakly everyone) i)) last
          ∙ words_same _ _ (λ u v hu hv. ap (λ (b : Bool). joins_to x u v || (eqb v x && b)) (join_in u ∙ sym (join_row slots among x weakly u)))

      -- by holder v, of those below x and x itself
      from_below : (u v : ℕ) → to_all u v ≡ ((ltb u x && S u v) || (ltb v (x + 1) && B v u))
      from_below u v = or_assoc (ltb u x && S u v) _ _ ∙ ap (λ (b : Bool). (ltb u x && S u v) || b) (below_more x v (λ w. B w u))

      others : (u v : ℕ) → u < 64 → v < 64 → u ≢ x → to_all u v ≡ joins_to (x + 1) u v
      others u v hu hv q = from_below u v ∙ ap (λ (b : Bool). (b && S u v) || (ltb v (x + 1) && B v u)) (below_same x u q)

      own : (v : ℕ) → (to_all x v || S x v) ≡ joins_to (x + 1) x v
      own v = ap (λ (b : Bool). b || S x v) (from_below x v)
          ∙ rw (le-ltb x x (omega arith), lt-ltb x (x + 1) (omega arith)) (or_comm (ltb v (x + 1) && B v x) (S x v))
        where
          or_comm : (a b : Bool) → (a || b) ≡ (b || a)
          or_comm true true = refl
          or_comm true false = refl
          or_comm false true = refl
          or_comm false false = refl

      pub joins_more : (m : ℕ) → m ≡ union_of (get_or joins x 0) strong → set joins x m ≡ words_of (joins_to (x + 1))
      unfolding union_of
      joins_more m e = ap (λ (w : List ℕ). set w x m) all_joins ∙ word_put to_all (joins_to (x + 1)) x m hx
          (e ∙ bits_same 64 _ _ (λ v hv. ap₂ (λ (a b : Bool). a || b)
          (ap (λ (w : List ℕ). has v (get_or w x 0)) all_joins ∙ words_edge to_all x v hx hv)
          (ap (has v) all_strong ∙ has_bits 64 v (S x) hv) ∙ own v))
          others

      pub over_more : (words : List ℕ) → words ≡ words_of (over_to x) → set words x over ≡ words_of (over_to (x + 1))
      over_more words e = ap (λ (w : List ℕ). set w x over) e ∙ word_put (over_to x) (over_to (x + 1)) x over hx
          (all_over ∙ bits_same 64 _ _ (λ v hv. sym (rw (lt-ltb x (x + 1) (omega arith)) refl)))
          (λ u v hu hv q. ap (λ (b : Bool). b && slot_named slots among u v) (below_same x u q))

      none_out : (has x among && any_below 8 (λ k. is_astray among (at k))) ≡ false
      none_out = by_cases (has x among && any_below 8 (λ k. is_astray among (at k)))
          (λ y. let q = and_true (has x among) _ y in any_elim 8 _ q.1 (λ i hi a.
          let w = and_true (not (eqb (at i).rights 0)) _ a in clash (clean q.0 i hi w.0) (not-true _ w.1)))
          (λ y. y)

      pub astray_more : false ≡ astray_to x → false ≡ astray_to (x + 1)
      astray_more f = ap₂ (λ (u v : Bool). u || v) f (sym none_out)
          ∙ sym (any_last x _) ∙ ap (λ (n : ℕ). any_below n (λ y. has y among && any_below 8 (λ k. is_astray among (slot_of slots (y * 8 + k))))) (sym (add-one x))

  -- all the holders ------------------------------------------------------------------------------
  pub joins_all : (x : ℕ) (joins : List ℕ) → 64 ≤ x → x ≤ 64 → joins ≡ words_of (joins_to x) → joins ≡ words_of (joins_either weakly (slot_holding slots among))
  unfolding joins_either
  joins_all x joins h l p = p ∙ words_same _ _ (λ u v hu hv. rw (lt-ltb u x (omega arith), lt-ltb v x (omega arith)) refl)

  pub over_all : (x : ℕ) (words : List ℕ) → 64 ≤ x → x ≤ 64 → words ≡ words_of (over_to x) → words ≡ words_of (slot_named slots among)
  over_all x words h l p = p ∙ words_same _ _ (λ u v hu hv. rw (lt-ltb u x (omega arith)) refl)

  pub astray_all : (x : ℕ) → 64 ≤ x → x ≤ 64 → false ≡ astray_to x → false ≡ held_astray slots among
  unfolding held_astray
  astray_all x h l p = let e : x ≡ 64 = omega arith in p ∙ ap astray_to e
