-- The slots of one holder, gone through one by one: after all eight, the numbers noted are those over which it holds the rights asked
-- for. Assumes nothing.
use mathlib.Core.Path.{◌≡◌, refl, sym, ◌∙◌, ap, ap₂}
use mathlib.Core.Bool.{Bool, true, false, not, ◌&&◌, ◌||◌}
use mathlib.Core.List.{List}
use Prim.Native.Nat.{ℕ, zero, suc, ◌+◌, ◌*◌, ◌<◌}
use native.Mathlib.Numerals.{add-one}
use native.Mathlib.Omega.{arith}
use lib.Dec.{eqb}
use borrow.Author.Tests.{eqb-true, eq-eqb}
use Rattle.mask.specs.Sets.{has, bits, any_below, including}
use Rattle.mask.proofs.Tests.{bool_ext, and_true, and_intro, and_false, or_false}
use Rattle.mask.proofs.Below.{any_intro, any_elim, any_last, any_ext}
use Rattle.mask.proofs.Bits.{has_bits, bits_same, as_bits, has_zero}
use Rattle.table.specs.declared.Capability.{Capability}
use Rattle.table.specs.Cells.{slot_of}
use Rattle.relation.specs.Relation.{Right, rd, wr, wk, tx, bit_at}
use Rattle.relation.specs.Closure.{holds_strong}
use Rattle.links.specs.Links.{words_of, slot_held, slot_holding}
use Rattle.links.specs.Helpers.{edge_if}
use Rattle.links.proofs.Edges.{words_same}
use Rattle.links.proofs.Joins.{edge_more}
use Rattle.held.specs.Helpers.{slot_named, include_if, strong_on, weak_on, over_on, join_on}

-- booleans ---------------------------------------------------------------------------------
any_or : (n : ℕ) (p q : ℕ → Bool) → any_below n (λ i. p i || q i) ≡ (any_below n p || any_below n q)
unfolding any_below
any_or zero p q = refl
any_or (suc n) p q = any_last n _ ∙ ap (λ (b : Bool). b || (p n || q n)) (any_or n p q) ∙ four (any_below n p) (any_below n q) (p n) (q n)
    ∙ ap₂ (λ (a b : Bool). a || b) (sym (any_last n p)) (sym (any_last n q))
  where
    four : (a b c d : Bool) → ((a || b) || (c || d)) ≡ ((a || c) || (b || d))
    four true b c d = refl
    four false true true d = refl
    four false true false d = refl
    four false false c d = refl

any_and : (n : ℕ) (w : Bool) (p : ℕ → Bool) → any_below n (λ i. w && p i) ≡ (w && any_below n p)
unfolding any_below
any_and zero true p = refl
any_and zero false p = refl
any_and (suc n) w p = any_last n _ ∙ ap (λ (b : Bool). b || (w && p n)) (any_and n w p) ∙ both w (any_below n p) (p n) ∙ ap (λ (b : Bool). w && b) (sym (any_last n p))
  where
    both : (w a b : Bool) → ((w && a) || (w && b)) ≡ (w && (a || b))
    both true a b = refl
    both false a b = refl

and_or : (a b c : Bool) → ((a || b) && c) ≡ ((a && c) || (b && c))
and_or true true true = refl
and_or true true false = refl
and_or true false true = refl
and_or true false false = refl
and_or false b c = refl

and_assoc : (a b c : Bool) → ((a && b) && c) ≡ (a && (b && c))
and_assoc true b c = refl
and_assoc false b c = refl

-- a holder's numbers ------------------------------------------------------------------------
-- what counts of a capability, as a test
abbrev Counts : Type 0
Counts = Capability → Bool

module _ (slots : List Capability) (among x : ℕ) where
  abbrev at : ℕ → Capability
  at i = slot_of slots (x * 8 + i)

  -- the targets of the first j slots that count
  abbrev pub row_to : Counts → ℕ → ℕ → Bool
  row_to q j y = has x among && any_below j (λ i. q (at i) && eqb y (at i).target)

  row_none : (q : Counts) (y : ℕ) → row_to q 0 y ≡ false
  unfolding any_below
  row_none q y = and_false (has x among)

  row_next : (q : Counts) (j y : ℕ) → has x among ≡ true → row_to q (j + 1) y ≡ (row_to q j y || (q (at j) && eqb y (at j).target))
  row_next q j y e = rw add-one (rw e (any_last j (λ i. q (at i) && eqb y (at i).target)))

  -- as sets ------------------------------------------------------------------------------------
  pub set_none : (q : Counts) → 0 ≡ bits 64 (row_to q 0)
  set_none q = as_bits 64 0 _ (omega arith) (λ y h. has_zero y ∙ sym (row_none q y))

  pub set_out : (q : Counts) (j : ℕ) → has x among ≡ false → 0 ≡ bits 64 (row_to q j)
  set_out q j e = as_bits 64 0 _ (omega arith) (λ y h. has_zero y ∙ sym (rw e refl))

  pub set_more : (q : Counts) (j s r : ℕ) → has x among ≡ true → s ≡ bits 64 (row_to q j) → r ≡ include_if (q (at j)) (at j).target s → r ≡ bits 64 (row_to q (j + 1))
  unfolding include_if including
  set_more q j s r e p n = n ∙ ap (include_if (q (at j)) (at j).target) p ∙ go (q (at j)) refl
    where
      go : (b : Bool) → q (at j) ≡ b → include_if b (at j).target (bits 64 (row_to q j)) ≡ bits 64 (row_to q (j + 1))
      go true f = bits_same 64 _ _ (λ y h. ap (λ (t : Bool). t || eqb y (at j).target) (has_bits 64 y (row_to q j) h)
          ∙ ap (λ (t : Bool). row_to q j y || (t && eqb y (at j).target)) (sym f) ∙ sym (row_next q j y e))
      go false f = bits_same 64 _ _ (λ y h. sym (or_false (row_to q j y)) ∙ ap (λ (t : Bool). row_to q j y || (t && eqb y (at j).target)) (sym f) ∙ sym (row_next q j y e))

  pub set_skip : (q : Counts) (j s : ℕ) → has x among ≡ true → q (at j) ≡ false → s ≡ bits 64 (row_to q j) → s ≡ bits 64 (row_to q (j + 1))
  unfolding include_if
  set_skip q j s e f p = set_more q j s s e p (rw (f, include_if) refl)

  -- as edges to x ------------------------------------------------------------------------------
  module _ (edge : ℕ → ℕ → Bool) where
    abbrev pub to_x : Counts → ℕ → ℕ → ℕ → Bool
    to_x q j u v = edge u v || (eqb v x && row_to q j u)

    pub edge_none : (q : Counts) (words : List ℕ) → words ≡ words_of edge → words ≡ words_of (to_x q 0)
    edge_none q words p = p ∙ words_same _ _ (λ u v hu hv. sym (ap (λ (b : Bool). edge u v || (eqb v x && b)) (row_none q u)
        ∙ ap (λ (b : Bool). edge u v || b) (and_false (eqb v x)) ∙ or_false (edge u v)))

    pub edge_out : (q : Counts) (j : ℕ) (words : List ℕ) → has x among ≡ false → words ≡ words_of edge → words ≡ words_of (to_x q j)
    edge_out q j words e p = p ∙ words_same _ _ (λ u v hu hv. sym (rw e (ap (λ (b : Bool). edge u v || b) (and_false (eqb v x)) ∙ or_false (edge u v))))

    pub edge_next : (q : Counts) (j : ℕ) (words r : List ℕ) → has x among ≡ true → x < 64 → (q (at j) ≡ true → (at j).target < 64)
        → words ≡ words_of (to_x q j) → r ≡ edge_if (q (at j)) words (at j).target x → r ≡ words_of (to_x q (j + 1))
    edge_next q j words r e hx low p n = n ∙ ap (λ (w : List ℕ). edge_if (q (at j)) w (at j).target x) p
        ∙ edge_more (to_x q j) (q (at j)) (at j).target x (λ f. (low f, hx))
        ∙ words_same _ _ (λ u v hu hv. shape (edge u v) (eqb v x) (row_to q j u) (q (at j)) (eqb u (at j).target)
        ∙ ap (λ (b : Bool). edge u v || (eqb v x && b)) (sym (row_next q j u e)))
      where
        shape : (e k r q a : Bool) → ((e || (k && r)) || (q && (a && k))) ≡ (e || (k && (r || (q && a))))
        shape true k r q a = refl
        shape false true true q a = refl
        shape false true false true true = refl
        shape false true false true false = refl
        shape false true false false a = refl
        shape false false r true true = refl
        shape false false r true false = refl
        shape false false r false a = refl

    pub edge_skip : (q : Counts) (j : ℕ) (words : List ℕ) → has x among ≡ true → q (at j) ≡ false → words ≡ words_of (to_x q j) → words ≡ words_of (to_x q (j + 1))
    edge_skip q j words e f p = p ∙ words_same _ _ (λ u v hu hv. ap (λ (b : Bool). edge u v || (eqb v x && b))
        (sym (or_false (row_to q j u)) ∙ ap (λ (t : Bool). row_to q j u || (t && eqb u (at j).target)) (sym f) ∙ sym (row_next q j u e)))

  -- all eight ------------------------------------------------------------------------------------
  -- the capability counts by a test of its rights
  abbrev test_on : (ℕ → Bool) → Counts
  test_on p c = has c.target among && p c.rights

  test_row : (p : ℕ → Bool) (y : ℕ) → (has x among && (has y among && any_below 8 (λ j. eqb (at j).target y && p (at j).rights))) ≡ row_to (test_on p) 8 y
  test_row p y = bool_ext _ _
      (λ e.
      let h = and_true (has x among) _ e in
      let q = and_true (has y among) _ h.1 in
      any_elim 8 _ q.1 (λ j l z.
      let w = and_true (eqb (at j).target y) (p (at j).rights) z in
      let t = eqb-true (at j).target y w.0 in
      and_intro (has x among) _ h.0 (any_intro 8 _ j l
      (and_intro (test_on p (at j)) _ (and_intro (has (at j).target among) _ (ap (λ (i : ℕ). has i among) t ∙ q.0) w.1) (eq-eqb y (at j).target (sym t))))))
      (λ e.
      let h = and_true (has x among) _ e in
      any_elim 8 _ h.1 (λ j l z.
      let w = and_true (test_on p (at j)) _ z in
      let t = eqb-true y (at j).target w.1 in
      let c = and_true (has (at j).target among) _ w.0 in
      and_intro (has x among) _ h.0 (and_intro (has y among) _ (ap (λ (i : ℕ). has i among) t ∙ c.0)
      (any_intro 8 _ j l (and_intro (eqb (at j).target y) _ (eq-eqb (at j).target y (sym t)) c.1)))))

  held_row : (b : Right) (y : ℕ) → slot_held slots among b x y ≡ row_to (test_on (has (bit_at b))) 8 y
  unfolding slot_held
  held_row b y = test_row (has (bit_at b)) y

  pub named_row : (y : ℕ) → slot_named slots among x y ≡ row_to (over_on among) 8 y
  unfolding slot_named
  named_row y = test_row (λ r. not (eqb r 0)) y

  row_or : (p q : Counts) (y : ℕ) → (row_to p 8 y || row_to q 8 y) ≡ row_to (λ c. p c || q c) 8 y
  row_or p q y = sym (ap (λ (b : Bool). has x among && b) (any_ext 8 _ _ (λ i h. and_or (p (at i)) (q (at i)) (eqb y (at i).target)) ∙ any_or 8 _ _)
      ∙ spread_and (has x among) _ _)
    where
      spread_and : (w a b : Bool) → (w && (a || b)) ≡ ((w && a) || (w && b))
      spread_and true a b = refl
      spread_and false a b = refl

  row_and : (w : Bool) (q : Counts) (y : ℕ) → (w && row_to q 8 y) ≡ row_to (λ c. w && q c) 8 y
  row_and w q y = sym (ap (λ (b : Bool). has x among && b) (any_ext 8 _ _ (λ i h. and_assoc w (q (at i)) (eqb y (at i).target)) ∙ any_and 8 w _)
      ∙ swap (has x among) w _)
    where
      swap : (a b c : Bool) → (a && (b && c)) ≡ (b && (a && c))
      swap true b c = refl
      swap false true c = refl
      swap false false c = refl

  pub strong_row : (y : ℕ) → holds_strong (slot_holding slots among) x y ≡ row_to (strong_on among) 8 y
  unfolding holds_strong
  strong_row y = ap₂ (λ (a b : Bool). a || b) (ap₂ (λ (a b : Bool). a || b) (held_row rd y) (held_row wr y) ∙ row_or (test_on (has (bit_at rd))) (test_on (has (bit_at wr))) y) (held_row tx y)
      ∙ row_or (λ c. test_on (has (bit_at rd)) c || test_on (has (bit_at wr)) c) (test_on (has (bit_at tx))) y
      ∙ ap (λ (b : Bool). has x among && b) (any_ext 8 _ _ (λ i h. ap (λ (b : Bool). b && eqb y (at i).target)
      (once (has (at i).target among) (has 0 (at i).rights) (has 1 (at i).rights) (has 3 (at i).rights))))
    where
      once : (m a b c : Bool) → ((m && a) || (m && b) || (m && c)) ≡ (m && (a || b || c))
      once true a b c = refl
      once false a b c = refl

  pub weak_row : (y : ℕ) → slot_held slots among wk x y ≡ row_to (weak_on among) 8 y
  weak_row y = held_row wk y

  pub join_row : (weakly : Bool) (y : ℕ) → (holds_strong (slot_holding slots among) x y || (weakly && slot_held slots among wk x y)) ≡ row_to (join_on weakly among) 8 y
  join_row weakly y = ap₂ (λ (a b : Bool). a || b) (strong_row y) (ap (λ (b : Bool). weakly && b) (weak_row y) ∙ row_and weakly (weak_on among) y)
      ∙ row_or (strong_on among) (λ c. weakly && weak_on among c) y
