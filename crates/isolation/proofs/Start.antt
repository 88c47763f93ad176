-- The invariant at the start: where the confinement test accepts, the table and the born non-members outside the bound are
-- isolated. A clean object holds nothing over a member (row 13) nor over the bound, or it would be in the bound itself; and what
-- points at it from outside is wk alone: a member's unlisted capability is wk alone, and rd, wr or tx from a member's listed
-- capabilities or from the bound would bring it into the bound. Assumes nothing.
use mathlib.Core.Path.{◌≡◌, refl, ap}
use mathlib.Core.Bool.{Bool, true, false, not, ◌&&◌, ◌||◌, false≢true}
use mathlib.Core.List.{List}
use Prim.Native.Nat.{ℕ, ◌≤◌}
use native.Mathlib.Omega.{arith}
use lib.Dec.{eqb}
use borrow.Author.Tests.{eqb-true, ne_eqb, not-true}
use Rattle.mask.specs.Sets.{has, all_below}
use Rattle.mask.proofs.Tests.{by_cases, by_eq, clash, and_true, and_intro, or_cases}
use Rattle.mask.proofs.Below.{all_at}
use Rattle.table.specs.declared.Capability.{Capability}
use Rattle.table.specs.declared.Table.{Table}
use Rattle.table.specs.Cells.{slot_at}
use Rattle.table.proofs.SoundFacts.{Sound}
use Rattle.relation.specs.Relation.{Right, rd, wr, wk, tx, bit_at, Holding, Can, holds, self, reads, writes, sends, Influences, by_wr, by_tx, by_rd, by_wk, first, more, takes_part}
use Rattle.relation.proofs.Exact.{is_strong}
use Rattle.bounds.specs.StandIn.{stand_in, test_node, test_holding, bound_of}
use Rattle.bounds.proofs.Exact.{bound_only, bound_all}
use Rattle.bounds.proofs.Holding.{node_out}
use Rattle.confinement.proofs.TestFacts.{Facts}
use Rattle.confinement.proofs.Held.{Has, has_target, slot_has, listed_has}
use Rattle.relation.proofs.Tables.{part_low, takes_part_lem}
use Rattle.isolation.specs.Clean.{clean_at_start}
use Rattle.isolation.proofs.Invariant.{wk_alone, Isolated}

-- rights 1 to 15 hold one of the four, and wk alone is 4: all sixteen are tried
some_right : {P : Type 0} (r : ℕ) → r ≤ 15 → 1 ≤ r → ((b : Right) → has (bit_at b) r ≡ true → P) → P
unfolding all_below
some_right r h l f = or_cases (has 0 r || has 1 r || has 2 r) (has 3 r)
    (rw (ne_eqb r 0 (λ e. absurd (omega arith))) at (all_at 16 (λ k. eqb k 0 || (has 0 k || has 1 k || has 2 k || has 3 k)) refl r (omega arith)))
    (λ p. or_cases (has 0 r || has 1 r) (has 2 r) p (λ q. or_cases (has 0 r) (has 1 r) q (f rd) (f wr)) (f wk))
    (f tx)

weak_only : (r : ℕ) → r ≤ 15 → 1 ≤ r → has 0 r ≡ false → has 1 r ≡ false → has 3 r ≡ false → r ≡ 4
unfolding all_below
weak_only r h l a b c = eqb-true r 4
    (rw (a, b, c, ne_eqb r 0 (λ e. absurd (omega arith))) at
    (all_at 16 (λ k. has 0 k || (has 1 k || (has 3 k || (eqb k 0 || eqb k 4)))) refl r (omega arith)))

module _ (t : Table) (members : ℕ) (list : List Capability) (d : Sound t) (ok : Facts t members list) where
  abbrev H : Holding
  H = test_holding t members list

  abbrev X : ℕ
  X = stand_in members

  abbrev bound : ℕ → Bool
  bound y = has y (bound_of t members list)

  -- what is held, in the relation
  can : {b : Right} {x y : ℕ} → Has t members list d ok b x y → Can H b x y
  can h = holds h.holder (has_target t members list d ok h) h.held

  -- a holder of any right is influenced by what it holds it over
  back : (b : Right) (x y : ℕ) → test_node t members x ≡ true → Can H b x y → Influences H y x
  back rd x y p c = by_rd c
  back wr x y p c = by_wr (writes c (self p))
  back wk x y p c = by_wk c
  back tx x y p c = by_wr (sends c (self p))

  -- and influences that by any right but wk
  onward : (b : Right) (x y : ℕ) → test_node t members y ≡ true → is_strong b ≡ true → Can H b x y → Influences H x y
  onward rd x y p n c = by_wr (reads c (self p))
  onward wr x y p n c = by_wr c
  onward wk x y p n c = absurd (false≢true n)
  onward tx x y p n c = by_tx c

  -- clean ------------------------------------------------------------------------------------------
  record Clear (n : ℕ) : Type 0 where
    part : takes_part t n ≡ true
    out : has n members ≡ false
    safe : bound n ≡ false

  clear : (n : ℕ) → clean_at_start t members list n ≡ true → Clear n
  unfolding clean_at_start
  clear n e =
      let p = and_true (takes_part t n && not (has n members)) (not (bound n)) e in
      let q = and_true (takes_part t n) (not (has n members)) p.0 in
      record { part = q.0; out = not-true _ q.1; safe = not-true _ p.1 }

  clear_intro : (n : ℕ) → Clear n → clean_at_start t members list n ≡ true
  unfolding clean_at_start
  clear_intro n k = and_intro (takes_part t n && not (has n members)) (not (bound n))
      (and_intro (takes_part t n) (not (has n members)) k.part (ap not k.out)) (ap not k.safe)

  -- whoever is the stand-in or in the bound has wk alone over a clean object
  weak_alone : (z y r : ℕ) → Clear y → r ≤ 15 → 1 ≤ r → ((b : Right) → has (bit_at b) r ≡ true → Can H b z y) → (Influences H z y → bound y ≡ true) → r ≡ wk_alone
  weak_alone z y r k h l f g =
      let no : (b : Right) → is_strong b ≡ true → has (bit_at b) r ≡ false = λ b n. by_cases (has (bit_at b) r)
      (λ e. clash (g (onward b z y (node_out t members y k.part k.out) n (f b e))) k.safe) (λ e. e) in
      weak_only r h l (no rd refl) (no wr refl) (no tx refl)

  pub start_isolated : Isolated t (clean_at_start t members list)
  start_isolated = record {
    sound = d;
    born = λ n h. (part_low t n (clear n h).part).1;
    inside = λ n j hj h l.
        let k = clear n h in
        let c = slot_at t n j in
        let f = d.slots n j hj in
        some_right c.rights f.high l (λ b e.
        let w = slot_has t members list d ok n j b hj k.out e in
        let p = w.part in
        clear_intro c.target (record {
          part = p;
          out = w.out;
          safe = by_cases (bound c.target)
              (λ q. clash (bound_all t members list n (part_low t n k.part).0 k.out
              (more (bound_only t members list c.target (part_low t c.target p).0 q).1 (back b n c.target (node_out t members n k.part k.out) (can w)))) k.safe)
              (λ q. q);
        }));
    outside = λ n j hj h l o.
        let c = slot_at t n j in
        let k = clear c.target o in
        let f = d.slots n j hj in
        let low = (part_low t c.target k.part).0 in
        by_cases (has n members)
        (λ m. by_eq c.rights wk_alone (λ w. w) (λ w. weak_alone X c.target c.rights k f.high l
        (λ b e. can (listed_has t members list d ok b c.target (ok.covered n j b (part_low t n (takes_part_lem t d n (omega (arith, f.held l)))).0 hj m k.out w e)))
        (λ i. bound_all t members list c.target low k.out (first i))))
        (λ m. weak_alone n c.target c.rights k f.high l
        (λ b e. can (slot_has t members list d ok n j b hj m e))
        (λ i. let p = takes_part_lem t d n (omega (arith, f.held l)) in
        bound_all t members list c.target low k.out (more
        (bound_only t members list n (part_low t n p).0
        (by_cases (bound n) (λ q. q) (λ q. clash (clear_intro n (record { part = p; out = m; safe = q })) h))).1 i)));
  }
