-- What the holding of an accepted test has: of each capability that a non-member's slot or an entry has, that both
-- ends take part and that it is held. Assumes nothing.
use mathlib.Core.Path.{◌≡◌, refl}
use mathlib.Core.Bool.{true, false}
use mathlib.Core.List.{List}
use Prim.Native.Nat.{ℕ, ◌≤◌, ◌<◌}
use native.Mathlib.Omega.{arith}
use lib.Dec.{eqb}
use lib.ListN.{length}
use borrow.Author.Tests.{eqb-true, eq-eqb}
use Rattle.mask.specs.Sets.{has}
use Rattle.mask.proofs.Tests.{by_cases, by_eq, clash, and_true, and_intro}
use Rattle.mask.proofs.Below.{any_intro}
use Rattle.mask.proofs.Bits.{has_zero}
use Rattle.table.specs.declared.Capability.{Capability}
use Rattle.table.specs.declared.Table.{Table}
use Rattle.table.specs.Cells.{slot_at, is_empty}
use Rattle.table.proofs.SoundFacts.{Sound}
use Rattle.relation.specs.Relation.{Right, bit_at, takes_part, holds_in}
use Rattle.bounds.specs.StandIn.{entry_at, listed, stand_in, test_node, test_held}
use Rattle.bounds.proofs.Holding.{node_out, node_x}
use Rattle.confinement.proofs.TestFacts.{Facts}
use Rattle.relation.proofs.Tables.{part_low, takes_part_lem}

filled : (c : Capability) → 1 ≤ c.rights → is_empty c ≡ false
filled c l = by_cases (is_empty c) (λ e. absurd (omega (arith, eqb-true c.rights 0 (and_true (eqb c.target 0) (eqb c.rights 0) e).1))) (λ e. e)

-- a set with a number in it is not empty
some : (k r : ℕ) → has k r ≡ true → 1 ≤ r
some k r e = by_eq r 0 (λ q. clash (rw q at e) (has_zero k)) (λ q. omega arith)

module _ (t : Table) (members : ℕ) (list : List Capability) (d : Sound t) (ok : Facts t members list) where
  abbrev X : ℕ
  X = stand_in members

  -- x holds the right over y, which is no member, and both take part
  pub record Has (b : Right) (x y : ℕ) : Type 0 where
    pub holder : test_node t members x ≡ true
    pub part : takes_part t y ≡ true
    pub out : has y members ≡ false
    pub held : test_held t members list b x y ≡ true

  pub has_target : {b : Right} {x y : ℕ} → Has b x y → test_node t members y ≡ true
  has_target {b} {x} {y} h = node_out t members y h.part h.out

  -- by a slot of a non-member
  pub slot_has : (n j : ℕ) (b : Right) → j < 8 → has n members ≡ false → has (bit_at b) (slot_at t n j).rights ≡ true → Has b n (slot_at t n j).target
  unfolding test_held holds_in
  slot_has n j b hj o e =
      let l = some (bit_at b) (slot_at t n j).rights e in
      let f = d.slots n j hj in
      let p = takes_part_lem t d n (omega (arith, f.held l)) in
      let u = ok.unheld n j (part_low t n p).0 hj o (filled (slot_at t n j) l) in
      record {
        holder = node_out t members n p o;
        part = takes_part_lem t d _ (f.named l);
        out = u;
        held = rw (u, o, test_held) (any_intro 8 _ j hj (and_intro _ _ (eq-eqb (slot_at t n j).target _ refl) e));
      }

  -- by what is listed
  pub listed_has : (b : Right) (y : ℕ) → listed list b y ≡ true → Has b X y
  unfolding test_held
  listed_has b y e =
      let p = ok.named b y e in
      record {
        holder = node_x t members ok.low;
        part = p.0;
        out = p.1;
        held = rw (p.1, ok.lowest, test_held) (and_intro (eqb X X) (listed list b y) (eq-eqb X X refl) e);
      }

  pub entry_has : (k : ℕ) (b : Right) → k < length list → has (bit_at b) (entry_at list k).rights ≡ true → Has b X (entry_at list k).target
  unfolding listed
  entry_has k b h e = listed_has b _ (any_intro (length list) _ k h (and_intro _ _ (eq-eqb (entry_at list k).target _ refl) e))
