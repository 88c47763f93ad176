-- Entities that Store links join influence each other in the table that they become. A Store capability becomes rd and wr together, so by the rules
-- its holder has every right over its target, and the target every right over its holder; having all rights over each other goes on from one to the
-- next. Assumes nothing.
use mathlib.Core.Path.{◌≡◌, ◌∙◌, ap, subst}
use mathlib.Core.Logic.{◌≢◌}
use mathlib.Core.Bool.{true}
use mathlib.Core.List.{List, []}
use Prim.Native.Nat.{ℕ, ◌+◌, ◌*◌, ◌/◌, ◌<◌}
use native.Mathlib.Omega.{arith}
use lib.Dec.{ltb}
use lib.ListN.{length, get_or-eq_default}
use borrow.Author.Tests.{ltb-true, ltb-false}
use Rattle.mask.specs.Sets.{has}
use Rattle.mask.proofs.Tests.{by_cases, clash, or_right}
use Rattle.mask.proofs.Bits.{has_zero}
use Rattle.table.specs.declared.Capability.{Capability}
use Rattle.table.specs.declared.Record.{Record}
use Rattle.table.specs.Cells.{slot_at}
use Rattle.relation.specs.Relation.{Right, rd, wr, bit_at, Holding, Can, holds, self, reads, writes, by_wr, takes_part, holds_in, table_holding}
use Rattle.relation.proofs.Tables.{takes_part_lem, slot_held_lem}
use Rattle.take_grant.specs.Entities.{Entity, Read, Write, includes, mapped, cap_at}
use Rattle.take_grant.specs.Imports.{table_of}
use Rattle.take_grant.specs.Stores as S
use Rattle.take_grant.specs.Stores.{StoreDirect, StoreConnected, SharesCaps, Joined}
use Rattle.take_grant.specs.Exactness.{EachOther}
use Rattle.take_grant.proofs.Rights.{rows_of_lem}
use Rattle.take_grant.proofs.Legal.{Legal, slot_rights, slot_target, at_entity, slot_at_lem, alive_at_lem, legal_facts}

-- every right, each over the other
record All (h : Holding) (x y : ℕ) : Type 0 where
  over : (b : Right) → Can h b x y
  under : (b : Right) → Can h b y x

all_back : {h : Holding} {x y : ℕ} → All h x y → All h y x
all_back a = record { over = a.under; under = a.over }

all_on : {h : Holding} {x y z : ℕ} → All h x y → All h y z → All h x z
all_on p q = record { over = λ b. reads (p.over rd) (q.over b); under = λ b. reads (q.under rd) (p.under b) }

module _ (es : List Entity) (l : Legal es) where
  abbrev H : Holding
  H = table_holding (table_of es)

  part : (x : ℕ) → x < length es → takes_part (table_of es) x ≡ true
  part x h = takes_part_lem (table_of es) (legal_facts es l) x (omega (arith, ap (λ (r : Record). r.status) (alive_at_lem es l x h)))

  all_self : (x : ℕ) → x < length es → All H x x
  all_self x h = record { over = λ b. self {b = b} (part x h); under = λ b. self {b = b} (part x h) }

  -- a right that a capability becomes is held
  held_right : (x y k : ℕ) (b : Right) → k < 8 → (cap_at es x k).entity ≡ y → has (bit_at b) (mapped (cap_at es x k).rights) ≡ true → holds_in (table_of es) b x y ≡ true
  held_right x y k b h e g =
      let c = cap_at es x k in
      let filled : mapped c.rights ≢ 0 = λ z. clash g (ap (has (bit_at b)) z ∙ has_zero (bit_at b)) in
      let s = slot_at_lem es l x k h in
      let a : (x * 8 + k) / 8 ≡ x = omega arith in
      let t : (slot_at (table_of es) x k).target ≡ y = ap (λ (d : Capability). d.target) s ∙ slot_target c filled ∙ e in
      let r : has (bit_at b) (slot_at (table_of es) x k).rights ≡ true = ap (λ (d : Capability). has (bit_at b) d.rights) s ∙ ap (has (bit_at b)) (slot_rights c) ∙ g in
      subst (λ (n : ℕ). holds_in (table_of es) b n y ≡ true) a (subst (λ (m : ℕ). holds_in (table_of es) b ((x * 8 + k) / 8) m ≡ true) t (slot_held_lem (table_of es) b (x * 8 + k) r))

  -- the two ends of a direct Store capability
  record Ends (x y : ℕ) : Type 0 where
    from : x < length es
    to : y < length es

  module _ (x y : ℕ) where
    ends : StoreDirect es x y → Ends x y
    ends (S.holds k h i e) = by_cases (ltb x (length es))
        (λ p. let p' = ltb-true x (length es) p in record { from = p'; to = subst (λ (n : ℕ). n < length es) e ((at_entity es l x p').caps k h).target })
        (λ p. let z = ap length (get_or-eq_default es [] {n = x} (ltb-false x _ p)) in absurd (omega arith))

    all_direct : StoreDirect es x y → All H x y
    all_direct (S.holds k h i e) =
        let d = ends (S.holds k h i e) in
        let a = part x d.from in
        let b = part y d.to in
        let f = (at_entity es l x d.from).few in
        let w = rows_of_lem (cap_at es x k).rights in
        let r = held_right x y k rd (omega arith) e (w.rd ∙ or_right (includes Read (cap_at es x k).rights) _ i) in
        let s = held_right x y k wr (omega arith) e (w.wr ∙ or_right (includes Write (cap_at es x k).rights) _ i) in
        record { over = λ c. reads (holds {b = rd} a b r) (self {b = c} b); under = λ c. writes (holds {b = wr} a b s) (self {b = c} a) }

  -- of two that are joined both are entities or neither, and entities have every right over each other
  record Both (x y : ℕ) : Type 0 where
    forth : x < length es → (y < length es) × All H x y
    back : y < length es → (x < length es) × All H x y

  both : {x y : ℕ} → Joined es x y → Both x y
  both {x} {y} (S.direct d) = record { forth = λ h. ((ends x y d).to, all_direct x y d); back = λ h. ((ends x y d).from, all_direct x y d) }
  both {x} S.itself = record { forth = λ h. (h, all_self x h); back = λ h. (h, all_self x h) }
  both (S.back j) = let b = both j in record {
    forth = λ h. ((b.back h).0, all_back (b.back h).1);
    back = λ h. ((b.forth h).0, all_back (b.forth h).1);
  }
  both (S.onward j k) = let a = both j in let b = both k in record {
    forth = λ h. let p = a.forth h in let q = b.forth p.0 in (q.0, all_on p.1 q.1);
    back = λ h. let q = b.back h in let p = a.back q.0 in (p.0, all_on p.1 q.1);
  }

  pub joined_each : {x y : ℕ} → x < length es → Joined es x y → EachOther (table_of es) x y
  joined_each h j = let a = ((both j).forth h).1 in record { there = by_wr (a.over wr); back = by_wr (a.under wr) }

-- 001's two relations are within it
pub connected_joined : {es : List Entity} {x y : ℕ} → StoreConnected es x y → Joined es x y
connected_joined S.here = S.itself
connected_joined (S.step d c) = S.onward (S.direct d) (connected_joined c)

pub shares_joined : {es : List Entity} {x y : ℕ} → SharesCaps es x y → Joined es x y
shares_joined (S.common e p q) = S.onward (connected_joined p) (S.back (connected_joined q))
