-- What an accepted test says of the table, row by row, as facts about every number. The two-run theorem starts from these.
-- Assumes nothing.
use mathlib.Core.Path.{◌≡◌, refl, ap}
use mathlib.Core.Bool.{Bool, true, false, not, ◌&&◌, ◌||◌, false≢true}
use mathlib.Core.List.{List}
use mathlib.Core.Logic.{◌≢◌}
use Prim.Native.Nat.{ℕ, suc, ◌≤◌, ◌<◌}
use native.Mathlib.Omega.{arith}
use lib.Dec.{ltb, eqb}
use lib.ListN.{length}
use borrow.Author.Tests.{ltb-false, eqb-true, ne_eqb, not-false}
use Rattle.mask.specs.Sets.{has}
use Rattle.mask.proofs.Tests.{and_true, or_none, imply_use}
use Rattle.mask.proofs.Below.{any_none, any_elim}
use Rattle.table.specs.declared.Capability.{Capability}
use Rattle.table.specs.declared.Table.{Table}
use Rattle.table.specs.Cells.{record_at, slot_at, is_alive, is_empty}
use Rattle.table.specs.Soundness.{sound}
use Rattle.relation.specs.Relation.{Right, rd, wr, wk, tx, bit_at, takes_part}
use Rattle.confinement.specs.declared.TestRefusal.{TestRefusal}
use Rattle.confinement.specs.declared.TestRefusal.TheVariants.{TableUnsound, MembersInvalid, ListInvalid, RightUnlisted, MemberHeld}
use Rattle.bounds.specs.StandIn.{entry_at, listed, lowest_from, stand_in}
use Rattle.bounds.proofs.Passing.{lowest_from_lem}
use Rattle.confinement.specs.Refusals.{Verdict, Accepted, refusal_number, verdict_number, refuse, bad_members, bad_entry, bad_list, right_listed, all_listed, passes, bad_held, member_held, verdict_of}

pub record Facts (t : Table) (members : ℕ) (list : List Capability) : Type 0 where
  pub fine : sound t ≡ true
  -- row 10
  pub low : stand_in members < 64
  pub lowest : has (stand_in members) members ≡ true
  pub alive : (n : ℕ) → n < 64 → has n members ≡ true → is_alive (record_at t n) ≡ true
  -- row 11
  pub short : length list ≤ 8
  pub named : (b : Right) (y : ℕ) → listed list b y ≡ true → (takes_part t y ≡ true) × (has y members ≡ false)
  -- row 12: rights other than exactly wk are listed
  pub covered : (n j : ℕ) (b : Right) → n < 64 → j < 8 → has n members ≡ true → has (slot_at t n j).target members ≡ false → (slot_at t n j).rights ≢ 4
      → has (bit_at b) (slot_at t n j).rights ≡ true → listed list b (slot_at t n j).target ≡ true
  -- row 13
  pub unheld : (n j : ℕ) → n < 64 → j < 8 → has n members ≡ false → is_empty (slot_at t n j) ≡ false → has (slot_at t n j).target members ≡ false

-- a cause that did not turn the test down
passed : (cause : Bool) (why : TestRefusal) (k : ℕ) (rest : Verdict) → refusal_number why ≡ suc k → verdict_number (refuse cause why rest) ≡ 0
    → (cause ≡ false) × (verdict_number rest ≡ 0)
passed true why k rest p e = absurd (omega arith)
passed false why k rest p e = (refl, e)

-- the lowest number that passes a test passes it, if some number does
lowest_is : (p : ℕ → Bool) (k : ℕ) → k < 64 → p k ≡ true → (lowest_from 64 0 p < 64) × (p (lowest_from 64 0 p) ≡ true)
lowest_is p k h e = let l = lowest_from_lem p 64 0 k (omega arith) (omega arith) e in (omega (arith, l.least), l.passes)

pub listed_each : (list : List Capability) (c : Capability) (b : Right) → all_listed list c ≡ true → has (bit_at b) c.rights ≡ true → listed list b c.target ≡ true
unfolding all_listed
listed_each list c b e h = imply_use (has (bit_at b) c.rights) (listed list b c.target) (at b) h
  where
    p : ((right_listed list c rd && right_listed list c wr && right_listed list c wk) ≡ true) × (right_listed list c tx ≡ true)
    p = and_true _ (right_listed list c tx) e

    q : ((right_listed list c rd && right_listed list c wr) ≡ true) × (right_listed list c wk ≡ true)
    q = and_true _ (right_listed list c wk) p.0

    r : (right_listed list c rd ≡ true) × (right_listed list c wr ≡ true)
    r = and_true (right_listed list c rd) (right_listed list c wr) q.0

    at : (d : Right) → right_listed list c d ≡ true
    at rd = r.0
    at wr = r.1
    at wk = q.1
    at tx = p.1

-- what passes row 12 and is not exactly wk
pub passed_listed : (list : List Capability) (c : Capability) → passes list c ≡ true → c.rights ≢ 4 → all_listed list c ≡ true
unfolding passes
passed_listed list c e q = rw (ne_eqb c.rights 4 q) at e

-- a test that answers no twice over
none_and : (a b : Bool) → (a && b) ≡ false → a ≡ true → b ≡ false
none_and true b e h = e
none_and false b e h = absurd (false≢true h)

module _ (t : Table) (members : ℕ) (list : List Capability) where
  pub members_facts : bad_members t members ≡ false
      → ((stand_in members < 64) × (has (stand_in members) members ≡ true)) × ((n : ℕ) → n < 64 → has n members ≡ true → is_alive (record_at t n) ≡ true)
  unfolding bad_members stand_in
  members_facts e =
      let p = or_none _ _ e in (
        any_elim 64 _ (not-false _ p.0) (λ n h f. lowest_is (λ k. has k members) n h f),
        λ n h f. not-false _ (none_and (has n members) _ (any_none 64 _ p.1 n h) f),
      )

  entry_facts : (e : Capability) → bad_entry t members e ≡ false → (takes_part t e.target ≡ true) × (has e.target members ≡ false)
  unfolding bad_entry
  entry_facts e q =
      let p = or_none (eqb e.rights 0 || ltb 15 e.rights || not (takes_part t e.target)) (has e.target members) q in
      let r = or_none (eqb e.rights 0 || ltb 15 e.rights) (not (takes_part t e.target)) p.0 in
      (not-false _ r.1, p.1)

  list_facts : bad_list t members list ≡ false
      → (length list ≤ 8) × ((b : Right) (y : ℕ) → listed list b y ≡ true → (takes_part t y ≡ true) × (has y members ≡ false))
  unfolding bad_list listed
  list_facts e =
      let p = or_none _ _ e in (
        ltb-false 8 (length list) p.0,
        λ b y f. any_elim (length list) _ f (λ k h g.
            let q = eqb-true (entry_at list k).target y (and_true (eqb (entry_at list k).target y) _ g).0 in
            rw q at (entry_facts (entry_at list k) (any_none (length list) _ p.1 k h))),
      )

  -- no row turned the test down
  pub record NoRow : Type 0 where
    pub row1 : not (sound t) ≡ false
    pub row10 : bad_members t members ≡ false
    pub row11 : bad_list t members list ≡ false
    pub row12 : bad_held t members list ≡ false
    pub row13 : member_held t members ≡ false

  pub no_row : verdict_number (verdict_of t members list) ≡ 0 → NoRow
  unfolding verdict_of
  no_row e =
      let r1 = passed (not (sound t)) TableUnsound 0 _ refl e in
      let r10 = passed (bad_members t members) MembersInvalid 9 _ refl r1.1 in
      let r11 = passed (bad_list t members list) ListInvalid 10 _ refl r10.1 in
      let r12 = passed (bad_held t members list) RightUnlisted 11 _ refl r11.1 in
      let r13 = passed (member_held t members) MemberHeld 12 Accepted refl r12.1 in
      record { row1 = r1.0; row10 = r10.0; row11 = r11.0; row12 = r12.0; row13 = r13.0 }

  -- and what passes row 12, at every slot
  pub slot_passes : bad_held t members list ≡ false → (n j : ℕ) → n < 64 → j < 8 → has n members ≡ true → has (slot_at t n j).target members ≡ false
      → passes list (slot_at t n j) ≡ true
  unfolding bad_held
  slot_passes e n j hn hj i o =
      not-false _ (none_and (not (has (slot_at t n j).target members)) _ (any_none 8 _ (none_and (has n members) _ (any_none 64 _ e n hn) i) j hj) (ap not o))

  pub accepted_facts : verdict_number (verdict_of t members list) ≡ 0 → Facts t members list
  unfolding member_held
  accepted_facts e =
      let r = no_row e in
      let m = members_facts r.row10 in
      let l = list_facts r.row11 in
      record {
        fine = not-false _ r.row1;
        low = m.0.0;
        lowest = m.0.1;
        alive = m.1;
        short = l.0;
        named = l.1;
        covered = λ n j b hn hj i o q h.
            listed_each list (slot_at t n j) b (passed_listed list (slot_at t n j) (slot_passes r.row12 n j hn hj i o) q) h;
        unheld = λ n j hn hj o f.
            none_and (not (is_empty (slot_at t n j))) _ (any_none 8 _ (none_and (not (has n members)) _ (any_none 64 _ r.row13 n hn) (ap not o)) j hj) (ap not f);
      }
