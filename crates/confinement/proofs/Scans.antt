-- What the code's loops find is what rows 10 to 13 say: a law for each way out of a loop. Assumes nothing.
use mathlib.Core.Path.{◌≡◌, refl, sym, ◌∙◌, ap, ap₂}
use mathlib.Core.Bool.{Bool, true, false, not, ◌&&◌, ◌||◌}
use mathlib.Core.List.{List}
use Prim.Native.Nat.{ℕ, zero, suc, ◌+◌, ◌*◌, ◌/◌, ◌%◌, ◌^◌, ◌≤◌, ◌<◌}
use native.Mathlib.Omega.{arith}
use native.Mathlib.Numerals.{add-one}
use lib.Dec.{ltb, eqb}
use lib.ListN.{length, get_or}
use borrow.Author.Tests.{ltb-false, lt-ltb, le-ltb, eq-eqb, ne_eqb, not-true}
use Rattle.mask.specs.Sets.{has, all_below, any_below, union_of}
use Rattle.mask.proofs.Tests.{by_cases, clash, bool_ext, and_true, and_intro, or_none, or_right, or_false}
use Rattle.mask.proofs.Below.{all_at, all_intro, any_intro, any_elim, any_ext, any_last}
use Rattle.mask.proofs.Bits.{is_empty_lem, has_zero, has_union}
use Rattle.table.specs.declared.Capability.{Capability}
use Rattle.table.specs.declared.Table.{Table}
use Rattle.table.specs.Cells.{empty_slot, record_at, slot_at, is_alive, is_empty}
use Rattle.table.proofs.Lists.{length_tabulate, get_d_tabulate}
use Rattle.relation.specs.Relation.{Right, rd, wr, wk, tx, bit_at, takes_part}
use Rattle.access.specs.Answers.{born_outside}
use Rattle.relation.proofs.Saturation.{bit_high}
use Rattle.access.proofs.TableWords.{outside_facts, outside_intro}
use Rattle.bounds.specs.declared.EntryList.{EntryList}
use Rattle.bounds.specs.StandIn.{entries_of, entry_at, listed}
use Rattle.bounds.proofs.Weak.{lists}
use Rattle.confinement.specs.Refusals.{bad_members, bad_entry, bad_list, right_listed, all_listed, passes, bad_held, member_held}
use Rattle.confinement.specs.Helpers.{entry_refused, list_refused, listed_to, listed_rights, slot_unlisted, slot_names_member}

-- a search that found, and one that did not --------------------------------------------
found : (n : ℕ) (p : ℕ → Bool) (i : ℕ) → i < n → p i ≡ true → true ≡ any_below n p
found n p i h e = sym (any_intro n p i h e)

pub missing : (n : ℕ) (p : ℕ → Bool) → ((k : ℕ) → k < n → p k ≡ false) → any_below n p ≡ false
missing n p f = by_cases (any_below n p) (λ e. any_elim n p e (λ i h g. clash g (f i h))) (λ e. e)

-- row 10 ------------------------------------------------------------------------------
pub member_dead : (t : Table) (members n : ℕ) → n < 64 → (has n members && not (is_alive (record_at t n))) ≡ true → true ≡ bad_members t members
unfolding bad_members
member_dead t members n h e = sym (or_right (not (any_below 64 (λ k. has k members))) _ (any_intro 64 (λ k. has k members && not (is_alive (record_at t k))) n h e))

pub members_alive : (t : Table) (members : ℕ) → members < 2 ^ 64 → ((k : ℕ) → k < 64 → (has k members && not (is_alive (record_at t k))) ≡ false) → eqb members 0 ≡ bad_members t members
unfolding bad_members
members_alive t members l f =
    is_empty_lem members l ∙ bool_ext (all_below 64 (λ k. not (has k members))) (not (any_below 64 (λ n. has n members)))
    (λ e. ap not (missing 64 _ (λ k h. not-true _ (all_at 64 _ e k h))))
    (λ e. all_intro 64 _ (λ k h. by_cases (has k members) (λ g. clash (any_intro 64 _ k h g) (not-true _ e)) (λ g. ap not g)))
    ∙ sym (ap (λ (b : Bool). not (any_below 64 (λ n. has n members)) || b) (missing 64 _ f) ∙ or_false _)

-- row 11 ------------------------------------------------------------------------------
entries_length : (l : EntryList) → length (entries_of l) ≡ l.count
unfolding entries_of
entries_length l = length_tabulate l.count _

entries_at : (l : EntryList) (k : ℕ) → k < l.count → entry_at (entries_of l) k ≡ get_or l.entries k empty_slot
unfolding entries_of
entries_at l k h = get_d_tabulate l.count _ k empty_slot h

pub list_long : (outside : ℕ) (l : EntryList) → 8 < l.count → true ≡ list_refused outside (entries_of l)
unfolding list_refused
list_long outside l h = sym (ap (λ (b : Bool). b || any_below (length (entries_of l)) (λ k. entry_refused outside (entry_at (entries_of l) k))) (lt-ltb 8 (length (entries_of l)) (omega (arith, entries_length l))))

pub list_entry : (outside : ℕ) (l : EntryList) (k : ℕ) (b : Bool) → k < l.count → b ≡ entry_refused outside (get_or l.entries k empty_slot) → b ≡ true → true ≡ list_refused outside (entries_of l)
unfolding list_refused
list_entry outside l k b h e q = sym (or_right (ltb 8 (length (entries_of l))) _
    (any_intro (length (entries_of l)) _ k (omega (arith, entries_length l)) (ap (entry_refused outside) (entries_at l k h) ∙ sym e ∙ q)))

pub list_fine : (outside : ℕ) (l : EntryList) (n : ℕ) → l.count ≤ 8 → l.count ≤ n → ((k : ℕ) → k < n → entry_refused outside (get_or l.entries k empty_slot) ≡ false) → false ≡ list_refused outside (entries_of l)
unfolding list_refused
list_fine outside l n h m f = sym (ap₂ (λ (x y : Bool). x || y) (le-ltb 8 (length (entries_of l)) (omega (arith, entries_length l)))
    (missing (length (entries_of l)) _ (λ k g. ap (entry_refused outside) (entries_at l k (omega (arith, entries_length l))) ∙ f k (omega (arith, entries_length l)))))

regroup : (a x y : Bool) → (a || not (x && not y)) ≡ ((a || not x) || y)
regroup true x y = refl
regroup false true true = refl
regroup false true false = refl
regroup false false y = refl

entry_same : (t : Table) (members : ℕ) (e : Capability) → entry_refused (born_outside t.records members) e ≡ bad_entry t members e
unfolding bad_entry
entry_same t members e =
    ap (λ (b : Bool). (eqb e.rights 0 || ltb 15 e.rights) || not b)
    (bool_ext (has e.target (born_outside t.records members)) (takes_part t e.target && not (has e.target members))
    (λ h. let p = outside_facts t members e.target h in and_intro _ _ p.0 (ap not p.1))
    (λ h. let p = and_true (takes_part t e.target) _ h in outside_intro t members e.target p.0 (not-true _ p.1)))
    ∙ regroup (eqb e.rights 0 || ltb 15 e.rights) (takes_part t e.target) (has e.target members)

pub list_same : (t : Table) (members : ℕ) (list : List Capability) → list_refused (born_outside t.records members) list ≡ bad_list t members list
unfolding list_refused bad_list
list_same t members list = ap (λ (b : Bool). ltb 8 (length list) || b) (any_ext (length list) _ _ (λ k h. entry_same t members (entry_at list k)))

pub list_short : (outside : ℕ) (l : EntryList) → list_refused outside (entries_of l) ≡ false → l.count ≤ 8
unfolding list_refused
list_short outside l e = omega (arith, entries_length l, ltb-false 8 (length (entries_of l)) (or_none _ _ e).0)

-- the rights listed for a target ----------------------------------------------------------
pub listed_none : (l : EntryList) (y : ℕ) → 0 ≡ listed_to (entries_of l) y 0
unfolding listed_to
listed_none l y = refl

pub listed_on : (l : EntryList) (y k m n : ℕ) → k < l.count → m ≡ listed_to (entries_of l) y k → (get_or l.entries k empty_slot).target ≡ y
    → n ≡ union_of m (get_or l.entries k empty_slot).rights → n ≡ listed_to (entries_of l) y (k + 1)
unfolding listed_to
listed_on l y k m n h p e q =
    let c = sym (entries_at l k h) in
    rw add-one (rw (eq-eqb (entry_at (entries_of l) k).target y (ap (λ (x : Capability). x.target) (sym c) ∙ e), listed_to)
    (q ∙ ap₂ (λ (a : ℕ) (x : Capability). union_of a x.rights) p c))

pub listed_off : (l : EntryList) (y k m n : ℕ) → k < l.count → m ≡ listed_to (entries_of l) y k → ((get_or l.entries k empty_slot).target ≡ y → ⊥)
    → n ≡ m → n ≡ listed_to (entries_of l) y (k + 1)
unfolding listed_to
listed_off l y k m n h p e q =
    rw add-one (rw (ne_eqb (entry_at (entries_of l) k).target y (λ z. e (ap (λ (x : Capability). x.target) (sym (entries_at l k h)) ∙ z)), listed_to) (q ∙ p))

pub listed_all : (l : EntryList) (y k : ℕ) → k ≤ l.count → l.count ≤ k → listed_to (entries_of l) y k ≡ listed_rights (entries_of l) y
unfolding listed_rights
listed_all l y k h g = let e : k ≡ length (entries_of l) = omega (arith, entries_length l) in ap (listed_to (entries_of l) y) e

listed_last : (list : List Capability) (b : Right) (y n : ℕ) → has (bit_at b) (listed_to list y (suc n)) ≡ (has (bit_at b) (listed_to list y n) || lists (entry_at list n) b y)
unfolding listed_to
listed_last list b y n = by_cases (eqb (entry_at list n).target y)
    (λ e. rw (e, listed_to) (has_union (bit_at b) _ _ (omega (arith, bit_high b))))
    (λ e. rw (e, listed_to) (sym (or_false _)))

listed_bits : (list : List Capability) (b : Right) (y n : ℕ) → has (bit_at b) (listed_to list y n) ≡ any_below n (λ k. lists (entry_at list k) b y)
unfolding listed_to any_below
listed_bits list b y zero = has_zero (bit_at b)
listed_bits list b y (suc n) = listed_last list b y n ∙ ap (λ (x : Bool). x || lists (entry_at list n) b y) (listed_bits list b y n) ∙ sym (any_last n _)

-- the bits of the union are what is listed
pub listed_rights_lem : (list : List Capability) (b : Right) (y : ℕ) → has (bit_at b) (listed_rights list y) ≡ listed list b y
unfolding listed_rights listed
listed_rights_lem list b y = listed_bits list b y (length list)

-- rows 12 and 13, slot by slot ----------------------------------------------------------------
module _ (t : Table) (a : ℕ → Bool) (b : Capability → Bool) where
  at : (k : ℕ) → k / 8 * 8 + k % 8 ≡ k
  at k = omega arith

  grid_found : (k : ℕ) → k < 512 → (a (k / 8) && b (get_or t.slots k empty_slot)) ≡ true → true ≡ any_below 64 (λ n. a n && any_below 8 (λ j. b (slot_at t n j)))
  grid_found k h e =
      let p = and_true (a (k / 8)) (b (get_or t.slots k empty_slot)) e in
      found 64 _ (k / 8) (omega arith) (and_intro (a (k / 8)) _ p.0
      (any_intro 8 _ (k % 8) (omega arith) (ap (λ (i : ℕ). b (get_or t.slots i empty_slot)) (at k) ∙ p.1)))

  grid_missing : (m : ℕ) → 512 ≤ m → ((k : ℕ) → k < m → (a (k / 8) && b (get_or t.slots k empty_slot)) ≡ false) → false ≡ any_below 64 (λ n. a n && any_below 8 (λ j. b (slot_at t n j)))
  grid_missing m l f = sym (missing 64 _ (λ n h. by_cases (a n)
      (λ e. ap₂ (λ (x y : Bool). x && y) e (missing 8 _ (λ j g.
      let p : (n * 8 + j) / 8 ≡ n = omega arith in
      ap (λ (x : Bool). x && b (slot_at t n j)) (sym (ap a p ∙ e)) ∙ f (n * 8 + j) (omega arith))))
      (λ e. ap (λ (x : Bool). x && any_below 8 (λ j. b (slot_at t n j))) e)))

-- exactly wk, or the four rights of a capability, each absent or listed
pub passes_covered : (list : List Capability) (c : Capability) (found : ℕ) (p q u v : Bool) → found ≡ listed_rights list c.target
    → p ≡ (not (has 0 c.rights) || has 0 found) → q ≡ (not (has 1 c.rights) || has 1 found) → u ≡ (not (has 2 c.rights) || has 2 found) → v ≡ (not (has 3 c.rights) || has 3 found)
    → (eqb c.rights 4 || (p && q && u && v)) ≡ passes list c
unfolding all_listed passes
passes_covered list c found p q u v f ep eq eu ev =
    let bit : (b : Right) → has (bit_at b) found ≡ listed list b c.target = λ b. ap (has (bit_at b)) f ∙ listed_rights_lem list b c.target in
    let one : (b : Right) → (not (has (bit_at b) c.rights) || has (bit_at b) found) ≡ right_listed list c b = λ b. ap (λ (x : Bool). not (has (bit_at b) c.rights) || x) (bit b) in
    ap (λ (x : Bool). eqb c.rights 4 || x)
    (ap₂ (λ (x y : Bool). x && y) (ap₂ (λ (x y : Bool). x && y) (ap₂ (λ (x y : Bool). x && y) (ep ∙ one rd) (eq ∙ one wr)) (eu ∙ one wk)) (ev ∙ one tx))

-- row 12
pub slot_of_other : (members n : ℕ) (list : List Capability) (c : Capability) (b : Bool) → b ≡ has n members → b ≡ false → false ≡ slot_unlisted members list n c
slot_of_other members n list c b p q = let e : has n members ≡ false = sym p ∙ q in rw e refl

pub slot_to_member : (members n : ℕ) (list : List Capability) (c : Capability) (b d : Bool) → b ≡ has n members → b ≡ true → d ≡ has c.target members → d ≡ true → false ≡ slot_unlisted members list n c
slot_to_member members n list c b d p q u v =
    let e : has n members ≡ true = sym p ∙ q in
    let f : has c.target members ≡ true = sym u ∙ v in
    rw (e, f) refl

pub slot_outside : (members n : ℕ) (list : List Capability) (c : Capability) (b d x : Bool) → b ≡ has n members → b ≡ true → d ≡ has c.target members → d ≡ false → x ≡ passes list c
    → not x ≡ slot_unlisted members list n c
slot_outside members n list c b d x p q u v w =
    let e : has n members ≡ true = sym p ∙ q in
    let f : has c.target members ≡ false = sym u ∙ v in
    rw (e, f) (ap not w)

module _ (t : Table) (members : ℕ) where
  pub unlisted_found : (list : List Capability) (k : ℕ) (b : Bool) → k < 512 → b ≡ slot_unlisted members list (k / 8) (get_or t.slots k empty_slot) → b ≡ true → true ≡ bad_held t members list
  unfolding bad_held
  unlisted_found list k b h e q = grid_found t (λ n. has n members) (λ c. not (has c.target members) && not (passes list c)) k h (sym e ∙ q)

  pub unlisted_missing : (list : List Capability) (m : ℕ) → 512 ≤ m → ((k : ℕ) → k < m → slot_unlisted members list (k / 8) (get_or t.slots k empty_slot) ≡ false) → false ≡ bad_held t members list
  unfolding bad_held
  unlisted_missing list m h f = grid_missing t (λ n. has n members) (λ c. not (has c.target members) && not (passes list c)) m h f

  -- row 13
  pub member_found : (k : ℕ) (b : Bool) → k < 512 → b ≡ slot_names_member members (k / 8) (get_or t.slots k empty_slot) → b ≡ true → true ≡ member_held t members
  unfolding member_held
  member_found k b h e q = grid_found t (λ n. not (has n members)) (λ c. not (is_empty c) && has c.target members) k h (sym e ∙ q)

  pub member_missing : (m : ℕ) → 512 ≤ m → ((k : ℕ) → k < m → slot_names_member members (k / 8) (get_or t.slots k empty_slot) ≡ false) → false ≡ member_held t members
  unfolding member_held
  member_missing m h f = grid_missing t (λ n. not (has n members)) (λ c. not (is_empty c) && has c.target members) m h f
