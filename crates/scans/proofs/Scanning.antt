-- One record more of the scan: its slots are right exactly if what was noted of all of them says so. Assumes nothing.
use mathlib.Core.Path.{◌≡◌, refl, sym, ◌∙◌, ap, ap₂, subst}
use mathlib.Core.Logic.{◌≢◌}
use mathlib.Core.Bool.{Bool, true, false, not, ◌&&◌, ◌||◌}
use mathlib.Core.List.{List}
use Prim.Native.Nat.{ℕ, ◌+◌, ◌^◌, ◌≤◌, ◌<◌}
use native.Mathlib.Numerals.{add-one}
use native.Mathlib.Omega.{arith}
use lib.Dec.{eqb, leb}
use lib.ListN.{length, get_or, set}
use borrow.Author.Tests.{eqb-true, eqb-false, eq-eqb, ne_eqb, leb-true, leb-false, le-leb, lt-leb, not-true}
use Rattle.mask.specs.Sets.{has, all_below, any_below, union_of, subset_of}
use Rattle.mask.proofs.Tests.{by_cases, by_eq, clash, and_true, and_intro, and_false, or_cases, or_left, or_right, or_none, or_false, not_less}
use Rattle.mask.proofs.Below.{all_intro, any_intro, any_elim, any_none, any_last}
use Rattle.mask.proofs.Bits.{has_bits, has_zero, bits_same, bits_lt, bits_ext, subset_at}
use Rattle.table.specs.declared.Capability.{Capability}
use Rattle.table.specs.declared.Record.{Record}
use Rattle.table.specs.declared.Table.{Table}
use Rattle.table.specs.Cells.{record_at, slot_at, is_alive, born_at, is_empty}
use Rattle.table.specs.Soundness.{slot_sound, sound}
use Rattle.table.proofs.Scan.{born_set, has_born, stopped_at_slot}
use Rattle.access.specs.Answers.{born_outside}
use Rattle.access.proofs.Marks.{has_low}
use Rattle.links.specs.Links.{words_of}
use Rattle.held.specs.declared.Holds.{Holds}
use Rattle.held.specs.Helpers.{everyone, over_on, is_astray, Noted}
use Rattle.held.proofs.Slots.{row_to}
use Rattle.held.proofs.Passed.{low_every, joins_to, over_to, Taking, take_none, take_end, take_more, take_skip, joins_more, over_more}
use Rattle.scans.specs.Helpers.{is_odd, slots_right}

pub every_subset : (s : ℕ) → true ≡ subset_of s everyone
unfolding subset_of
every_subset s = sym (all_intro 64 _ (λ k hk. or_right (not (has k s)) _ (low_every k hk)))

module _ (t : Table) (weakly : Bool) where
  -- after j of the slots of n
  pub record Noting (n j : ℕ) (h : Holds) (odd : Bool) (words : List ℕ) : Type 0 where
    pub taking : Taking t.slots everyone weakly n j h.strong h.over h.astray words
    pub odd_is : odd ≡ any_below j (λ i. is_odd (slot_at t n i))

  module _ (n j : ℕ) (hn : n < 64) (hj : j < 8) (h : Holds) (odd : Bool) (words : List ℕ) (p : Noting n j h odd words) where
    abbrev c : Capability
    c = slot_at t n j

    pub note_empty : (o : Bool) (k : Holds) (after : List ℕ) → c.rights ≡ 0 → o ≡ (odd || not (eqb c.target 0)) → k ≡ h → after ≡ words → Noting n (j + 1) k o after
    note_empty o k after z e q w = record {
      taking = take_skip t.slots everyone weakly n j hn hj h k words after p.taking z q w;
      odd_is = e ∙ ap₂ (λ (a b : Bool). a || b) p.odd_is (sym (rw (eq-eqb c.rights 0 z, z) (or_false (not (eqb c.target 0)))))
          ∙ sym (any_last j _) ∙ ap (λ (m : ℕ). any_below m (λ i. is_odd (slot_at t n i))) (sym (add-one j));
    }

    pub note_filled : (o : Bool) (r k : Holds) (after then : List ℕ) → c.rights ≢ 0 → o ≡ (odd || leb 16 c.rights) → Noted weakly n c h r words after → k ≡ r → then ≡ after
        → Noting n (j + 1) k o then
    note_filled o r k after then z e m q w = record {
      taking = take_more t.slots everyone weakly n j hn hj h r k words after then p.taking z m q w;
      odd_is = e ∙ ap₂ (λ (a b : Bool). a || b) p.odd_is (sym (rw (ne_eqb c.rights 0 z) refl))
          ∙ sym (any_last j _) ∙ ap (λ (m : ℕ). any_below m (λ i. is_odd (slot_at t n i))) (sym (add-one j));
    }

  pub note_none : (n : ℕ) (h : Holds) (words : List ℕ) → n < 64 → h.strong ≡ 0 → h.over ≡ 0 → h.astray ≡ false → words ≡ words_of (joins_to t.slots everyone weakly n)
      → Noting n 0 h false words
  unfolding any_below
  note_none n h words hn a b o e = record { taking = rw (a, b, o) (take_none t.slots everyone weakly n 0 words refl (low_every n hn) e); odd_is = refl }

  pub note_end : (n j : ℕ) (h : Holds) (odd : Bool) (words : List ℕ) → 8 ≤ j → Noting n j h odd words → Noting n 8 h odd words
  note_end n j h odd words l p = record {
    taking = take_end t.slots everyone weakly n j h h words words l p.taking refl refl;
    odd_is = p.odd_is ∙ ap (λ (m : ℕ). any_below m (λ i. is_odd (slot_at t n i))) (omega (arith, l, p.taking.few));
  }

  -- the words of one record more
  module _ (n : ℕ) (hn : n < 64) (h : Holds) (odd : Bool) (words : List ℕ) (p : Noting n 8 h odd words) (born : ℕ) (g : slots_right (record_at t n) born h odd ≡ true) where
    clear : (h.astray || not true) ≡ false
    clear = rw (or_none h.astray odd (not-true _ (and_true (not (h.astray || odd)) _ g).0)).0 refl

    pub words_joins : (m : ℕ) → m ≡ union_of (get_or words n 0) h.strong → set words n m ≡ words_of (joins_to t.slots everyone weakly (n + 1))
    words_joins = joins_more t.slots everyone weakly n 8 h.strong h.over h.astray words hn (omega arith) p.taking (omega arith) true (every_subset h.over) clear

    pub words_over : (over : List ℕ) → over ≡ words_of (over_to t.slots everyone weakly n) → set over n h.over ≡ words_of (over_to t.slots everyone weakly (n + 1))
    words_over = over_more t.slots everyone weakly n 8 h.strong h.over h.astray words hn (omega arith) p.taking (omega arith) true (every_subset h.over) clear

  -- all eight --------------------------------------------------------------------------------------
  module _ (n : ℕ) (hn : n < 64) (h : Holds) (odd : Bool) (words : List ℕ) (p : Noting n 8 h odd words) (born : ℕ) (b : born ≡ born_set t) (long : length t.records ≡ 64) where
    abbrev at : ℕ → Capability
    at i = slot_at t n i

    over_is : (k : ℕ) → k < 64 → has k h.over ≡ row_to t.slots everyone n (over_on everyone) 8 k
    over_is k hk = ap (has k) p.taking.over ∙ has_bits 64 k _ hk

    astray_is : h.astray ≡ (has n everyone && any_below 8 (λ i. is_astray everyone (at i)))
    astray_is = p.taking.astray

    -- a slot with rights is noted, if its target is a number
    noted_at : (i : ℕ) → i < 8 → (at i).rights ≢ 0 → has (at i).target everyone ≡ true → has (at i).target h.over ≡ true
    noted_at i hi z e = over_is (at i).target (has_low everyone (at i).target (omega arith) e) ∙ and_intro (has n everyone) _ (low_every n hn)
        (any_intro 8 _ i hi (and_intro (over_on everyone (at i)) _ (and_intro (has (at i).target everyone) _ e (ap not (ne_eqb (at i).rights 0 z))) (eq-eqb (at i).target (at i).target refl)))

    is_born_lem : (m : ℕ) → has m born ≡ born_at t m
    is_born_lem m = ap (has m) b ∙ has_born t m long

    empty_sound : (i : ℕ) → is_empty (at i) ≡ true → slot_sound t n i ≡ true
    empty_sound i e = rw e (and_intro _ _ (or_right (is_alive (record_at t n)) true refl) refl)

    module _ (g : slots_right (record_at t n) born h odd ≡ true) where
      none : (h.astray || odd) ≡ false
      none = not-true _ (and_true (not (h.astray || odd)) _ g).0

      even : (i : ℕ) → i < 8 → is_odd (at i) ≡ false
      even i hi = any_none 8 _ (sym p.odd_is ∙ (or_none h.astray odd none).1) i hi

      known : (i : ℕ) → i < 8 → (at i).rights ≢ 0 → has (at i).target everyone ≡ true
      known i hi z = by_cases (has (at i).target everyone) (λ e. e)
          (λ e. clash (astray_is ∙ and_intro (has n everyone) _ (low_every n hn) (any_intro 8 _ i hi (and_intro _ _ (ap not (ne_eqb (at i).rights 0 z)) (ap not e)))) (or_none h.astray odd none).0)

      filled_sound_lem : (i : ℕ) → i < 8 → (at i).rights ≢ 0 → slot_sound t n i ≡ true
      filled_sound_lem i hi z =
          let k = known i hi z in
          let o = noted_at i hi z k in
          let r = or_cases (eqb h.over 0) _ (and_true (not (h.astray || odd)) _ g).1 (λ e. clash o (ap (has (at i).target) (eqb-true h.over 0 e) ∙ has_zero (at i).target)) (λ e. e) in
          let w = and_true (is_alive (record_at t n)) _ r in
          let f = (or_none (eqb (at i).rights 0 && not (eqb (at i).target 0)) (leb 16 (at i).rights) (even i hi)).1 in
          and_intro _ _ (or_left (is_alive (record_at t n)) _ w.0) (or_right (is_empty (at i)) _ (and_intro _ _ (and_intro (born_at t (at i).target) _
          (sym (is_born_lem (at i).target) ∙ subset_at h.over born (at i).target w.1 (has_low everyone (at i).target (omega arith) k) o)
          (le-leb 1 (at i).rights (omega (arith, z)))) (le-leb (at i).rights 15 (omega (arith, leb-false 16 (at i).rights f)))))

      pub slots_good : all_below 8 (slot_sound t n) ≡ true
      slots_good = all_intro 8 _ (λ i hi. by_eq (at i).rights 0
          (λ z. let f = (or_none (eqb (at i).rights 0 && not (eqb (at i).target 0)) _ (even i hi)).0 in
          empty_sound i (and_intro _ _ (by_cases (eqb (at i).target 0) (λ e. e) (λ e. clash (and_intro (eqb (at i).rights 0) _ (eq-eqb (at i).rights 0 z) (ap not e)) f)) (eq-eqb (at i).rights 0 z)))
          (filled_sound_lem i hi))

    -- or one is wrong
    full_not_empty : (i : ℕ) → (at i).rights ≢ 0 → is_empty (at i) ≡ false
    full_not_empty i z = rw (ne_eqb (at i).rights 0 z) (and_false (eqb (at i).target 0))

    bad_filled : (i : ℕ) → is_empty (at i) ≡ false → ((born_at t (at i).target && leb 1 (at i).rights) && leb (at i).rights 15) ≡ false → slot_sound t n i ≡ false
    bad_filled i e f = rw e (rw f (and_false (is_alive (record_at t n) || false)))

    bad_idle : (i : ℕ) → is_empty (at i) ≡ false → is_alive (record_at t n) ≡ false → slot_sound t n i ≡ false
    bad_idle i e f = rw (e, f) refl

    bad_target : (i : ℕ) → (at i).rights ≢ 0 → has (at i).target born ≡ false → slot_sound t n i ≡ false
    bad_target i z e = bad_filled i (full_not_empty i z) (rw (sym (is_born_lem (at i).target) ∙ e) refl)

    stop : (i : ℕ) → i < 8 → slot_sound t n i ≡ false → false ≡ sound t
    stop i hi e = stopped_at_slot t n i hn hi e

    -- who is noted has a slot
    slot_of_lem : {P : Type 0} (k : ℕ) → k < 64 → has k h.over ≡ true → ((i : ℕ) → i < 8 → (at i).rights ≢ 0 → (at i).target ≡ k → P) → P
    slot_of_lem k hk e then = any_elim 8 _ (and_true (has n everyone) _ (sym (over_is k hk) ∙ e)).1 (λ i hi a.
        let w = and_true (over_on everyone (at i)) _ a in
        then i hi (eqb-false (at i).rights 0 (not-true _ (and_true (has (at i).target everyone) _ w.0).1)) (sym (eqb-true k (at i).target w.1)))

    over_fits : h.over < 2 ^ 64
    over_fits = subst (λ (m : ℕ). m < 2 ^ 64) (sym p.taking.over) (bits_lt 64 _)

    some_over : {P : Type 0} → h.over ≢ 0 → ((k : ℕ) → k < 64 → has k h.over ≡ true → P) → P
    some_over z then = by_cases (any_below 64 (λ k. has k h.over)) (λ e. any_elim 64 _ e then)
        (λ e. absurd (z (bits_ext 64 h.over 0 over_fits (omega arith) (λ k hk. any_none 64 _ e k hk ∙ sym (has_zero k)))))

    born_low : (m : ℕ) → has m everyone ≡ false → has m born ≡ false
    unfolding born_set
    born_low m e = by_cases (has m born) (λ f. clash (low_every m (has_low born m (subst (λ (i : ℕ). i < 2 ^ 64) (sym b) (bits_lt 64 _)) f)) e) (λ f. f)

    wrong_odd : (i : ℕ) → i < 8 → is_odd (at i) ≡ true → false ≡ sound t
    wrong_odd i hi e = or_cases (eqb (at i).rights 0 && not (eqb (at i).target 0)) (leb 16 (at i).rights) e
        (λ f. let w = and_true (eqb (at i).rights 0) _ f in let z = eqb-true (at i).rights 0 w.0 in
        stop i hi (bad_filled i (ap (λ (a : Bool). a && eqb (at i).rights 0) (not-true (eqb (at i).target 0) w.1)) (rw z (ap (λ (a : Bool). a && leb 0 15) (and_false (born_at t (at i).target))))))
        (λ f. let l = leb-true 16 (at i).rights f in
        stop i hi (bad_filled i (full_not_empty i (λ z. omega (arith, z, l))) (rw (lt-leb (at i).rights 15 (omega (arith, l))) (and_false (born_at t (at i).target && leb 1 (at i).rights)))))

    pub slots_bad : slots_right (record_at t n) born h odd ≡ false → false ≡ sound t
    unfolding subset_of
    slots_bad g = by_cases (h.astray || odd)
        (λ e. or_cases h.astray odd e
        (λ f. any_elim 8 _ (and_true (has n everyone) _ (sym astray_is ∙ f)).1 (λ i hi a.
        let w = and_true (not (eqb (at i).rights 0)) _ a in
        stop i hi (bad_target i (eqb-false (at i).rights 0 (not-true _ w.0)) (born_low (at i).target (not-true _ w.1)))))
        (λ f. any_elim 8 _ (sym p.odd_is ∙ f) (λ i hi a. wrong_odd i hi a)))
        (λ e.
        let r = or_none (eqb h.over 0) (is_alive (record_at t n) && subset_of h.over born) (sym (ap (λ (a : Bool). not a && (eqb h.over 0 || (is_alive (record_at t n) && subset_of h.over born))) e) ∙ g) in
        by_cases (is_alive (record_at t n))
        (λ a. by_cases (any_below 64 (λ k. has k h.over && not (has k born)))
        (λ y. any_elim 64 _ y (λ k hk w. let v = and_true (has k h.over) _ w in slot_of_lem k hk v.0 (λ i hi z q.
        stop i hi (bad_target i z (ap (λ (m : ℕ). has m born) q ∙ not-true _ v.1)))))
        (λ y. clash (all_intro 64 _ (λ k hk. sym (not_less (has k h.over) (has k born)) ∙ ap not (any_none 64 _ y k hk))) (sym (ap (λ (c : Bool). c && subset_of h.over born) a) ∙ r.1)))
        (λ a. some_over (eqb-false h.over 0 r.0) (λ k hk o. slot_of_lem k hk o (λ i hi z q. stop i hi (bad_idle i (full_not_empty i z) a)))))

-- what `slots_right` says, way by way
module _ (r : Record) (born : ℕ) (h : Holds) (odd : Bool) where
  pub right_no : (h.astray || odd) ≡ true → false ≡ slots_right r born h odd
  right_no e = sym (ap (λ (a : Bool). not a && (eqb h.over 0 || (is_alive r && subset_of h.over born))) e)

  pub right_none : (h.astray || odd) ≡ false → h.over ≡ 0 → true ≡ slots_right r born h odd
  right_none e z = sym (and_intro (not (h.astray || odd)) _ (ap not e) (or_left (eqb h.over 0) _ (eq-eqb h.over 0 z)))

  pub right_some : (s : Bool) → (h.astray || odd) ≡ false → h.over ≢ 0 → s ≡ subset_of h.over born → (is_alive r && s) ≡ slots_right r born h odd
  right_some s e z q = ap (λ (a : Bool). is_alive r && a) q ∙ sym (ap₂ (λ (a b : Bool). not a && (b || (is_alive r && subset_of h.over born))) e (ne_eqb h.over 0 z))

-- the born numbers, as the calls have them
pub born_outside_lem : (t : Table) → born_set t ≡ born_outside t.records 0
unfolding born_set born_outside
born_outside_lem t = bits_same 64 _ _ (λ k hk. sym (rw (has_zero k) (all_of (born_at t k))))
  where
    all_of : (b : Bool) → (b && true) ≡ b
    all_of true = refl
    all_of false = refl
