-- Row 12, member by member: what has no rights or exactly wk passes, and every member passed is fine. Assumes nothing.
use mathlib.Core.Path.{◌≡◌, refl, sym, ◌∙◌, ap, subst⁻¹}
use mathlib.Core.Bool.{Bool, true, false, not, ◌&&◌}
use mathlib.Core.List.{List}
use Prim.Native.Nat.{ℕ, ◌+◌, ◌-◌, ◌*◌, ◌≤◌, ◌<◌}
use native.Mathlib.Omega.{arith}
use lib.Dec.{eqb}
use lib.ListN.{get_or, take, drop}
use Rattle.std.proofs.lemmas.List.{get_or-take, get_or-drop}
use borrow.Author.Tests.{eqb-true}
use Rattle.mask.specs.Sets.{has, excluding}
use Rattle.mask.proofs.Tests.{by_cases, clash, and_true}
use Rattle.mask.proofs.Below.{any_intro, any_elim}
use Rattle.mask.proofs.Bits.{has_zero}
use Rattle.table.specs.declared.Capability.{Capability}
use Rattle.table.specs.declared.Table.{Table}
use Rattle.table.specs.Cells.{empty_slot, slot_at}
use Rattle.confinement.specs.Refusals.{all_listed, passes, bad_held}
use Rattle.confinement.specs.Helpers.{slot_unlisted}
use Rattle.sweeps.specs.Helpers.{Lowest}
use Rattle.sweeps.proofs.Numbers.{still_left, was_passed}

-- no rights, or exactly wk
pub plain_passes : (list : List Capability) (c : Capability) → (not (eqb c.rights 0) && not (eqb c.rights 4)) ≡ false → passes list c ≡ true
unfolding passes all_listed
plain_passes list c e = by_cases (eqb c.rights 4)
    (λ p. rw p refl)
    (λ p. by_cases (eqb c.rights 0)
    (λ q. let z : c.rights ≡ 0 = eqb-true c.rights 0 q in rw z refl)
    (λ q. clash (rw (p, q) refl) e))

-- slot j among the slots of n
pub slice_slot : (t : Table) (n j : ℕ) → j < n * 8 + 8 - n * 8 → get_or (take (n * 8 + 8 - n * 8) (drop (n * 8) t.slots)) j empty_slot ≡ slot_at t n j
slice_slot t n j h = get_or-take (n * 8 + 8 - n * 8) (drop (n * 8) t.slots) j empty_slot h ∙ get_or-drop (n * 8) t.slots j empty_slot

module _ (t : Table) (members : ℕ) (list : List Capability) where
  -- slot j of n is one that row 12 turns down
  abbrev bad : ℕ → ℕ → Bool
  bad n j = slot_unlisted members list n (slot_at t n j)

  pub record Searching (left : ℕ) : Type 0 where
    pub within : (n : ℕ) → n < 64 → has n left ≡ true → has n members ≡ true
    pub fine : (n j : ℕ) → n < 64 → j < 8 → has n members ≡ true → has n left ≡ false → bad n j ≡ false

  pub search_none : Searching members
  search_none = record { within = λ n h e. e; fine = λ n j hn hj e f. clash e f }

  pub search_found : (n j : ℕ) → n < 64 → j < 8 → bad n j ≡ true → true ≡ bad_held t members list
  unfolding bad_held
  search_found n j hn hj e =
      let p = and_true (has n members) _ e in
      sym (any_intro 64 _ n hn (and_both (has n members) p.0 (any_intro 8 _ j hj p.1)))
    where
      and_both : (a : Bool) {b : Bool} → a ≡ true → b ≡ true → (a && b) ≡ true
      and_both true p q = q
      and_both false p q = p

  pub search_skip : (n j : ℕ) → (not (eqb (slot_at t n j).rights 0) && not (eqb (slot_at t n j).rights 4)) ≡ false → bad n j ≡ false
  search_skip n j e = rw (plain_passes list (slot_at t n j) e) (none (has n members) (not (has (slot_at t n j).target members)))
    where
      none : (a b : Bool) → (a && (b && false)) ≡ false
      none true true = refl
      none true false = refl
      none false b = refl

  pub search_more : (left n j l : ℕ) → Lowest left n → 8 ≤ j → ((i : ℕ) → i < j → bad n i ≡ false) → Searching left → l ≡ excluding n left → Searching l
  search_more left n j l q h f p e = rw e record {
    within = λ k hk o. p.within k hk (still_left left n k hk o);
    fine = λ k i hk hi m o. was_passed left n k hk o
        (λ z. subst⁻¹ (λ (u : ℕ). bad u i ≡ false) z (f i (omega arith)))
        (λ z y. p.fine k i hk hi m y);
  }

  pub search_all : (left : ℕ) → left ≡ 0 → Searching left → false ≡ bad_held t members list
  unfolding bad_held
  search_all left z p = sym (by_cases (bad_held t members list)
      (λ e. any_elim 64 _ e (λ n hn a. let m = and_true (has n members) _ a in any_elim 8 _ m.1 (λ j hj b.
      clash (rw (m.0, b) refl) (p.fine n j hn hj m.0 (ap (has n) z ∙ has_zero n)))))
      (λ e. e))
