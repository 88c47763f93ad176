-- Reading at a place of the bytes: a capability, by what stands at its two places, and back. Assumes nothing.
use mathlib.Core.Path.{◌≡◌, refl, sym, ◌∙◌, ap}
use mathlib.Core.List.{List}
use Prim.Native.Nat.{ℕ, ◌+◌, ◌≤◌, ◌<◌}
use native.Mathlib.Omega.{arith}
use lib.Dec.{ltb, leb}
use lib.ListN.{length, get_or, drop}
use borrow.Author.Tests.{lt-ltb, le-ltb, le-leb, lt-leb, ltb-true, ltb-false, leb-true, leb-false}
use Rattle.mask.proofs.Tests.{by_cases}
use Rattle.std.specs.Prelude.{Result, Ok, Err}
use Rattle.table.specs.declared.Capability.{Capability}
use Rattle.take_grant.specs.declared.ImportRefusal.{ImportRefusal}
use Rattle.take_grant.specs.declared.ImportRefusal.TheVariants as R
use Rattle.take_grant.specs.Entities.{Cap}
use Rattle.take_grant.specs.Walk.{found, stopped, byte_from, cap_from}
use Rattle.take_grant.specs.Imports.{slot_for}
use Rattle.take_grant.specs.Helpers.{held_of}
use Rattle.take_grant.proofs.Finds.{by_found, not_both, byte_there, byte_none, byte_bad}

-- the capability whose target stands at a place
abbrev pub cap_there : List ℕ → ℕ → Cap
cap_there bytes at = record { entity = get_or bytes at 0; rights = get_or bytes (at + 1) 0 }

module _ (n : ℕ) (bytes : List ℕ) (at : ℕ) where
  pub cap_none : length bytes ≤ at → cap_from n (drop at bytes) ≡ stopped R.LengthWrong
  unfolding cap_from
  cap_none h = rw (byte_none (λ b. ltb b n) bytes at h) refl

  pub cap_aside : at < length bytes → n ≤ get_or bytes at 0 → cap_from n (drop at bytes) ≡ stopped R.ValueWrong
  unfolding cap_from
  cap_aside h g = rw (byte_bad (λ b. ltb b n) bytes at h (le-ltb _ n g)) refl

  module _ (h : at < length bytes) (g : get_or bytes at 0 < n) where
    target_read : byte_from (λ b. ltb b n) (drop at bytes) ≡ found (get_or bytes at 0) (drop (at + 1) bytes)
    target_read = byte_there (λ b. ltb b n) bytes at h (lt-ltb _ n g)

    pub cap_cut : length bytes ≤ at + 1 → cap_from n (drop at bytes) ≡ stopped R.LengthWrong
    unfolding cap_from
    cap_cut l = rw (target_read, byte_none (λ b. leb b 31) bytes (at + 1) l) refl

    pub cap_above : at + 1 < length bytes → 31 < get_or bytes (at + 1) 0 → cap_from n (drop at bytes) ≡ stopped R.ValueWrong
    unfolding cap_from
    cap_above l m = rw (target_read, byte_bad (λ b. leb b 31) bytes (at + 1) l (lt-leb _ 31 m)) refl

    pub cap_there_lem : at + 1 < length bytes → get_or bytes (at + 1) 0 ≤ 31 → cap_from n (drop at bytes) ≡ found (cap_there bytes at) (drop (at + 2) bytes)
    unfolding cap_from
    cap_there_lem l m =
        let e : at + 1 + 1 ≡ at + 2 = omega arith in
        rw (target_read, byte_there (λ b. leb b 31) bytes (at + 1) l (le-leb _ 31 m), e) refl

  -- what was found at a place stands there
  pub record Stands (c : Cap) (rest : List ℕ) : Type 0 where
    pub after : rest ≡ drop (at + 2) bytes
    pub within : at + 2 ≤ length bytes

  pub stands : (c : Cap) (rest : List ℕ) → cap_from n (drop at bytes) ≡ found c rest → Stands c rest
  stands c rest e = by_cases (ltb at (length bytes))
      (λ h. let h' = ltb-true at (length bytes) h in by_cases (ltb (get_or bytes at 0) n)
      (λ g. let g' = ltb-true (get_or bytes at 0) n g in by_cases (ltb (at + 1) (length bytes))
      (λ l. let l' = ltb-true (at + 1) (length bytes) l in by_cases (leb (get_or bytes (at + 1) 0) 31)
      (λ m. let f = cap_there_lem h' g' l' (leb-true _ 31 m) in record { after = cc; within = omega arith })
      (λ m. not_both e (cap_above h' g' l' (leb-false _ 31 m))))
      (λ l. not_both e (cap_cut h' g' (ltb-false (at + 1) (length bytes) l))))
      (λ g. not_both e (cap_aside h' (ltb-false _ n g))))
      (λ h. not_both e (cap_none (ltb-false at (length bytes) h)))

  -- from what the code has
  pub record Read (s : Capability) : Type 0 where
    pub cap : Cap
    pub found_there : cap_from n (drop at bytes) ≡ found cap (drop (at + 2) bytes)
    pub slot : s ≡ slot_for cap
    pub within : at + 2 ≤ length bytes

  pub read_slot : (h : Result Capability ImportRefusal) (s : Capability) → h ≡ held_of (cap_from n (drop at bytes)) → h ≡ Ok s → Read s
  read_slot h s e f = by_found (cap_from n (drop at bytes))
      (λ c rest g.
      let st = stands c rest g in
      let q : Ok s ≡ Ok (slot_for c) = sym f ∙ e ∙ ap held_of g in
      record { cap = c; found_there = g ∙ ap (found c) st.after; slot = cc; within = st.within })
      (λ why g. let q : Ok s ≡ Err why = sym f ∙ e ∙ ap held_of g in let z : ◌≡◌ {A = ℕ} 0 1 = cc in absurd (omega arith))

  pub read_stop : (h : Result Capability ImportRefusal) (why : ImportRefusal) → h ≡ held_of (cap_from n (drop at bytes)) → h ≡ Err why → cap_from n (drop at bytes) ≡ stopped why
  read_stop h why e f = by_found (cap_from n (drop at bytes))
      (λ c rest g. let q : Err why ≡ Ok (slot_for c) = sym f ∙ e ∙ ap held_of g in let z : ◌≡◌ {A = ℕ} 0 1 = cc in absurd (omega arith))
      (λ other g. let q : Err why ≡ Err other = sym f ∙ e ∙ ap held_of g in let r : other ≡ why = cc in g ∙ ap stopped r)
