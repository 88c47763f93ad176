-- The mapping of rights: what the code joins is what the rows give, and each right of the result comes from its own rows. Computed for every set of
-- the five rights. Assumes nothing.
use mathlib.Core.Path.{◌≡◌, refl, ◌∙◌}
use mathlib.Core.Bool.{Bool, true, false, cond, ◌&&◌, ◌||◌}
use Prim.Native.Nat.{ℕ, ◌≤◌}
use native.Mathlib.Omega.{arith}
use lib.Bits.{bit_or}
use lib.Dec.{eqb}
use borrow.Author.Tests.{eqb-true}
use Rattle.mask.specs.Sets.{has, bits}
use Rattle.mask.proofs.Tests.{and_true, same, same_eq}
use Rattle.mask.proofs.Bits.{has_bits, bits_lt}
use Rattle.take_grant.specs.Entities.{Read, Write, Grant, Create, Store, includes, mapped}
use Rattle.take_grant.specs.Exactness.{Rows}

-- a test of five tests that holds for all of them
abbrev both : (Bool → Bool) → Bool
both p = p true && p false

both_at : (p : Bool → Bool) → both p ≡ true → (b : Bool) → p b ≡ true
both_at p e true = (and_true (p true) (p false) e).0
both_at p e false = (and_true (p true) (p false) e).1

abbrev Five : Type 0
Five = Bool → Bool → Bool → Bool → Bool → Bool

abbrev every : Five → Bool
every p = both (λ r. both (λ w. both (λ g. both (λ c. both (λ s. p r w g c s)))))

every_at : (p : Five) → every p ≡ true → (r w g c s : Bool) → p r w g c s ≡ true
every_at p e r w g c s =
    both_at (p r w g c) (both_at (λ c. both (p r w g c)) (both_at (λ g. both (λ c. both (p r w g c)))
    (both_at (λ w. both (λ g. both (λ c. both (p r w g c)))) (both_at (λ r. both (λ w. both (λ g. both (λ c. both (p r w g c))))) e r) w) g) c) s

-- the rows, by which of the five rights are there
abbrev rows_of : Bool → Bool → Bool → Bool → Bool → ℕ → Bool
rows_of r w g c s k = r && has k 1 || w && has k 2 || g && has k 8 || c && has k 0 || s && has k 3

-- what the code joins
abbrev joined : Bool → Bool → Bool → Bool → ℕ
joined r w g s = bit_or (bit_or (bit_or (cond r 1 0) (cond w 2 0)) (cond g 8 0)) (cond s 3 0)

rows_joined : (r w g c s : Bool) → joined r w g s ≡ bits 4 (rows_of r w g c s)
unfolding bits
rows_joined r w g c s = eqb-true _ _ (every_at (λ r w g c s. eqb (joined r w g s) (bits 4 (rows_of r w g c s))) refl r w g c s)

pub mapped_joined : (rights a b c d : ℕ) → a ≡ cond (has 0 rights) 1 0 → b ≡ cond (has 1 rights) 2 0 → c ≡ cond (has 2 rights) 8 0 → d ≡ cond (has 4 rights) 3 0
    → bit_or (bit_or (bit_or a b) c) d ≡ mapped rights
unfolding mapped
mapped_joined rights a b c d e f g h = rw (e, f, g, h) (rows_joined (includes Read rights) (includes Write rights) (includes Grant rights) (includes Create rights) (includes Store rights))

pub mapped_high : (rights : ℕ) → mapped rights ≤ 15
unfolding mapped
mapped_high rights = omega (arith, bits_lt 4 (rows_of (includes Read rights) (includes Write rights) (includes Grant rights) (includes Create rights) (includes Store rights)))

pub rows_of_lem : (rights : ℕ) → Rows rights
unfolding mapped
rows_of_lem rights =
    let r = includes Read rights in
    let w = includes Write rights in
    let g = includes Grant rights in
    let c = includes Create rights in
    let s = includes Store rights in
    record {
      rd = has_bits 4 0 (rows_of r w g c s) (omega arith) ∙ same_eq _ _ (every_at (λ r w g c s. same (rows_of r w g c s 0) (r || s)) refl r w g c s);
      wr = has_bits 4 1 (rows_of r w g c s) (omega arith) ∙ same_eq _ _ (every_at (λ r w g c s. same (rows_of r w g c s 1) (w || s)) refl r w g c s);
      wk = has_bits 4 2 (rows_of r w g c s) (omega arith) ∙ same_eq _ _ (every_at (λ r w g c s. same (rows_of r w g c s 2) false) refl r w g c s);
      tx = has_bits 4 3 (rows_of r w g c s) (omega arith) ∙ same_eq _ _ (every_at (λ r w g c s. same (rows_of r w g c s 3) g) refl r w g c s);
    }
