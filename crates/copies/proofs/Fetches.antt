-- A fetch through rights without rd hands out no more than wk, the first time or later: by what weakening leaves (`rights`).
-- Assumes nothing.
use mathlib.Core.Path.{◌≡◌, refl, sym, ◌∙◌, ap, subst}
use mathlib.Core.Bool.{true, false}
use mathlib.Core.Logic.{◌⊎◌, ⊎_elim, inl, inr}
use Prim.Native.Nat.{ℕ, ◌≤◌}
use Rattle.mask.proofs.Tests.{by_cases}
use Rattle.table.specs.declared.Capability.{Capability}
use Rattle.table.specs.Cells.{empty_slot, has_rd}
use Rattle.rights.specs.Rows.{weaken}
use Rattle.rights.proofs.Weakening.{weak_over, able_some, weaken_elim, weaken_is}
use Rattle.copies.specs.Copies.{fetched}

-- A fetch through rights with rd takes the capability as it is.
pub fetched_whole : (rights : ℕ) (c : Capability) → has_rd rights ≡ true → fetched rights c ≡ c
unfolding fetched
fetched_whole rights c e = rw (e, fetched) refl

-- A fetch through rights without rd weakens.
pub fetched_weakened : (rights : ℕ) (c : Capability) → has_rd rights ≡ false → fetched rights c ≡ weaken c
unfolding fetched
fetched_weakened rights c e = rw (e, fetched) refl

-- What holds of the capability itself, of wk alone over its target and of the empty slot holds of what a fetch takes.
pub fetched_elim : (P : Capability → Type 0) (rights : ℕ) (c : Capability) → (has_rd rights ≡ true → P c)
    → (has_rd rights ≡ false → 1 ≤ c.rights → P (weak_over c.target)) → P empty_slot → P (fetched rights c)
fetched_elim P rights c f g h = by_cases (has_rd rights)
    (λ e. subst P (sym (fetched_whole rights c e)) (f e))
    (λ e. subst P (sym (fetched_weakened rights c e)) (weaken_elim P c (λ q. g e (able_some c.rights q)) h))

-- A fetch through rights without rd gives rights 0 or 4.
pub fetched_rights : (rights : ℕ) (c : Capability) → has_rd rights ≡ false → ((fetched rights c).rights ≡ 0) ⊎ ((fetched rights c).rights ≡ 4)
fetched_rights rights c e = ⊎_elim
    (λ f. inl (ap (λ (x : Capability). x.rights) (fetched_weakened rights c e ∙ f)))
    (λ f. inr (ap (λ (x : Capability). x.rights) (fetched_weakened rights c e ∙ f)))
    (weaken_is c)

-- A second fetch, through what a first one without rd gave, has no rd to go by and weakens too.
pub fetched_again : (rights : ℕ) (c d : Capability) → has_rd rights ≡ false → fetched (fetched rights c).rights d ≡ weaken d
fetched_again rights c d e = fetched_weakened _ d
    (⊎_elim (λ f. ap has_rd f) (λ f. ap has_rd f) (fetched_rights rights c e))
