-- What weakening leaves of a capability, by whether it meets the need of a read. Assumes nothing.
use mathlib.Core.Path.{◌≡◌, refl, sym, ◌∙◌, ap, subst}
use mathlib.Core.Bool.{true, false, false≢true}
use mathlib.Core.Logic.{◌⊎◌, ⊎_elim, inl, inr}
use Prim.Native.Nat.{ℕ, ◌≤◌}
use native.Mathlib.Omega.{arith}
use Rattle.mask.proofs.Tests.{by_cases, by_eq}
use Rattle.table.specs.declared.Capability.{Capability}
use Rattle.table.specs.Cells.{empty_slot}
use Rattle.rights.specs.declared.Need.TheVariants.{ReadOrWeak}
use Rattle.rights.specs.Rows.{rows, worth_of, need_met, weaken}
use Rattle.rights.specs.Exactness.{WeakeningIsTheSentence}
use Rattle.rights.proofs.Sentences.{needs_are_the_sentences, weakening_is_the_sentence}

-- rights exactly wk over the target
abbrev pub weak_over : ℕ → Capability
weak_over target = record { target = target; rights = 4 }

-- Weakening gives wk over the same target if rd or wk was present, and empty otherwise.
pub weaken_able : (c : Capability) → need_met ReadOrWeak c.rights ≡ true → weaken c ≡ weak_over c.target
unfolding WeakeningIsTheSentence
weaken_able c e = weakening_is_the_sentence c ∙ rw (sym (needs_are_the_sentences.read_or_weak c.rights) ∙ e) refl

pub weaken_unable : (c : Capability) → need_met ReadOrWeak c.rights ≡ false → weaken c ≡ empty_slot
unfolding WeakeningIsTheSentence
weaken_unable c e = weakening_is_the_sentence c ∙ rw (sym (needs_are_the_sentences.read_or_weak c.rights) ∙ e) refl

-- Where rd or wk is present there is a right.
pub able_some : (rights : ℕ) → need_met ReadOrWeak rights ≡ true → 1 ≤ rights
unfolding rows worth_of need_met
able_some rights e = by_eq rights 0 (λ z. absurd (false≢true (rw z at e))) (λ z. omega arith)

-- What holds of wk over the same target, where rd or wk was present, and of the empty slot, holds of a weakened capability.
pub weaken_elim : (P : Capability → Type 0) (c : Capability) → (need_met ReadOrWeak c.rights ≡ true → P (weak_over c.target)) → P empty_slot → P (weaken c)
weaken_elim P c f h = by_cases (need_met ReadOrWeak c.rights) (λ e. subst P (sym (weaken_able c e)) (f e)) (λ e. subst P (sym (weaken_unable c e)) h)

-- A weakened capability is empty, or has rights exactly 4 over the same target.
pub weaken_is : (c : Capability) → (weaken c ≡ empty_slot) ⊎ (weaken c ≡ weak_over c.target)
weaken_is c = weaken_elim (λ x. (x ≡ empty_slot) ⊎ (x ≡ weak_over c.target)) c (λ e. inr refl) (inl refl)

empty_stays : weaken empty_slot ≡ empty_slot
unfolding rows worth_of weaken
empty_stays = refl

weak_stays : (target : ℕ) → weaken (weak_over target) ≡ weak_over target
unfolding rows worth_of weaken
weak_stays target = refl

-- Weakening twice is weakening once.
pub weaken_twice : (c : Capability) → weaken (weaken c) ≡ weaken c
weaken_twice c = ⊎_elim
    (λ e. ap weaken e ∙ empty_stays ∙ sym e)
    (λ e. ap weaken e ∙ weak_stays c.target ∙ sym e)
    (weaken_is c)
