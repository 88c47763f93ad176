-- What is decided, by the ways that the code goes: `decision_of` at the branch that was taken; and every refusal has a number of at most two
-- digits. Assumes nothing.
use mathlib.Core.Path.{◌≡◌, refl, ◌∙◌, ap, ap₂}
use mathlib.Core.Logic.{◌≢◌}
use mathlib.Core.Bool.{true, false}
use mathlib.Core.List.{List}
use Prim.Native.Nat.{ℕ, ◌<◌}
use native.Mathlib.Omega.{arith}
use lib.ListN.{take, drop}
use borrow.Author.Tests.{eq-eqb, ne_eqb}
use Rattle.std.specs.Prelude.{Result, Ok, Err, IfErr}
use Rattle.mask.proofs.Tests.{by_cases}
use Rattle.table.specs.declared.Table.{Table}
use Rattle.octets.specs.BigEndian.{byte_at, number_of}
use Rattle.image.specs.declared.ReadRefusal.{ReadRefusal}
use Rattle.image.specs.declared.ReadRefusal.TheVariants as R
use Rattle.image.specs.declared.Version.TheVariants.{One}
use Rattle.image.specs.Layout.{version_byte, image_length}
use Rattle.image.specs.Images.{read_of, read_number}
use Rattle.bounds.specs.declared.EntryList.{EntryList}
use Rattle.bounds.specs.declared.Grown.{Grown}
use Rattle.confinement.specs.declared.TestRefusal.{TestRefusal}
use Rattle.confinement.specs.declared.TestRefusal.TheVariants.{TableUnsound, MembersInvalid, ListInvalid, RightUnlisted, MemberHeld}
use Rattle.confinement.specs.Refusals.{refusal_number}
use Rattle.bounds.specs.StandIn.{entries_of}
use Rattle.confinement.specs.Tests.{test_of}
use Rattle.entries.specs.Entries.{held_entries}
use Rattle.entries.proofs.Lists.{test_bytes}
use Rattle.lines.specs.declared.Refused.{Refused}
use Rattle.report.specs.Input.{fixed_length, wrong_length, other_version, image_part, members_of, list_of}
use Rattle.report.specs.Decisions.{refused_by, test_decision, image_decision, loaded_decision, decision_of}

-- what is decided --------------------------------------------------------------------------
module _ (input : List ℕ) where
  pub decided_refused : wrong_length input ≡ true → Err (refused_by 17) ≡ decision_of input
  unfolding decision_of
  decided_refused e = rw (e, decision_of) refl

  module _ (e : wrong_length input ≡ false) where
    pub decided_version : byte_at input 2 ≢ version_byte One → Err (refused_by 15) ≡ decision_of input
    unfolding decision_of
    decided_version n = rw (e, ne_eqb _ _ n, decision_of) refl

    module _ (v : byte_at input 2 ≡ version_byte One) where
      decided_image : (l : Result Table Refused) → l ≡ image_decision (read_of (image_part input)) → loaded_decision l input ≡ decision_of input
      unfolding decision_of
      decided_image l f = rw (e, eq-eqb _ _ v, decision_of) (ap (λ (x : Result Table Refused). loaded_decision x input) f)

      -- an image that was read, or not
      pub decided_unread : (why : Refused) → Err why ≡ image_decision (read_of (image_part input)) → Err why ≡ decision_of input
      decided_unread why f = decided_image (Err why) f

      pub decided_tested : (t : Table) → Ok t ≡ image_decision (read_of (image_part input))
          → (members : ℕ) → members ≡ number_of (take 8 (drop (image_length One) input)) → (list : EntryList) → list ≡ held_entries (drop fixed_length input)
          → (r : Result Grown TestRefusal) → r ≡ test_of t members (entries_of list) → test_decision r ≡ decision_of input
      unfolding members_of list_of
      decided_tested t f members m list c r g =
          ap test_decision (g ∙ ap₂ (λ (x : ℕ) (y : EntryList). test_of t x (entries_of y)) m c ∙ test_bytes t (members_of input) (drop fixed_length input))
          ∙ decided_image (Ok t) f

-- every number has at most two digits -------------------------------------------------
abbrev pub Small : {A : Type 0} → Result A Refused → Type 0
Small r = IfErr r (λ (why : Refused). why.number < 100)

refusal_small : (why : TestRefusal) → refusal_number why < 100
refusal_small TableUnsound = omega arith
refusal_small MembersInvalid = omega arith
refusal_small ListInvalid = omega arith
refusal_small RightUnlisted = omega arith
refusal_small MemberHeld = omega arith

tested_small : (r : Result Grown TestRefusal) → Small (test_decision r)
tested_small (Ok g) = tt
tested_small (Err why) = refusal_small why

read_small : (why : ReadRefusal) → read_number why < 100
read_small R.TableUnsound = omega arith
read_small R.LengthWrong = omega arith
read_small R.VersionWrong = omega arith

loaded_small : (l : Result Table ReadRefusal) (input : List ℕ) → Small (loaded_decision (image_decision l) input)
loaded_small (Ok t) input = tested_small (test_of t (members_of input) (list_of input))
loaded_small (Err why) input = read_small why

pub decision_small : (input : List ℕ) → Small (decision_of input)
unfolding decision_of
decision_small input = by_cases (wrong_length input)
    (λ e. rw (e, decision_of) (omega arith))
    (λ e. by_cases (other_version input)
    (λ o. rw (e, o, decision_of) (omega arith))
    (λ o. rw (e, o, decision_of) (loaded_small (read_of (image_part input)) input)))
