-- The entries of a test as the code holds them: by whether a byte is left over and how many there are; and that the test answers the list
-- that is held as it answers the list of the bytes. A longer one is held by its count alone: rows 1 and 10 ask nothing of the list, and row
-- 11 refuses every list that is too long. Assumes nothing.
use mathlib.Core.Path.{◌≡◌, refl, sym, ◌∙◌, ap}
use mathlib.Core.Logic.{◌≢◌}
use mathlib.Core.Bool.{true}
use mathlib.Core.List.{List}
use Prim.Native.Nat.{ℕ, ◌/◌, ◌%◌, ◌≤◌, ◌<◌}
use native.Mathlib.Omega.{arith}
use lib.Dec.{leb}
use lib.ListN.{length, get_or, replicate}
use borrow.Author.Tests.{eq-eqb, ne_eqb, le-leb, lt-leb, leb-true, leb-false}
use Rattle.mask.proofs.Tests.{by_cases, by_eq}
use Rattle.table.specs.declared.Capability.{Capability}
use Rattle.table.specs.declared.Table.{Table}
use Rattle.table.specs.Cells.{empty_slot}
use Rattle.table.specs.Lists.{tabulate, padded}
use Rattle.table.specs.Soundness.{sound}
use Rattle.table.proofs.Lists.{length_tabulate, padded_all}
use Rattle.octets.proofs.Lists.{tabulate_is}
use Rattle.access.specs.Answers.{born_outside}
use Rattle.bounds.specs.declared.EntryList.{EntryList}
use Rattle.bounds.specs.StandIn.{entries_of}
use Rattle.confinement.specs.Refusals.{bad_members}
use Rattle.confinement.specs.Tests.{test_of}
use Rattle.confinement.proofs.Scans.{list_long}
use Rattle.confinement.proofs.Verdicts.{test_1, test_10, test_11}
use Rattle.entries.specs.Entries.{entry_in, entries_in, held_entries}

abbrev too_long : EntryList
too_long = record { count = 9; entries = replicate 8 empty_slot }

-- what is held ---------------------------------------------------------------------------
module _ (bytes : List ℕ) where
  pub held_odd : length bytes % 2 ≢ 0 → too_long ≡ held_entries bytes
  unfolding held_entries
  held_odd h = rw (ne_eqb (length bytes % 2) 0 h, held_entries) refl

  pub held_long : length bytes % 2 ≡ 0 → 8 < length bytes / 2 → too_long ≡ held_entries bytes
  unfolding held_entries
  held_long e h = rw (eq-eqb (length bytes % 2) 0 e, lt-leb (length bytes / 2) 8 h, held_entries) refl

  pub held_short : length bytes % 2 ≡ 0 → length bytes / 2 ≤ 8 → (entries : List Capability) → entries ≡ padded 8 empty_slot (tabulate (length bytes / 2) (entry_in bytes))
      → ◌≡◌ {A = EntryList} (record { count = length bytes / 2; entries = entries }) (held_entries bytes)
  unfolding held_entries
  held_short e h entries f = rw (eq-eqb (length bytes % 2) 0 e, le-leb (length bytes / 2) 8 h, f, held_entries) refl

  -- the list of the bytes
  entries_whole : length bytes % 2 ≡ 0 → entries_in bytes ≡ tabulate (length bytes / 2) (entry_in bytes)
  unfolding entries_in
  entries_whole e = rw (eq-eqb (length bytes % 2) 0 e, entries_in) refl

  entries_odd : length bytes % 2 ≢ 0 → entries_in bytes ≡ replicate 9 empty_slot
  unfolding entries_in
  entries_odd h = rw (ne_eqb (length bytes % 2) 0 h, entries_in) refl

-- a list of its own length is held whole by all of its entries
list_whole : (list : List Capability) → entries_of (record { count = length list; entries = list }) ≡ list
unfolding entries_of
list_whole list = tabulate_is (length list) _ empty_slot list refl (λ k h. refl)

-- the test of what is held --------------------------------------------------------------
-- lists above eight are answered alike, whatever their entries
test_long : (t : Table) (members : ℕ) (a b : EntryList) → 8 < a.count → 8 < b.count → test_of t members (entries_of a) ≡ test_of t members (entries_of b)
test_long t members a b ha hb =
    let o = born_outside t.records members in
    by_cases (sound t)
    (λ s. by_cases (bad_members t members)
    (λ m. sym (test_10 t members (entries_of a) _ refl s _ refl m) ∙ test_10 t members (entries_of b) _ refl s _ refl m)
    (λ m. sym (test_11 t members (entries_of a) _ refl s _ refl m o refl true (list_long o a ha) refl)
    ∙ test_11 t members (entries_of b) _ refl s _ refl m o refl true (list_long o b hb) refl))
    (λ s. sym (test_1 t members (entries_of a) _ refl s) ∙ test_1 t members (entries_of b) _ refl s)

-- one that is too long as any list above eight
long_any : (t : Table) (members : ℕ) (list : List Capability) → 8 < length list → test_of t members (entries_of too_long) ≡ test_of t members list
long_any t members list h = test_long t members too_long (record { count = length list; entries = list }) (omega arith) h ∙ ap (test_of t members) (list_whole list)

held_whole : (bytes : List ℕ) → length bytes % 2 ≡ 0 → length bytes / 2 ≤ 8 → entries_of (held_entries bytes) ≡ entries_in bytes
unfolding entries_of
held_whole bytes e h =
    let n = length bytes / 2 in
    let list = tabulate n (entry_in bytes) in
    let z = length_tabulate n (entry_in bytes) in
    ap entries_of (sym (held_short bytes e h _ refl))
    ∙ ap (λ (k : ℕ). tabulate k (λ i. get_or (padded 8 empty_slot list) i empty_slot)) (sym z) ∙ padded_all 8 empty_slot list (omega arith) ∙ sym (entries_whole bytes e)

-- bytes that are held whole, or as a list that is too long, which they are
pub by_length : {P : Type 0} (bytes : List ℕ) → (entries_of (held_entries bytes) ≡ entries_in bytes → P) → (8 < length (entries_in bytes) → held_entries bytes ≡ too_long → P) → P
by_length bytes f g =
    by_eq (length bytes % 2) 0
    (λ e. by_cases (leb (length bytes / 2) 8)
    (λ q. f (held_whole bytes e (leb-true (length bytes / 2) 8 q)))
    (λ q. let h = leb-false (length bytes / 2) 8 q in
    g (rw (entries_whole bytes e, length_tabulate (length bytes / 2) (entry_in bytes)) h) (sym (held_long bytes e h))))
    (λ n. g (rw (entries_odd bytes n) (omega arith)) (sym (held_odd bytes n)))

pub test_bytes : (t : Table) (members : ℕ) (bytes : List ℕ) → test_of t members (entries_of (held_entries bytes)) ≡ test_of t members (entries_in bytes)
test_bytes t members bytes = by_length bytes
    (ap (test_of t members))
    (λ h e. ap (λ (l : EntryList). test_of t members (entries_of l)) e ∙ long_any t members (entries_in bytes) h)
