-- The parts of the test that the code's helpers promise. They add nothing to what the test answers.
use Rattle.std.specs.Prelude.{◌≡◌, Bool, true, false, not, ◌&&◌, ◌||◌, List, ℕ, zero, suc, ltb, eqb, length}
use Rattle.mask.specs.Sets.{has, any_below, union_of}
use Rattle.table.specs.declared.Capability.{Capability}
use Rattle.table.specs.Cells.{is_empty}
use Rattle.table.specs.declared.Table.{Table}
use Rattle.table.specs.Soundness.{sound}
use Rattle.access.specs.Answers.{born_outside}
use Rattle.bounds.specs.declared.EntryList.{EntryList}
use Rattle.bounds.specs.StandIn.{entries_of, entry_at}
use Rattle.confinement.specs.declared.Admitted.{Admitted}
use Rattle.confinement.specs.Refusals.{bad_members, passes}

-- row 11 by the set of born non-members
abbrev pub entry_refused : ℕ → Capability → Bool
entry_refused outside e = eqb e.rights 0 || ltb 15 e.rights || not (has e.target outside)

unfoldable pub list_refused : ℕ → List Capability → Bool
list_refused outside list = ltb 8 (length list) || any_below (length list) (λ k. entry_refused outside (entry_at list k))

-- the rights that the first n entries have for a target: their union
unfoldable pub listed_to : List Capability → ℕ → ℕ → ℕ
listed_to list y zero = 0
listed_to list y (suc n) =
    elim (eqb (entry_at list n).target y) [ true ↦ union_of (listed_to list y n) (entry_at list n).rights | false ↦ listed_to list y n ]

-- those of the whole list
unfoldable pub listed_rights : List Capability → ℕ → ℕ
listed_rights list y = listed_to list y (length list)

-- row 12 at a slot of n
abbrev pub slot_unlisted : ℕ → List Capability → ℕ → Capability → Bool
slot_unlisted members list n c = has n members && (not (has c.target members) && not (passes list c))

-- row 13 at a slot of n
abbrev pub slot_names_member : ℕ → ℕ → Capability → Bool
slot_names_member members n c = not (has n members) && (not (is_empty c) && has c.target members)

-- what rows 1, 10 and 11 let pass
abbrev pub IsAdmitted : Table → ℕ → EntryList → Admitted → Type 0
IsAdmitted t members list a = (a.list.list ≡ list) × (a.outside ≡ born_outside t.records members)
    × (sound t ≡ true) × (bad_members t members ≡ false) × (list_refused a.outside (entries_of list) ≡ false)
