-- Document 01, "Why something is turned down", rows 1 and 10 to 13, in number order; row 12 as document 02, 2.3 amends it.
use Rattle.std.specs.Prelude.{Bool, true, false, not, ◌&&◌, ◌||◌, List, ℕ, ltb, eqb, length, Result, Ok, Err, ⊤}
use Rattle.mask.specs.Sets.{has, any_below}
use Rattle.table.specs.declared.Capability.{Capability}
use Rattle.table.specs.declared.Table.{Table}
use Rattle.table.specs.Cells.{record_at, slot_at, is_alive, is_empty}
use Rattle.table.specs.Soundness.{sound}
use Rattle.relation.specs.Relation.{Right, rd, wr, wk, tx, bit_at, takes_part}
use Rattle.confinement.specs.declared.TestRefusal.{TestRefusal}
use Rattle.confinement.specs.declared.TestRefusal.TheVariants.{TableUnsound, MembersInvalid, ListInvalid, RightUnlisted, MemberHeld}
use Rattle.bounds.specs.StandIn.{entry_at, listed}

abbrev pub refusal_number : TestRefusal → ℕ
refusal_number TableUnsound = 1
refusal_number MembersInvalid = 10
refusal_number ListInvalid = 11
refusal_number RightUnlisted = 12
refusal_number MemberHeld = 13

-- accepted, or why the test was refused
abbrev pub Verdict : Type 0
Verdict = Result ⊤ TestRefusal

abbrev pub Accepted : Verdict
Accepted = Ok tt

-- 0 is accepted
abbrev pub verdict_number : Verdict → ℕ
verdict_number (Ok _) = 0
verdict_number (Err why) = refusal_number why

-- the refusal where the cause holds, else what is left to check
abbrev pub refuse : Bool → TestRefusal → Verdict → Verdict
refuse true why rest = Err why
refuse false why rest = rest

-- row 10: "members empty, or one not alive"
unfoldable pub bad_members : Table → ℕ → Bool
bad_members t members =
    not (any_below 64 (λ n. has n members)) || any_below 64 (λ n. has n members && not (is_alive (record_at t n)))

-- row 11: "list above 8, rights 0 or above 15, or target not a born non-member"
unfoldable pub bad_entry : Table → ℕ → Capability → Bool
bad_entry t members e =
    eqb e.rights 0 || ltb 15 e.rights || not (takes_part t e.target) || has e.target members

unfoldable pub bad_list : Table → ℕ → List Capability → Bool
bad_list t members list = ltb 8 (length list) || any_below (length list) (λ k. bad_entry t members (entry_at list k))

-- the right is absent from the capability, or listed for its target
abbrev pub right_listed : List Capability → Capability → Right → Bool
right_listed list c b = not (has (bit_at b) c.rights) || listed list b c.target

-- each right of the capability is listed for its target
unfoldable pub all_listed : List Capability → Capability → Bool
all_listed list c = right_listed list c rd && right_listed list c wr && right_listed list c wk && right_listed list c tx

-- document 02, 2.3: "a member's capability whose rights are exactly wk passes the test unlisted"; any other one needs each of its
-- rights listed
unfoldable pub passes : List Capability → Capability → Bool
passes list c = eqb c.rights 4 || all_listed list c

-- row 12, as 2.3 amends it: "a member's capability to a non-member has a right not listed for it", and its rights are not exactly wk
unfoldable pub bad_held : Table → ℕ → List Capability → Bool
bad_held t members list =
    any_below 64 (λ n. has n members && any_below 8 (λ j. not (has (slot_at t n j).target members) && not (passes list (slot_at t n j))))

-- row 13: "a non-member holds a capability naming a member"
unfoldable pub member_held : Table → ℕ → Bool
member_held t members =
    any_below 64 (λ n. not (has n members) && any_below 8 (λ j. not (is_empty (slot_at t n j)) && has (slot_at t n j).target members))

-- rows 1, 10, 11, 12, 13
unfoldable pub verdict_of : Table → ℕ → List Capability → Verdict
verdict_of t members list =
    refuse (not (sound t)) TableUnsound
    (refuse (bad_members t members) MembersInvalid
    (refuse (bad_list t members list) ListInvalid
    (refuse (bad_held t members list) RightUnlisted (refuse (member_held t members) MemberHeld Accepted))))
