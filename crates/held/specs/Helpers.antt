-- What slots hold, as words: which numbers a holding joins, without wk its bonds and with wk its links; whether slots of a set reach out of it;
-- and one capability more of a holder.
use Rattle.std.specs.Prelude.{Bool, not, ◌&&◌, ◌||◌, true, false, List, ℕ, ◌+◌, ◌-◌, ◌*◌, ◌^◌, eqb, ◌≡◌}
use Rattle.mask.specs.Sets.{has, any_below, including}
use Rattle.table.specs.declared.Capability.{Capability}
use Rattle.table.specs.Cells.{slot_of, has_wk}
use Rattle.relation.specs.Relation.{wk, Holding}
use Rattle.relation.specs.Closure.{holds_strong}
use Rattle.links.specs.Links.{has_strong}
use Rattle.links.specs.Helpers.{edge_if}
use Rattle.held.specs.declared.Holds.{Holds}

-- x is joined to y where one holds rd, wr or tx over the other, and, by wk, where y holds wk over x
unfoldable pub joins_either : Bool → Holding → ℕ → ℕ → Bool
joins_either weakly h x y = holds_strong h x y || (holds_strong h y x || (weakly && h.held wk y x))

-- a slot of x that has some right names y, both in the set
unfoldable pub slot_named : List Capability → ℕ → ℕ → ℕ → Bool
slot_named slots among x y =
    has x among && (has y among && any_below 8 (λ j. eqb (slot_of slots (x * 8 + j)).target y && not (eqb (slot_of slots (x * 8 + j)).rights 0)))

-- a capability with a right over a number outside the set
abbrev pub is_astray : ℕ → Capability → Bool
is_astray among c = not (eqb c.rights 0) && not (has c.target among)

-- a number of the set holds one
unfoldable pub held_astray : List Capability → ℕ → Bool
held_astray slots among = any_below 64 (λ x. has x among && any_below 8 (λ j. is_astray among (slot_of slots (x * 8 + j))))

unfoldable pub include_if : Bool → ℕ → ℕ → ℕ
include_if true n set = including n set
include_if false n set = set

-- the set of all the numbers
abbrev pub everyone : ℕ
everyone = 2 ^ 64 - 1

-- the capability counts by rd, wr or tx, by wk, and by any right
abbrev pub strong_on : ℕ → Capability → Bool
strong_on among c = has c.target among && has_strong c.rights

abbrev pub weak_on : ℕ → Capability → Bool
weak_on among c = has c.target among && has_wk c.rights

abbrev pub over_on : ℕ → Capability → Bool
over_on among c = has c.target among && not (eqb c.rights 0)

-- by what joins two numbers
abbrev pub join_on : Bool → ℕ → Capability → Bool
join_on weakly among c = strong_on among c || (weakly && weak_on among c)

-- one capability more, with some right
pub record Noted (weakly : Bool) (x : ℕ) (c : Capability) (h r : Holds) (before after : List ℕ) : Type 0 where
  pub strong : r.strong ≡ include_if (strong_on everyone c) c.target h.strong
  pub over : r.over ≡ include_if (has c.target everyone) c.target h.over
  pub astray : r.astray ≡ (h.astray || not (has c.target everyone))
  pub joins : after ≡ edge_if (join_on weakly everyone c) before c.target x
