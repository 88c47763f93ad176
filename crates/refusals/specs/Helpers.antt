-- The parts of a refusal that the code's helpers promise: rows 2 to 6 by their tests, what the check of a slot tells, and a list whose
-- pairs are slots. They add nothing to what a request is refused for.
use Rattle.std.specs.Prelude.{◌≡◌, Bool, true, false, ◌||◌, ℕ, ◌≤◌, ◌<◌, Result, Ok, Err, IfOk, IfErr}
use Rattle.table.specs.declared.Table.{Table}
use Rattle.table.specs.Cells.{record_at}
use Rattle.rights.specs.declared.Need.{Need}
use Rattle.requests.specs.declared.Pair.{Pair}
use Rattle.requests.specs.declared.PairList.{PairList}
use Rattle.requests.specs.Asks.{pair_at}
use Rattle.refusals.specs.declared.Refusal.TheVariants.{FieldInvalid, ActorUnfit, SlotEmpty, RightAbsent}
use Rattle.refusals.specs.declared.Opened.{Opened}
use Rattle.refusals.specs.declared.Denied.{Denied}
use Rattle.refusals.specs.Replies.{Reply, Done}
use Rattle.refusals.specs.Refusals.{refuse, no_object, no_slot, unfit, target_of, target_record, rights_of, through_slot}

-- a pair with a slot that is none
abbrev pub pair_bad : Pair → Bool
pair_bad p = no_slot p.from || no_slot p.to

-- the first of rows 2 to 6 whose cause holds; `why` is the row of a target with another status than the wanted one, 5 or 24
abbrev pub first_of : Bool → Bool → Bool → Bool → Reply → Bool → Reply
first_of bad unfitted empty other why unable =
    refuse bad (Err FieldInvalid) (refuse unfitted (Err ActorUnfit) (refuse empty (Err SlotEmpty) (refuse other why (refuse unable (Err RightAbsent) Done))))

-- row 2 for the actor and its slot s, `bad` standing for the other fields
abbrev pub bad_place : ℕ → ℕ → Bool → Bool
bad_place a s bad = no_object a || no_slot s || bad

-- rows 2 to 6 for the actor's slot s
unfoldable pub slot_rows : Table → ℕ → ℕ → Bool → ℕ → Need → Reply
slot_rows t a s bad wanted need =
    refuse (bad_place a s bad) (Err FieldInvalid) (refuse (unfit (record_at t a)) (Err ActorUnfit) (through_slot t a s wanted need Done))

-- what a request sees through the slot
abbrev pub opened_at : Table → ℕ → ℕ → Opened
opened_at t a s = record { target = target_of t a s; rights = rights_of t a s; kind = (target_record t a s).kind }

-- what the check of the slot gives: what is seen through it, beside the first of the rows where one refuses; of a place that is none,
-- zeros
unfoldable pub slot_check_of : Table → ℕ → ℕ → Bool → ℕ → Need → Result Opened Denied
slot_check_of t a s bad wanted need = elim (bad_place a s bad) [
  | true ↦ Err (record { why = FieldInvalid; seen = record { target = 0; rights = 0; kind = 0 } })
  | false ↦ elim (slot_rows t a s bad wanted need) [
    | Ok u ↦ Ok (opened_at t a s)
    | Err why ↦ Err (record { why = why; seen = opened_at t a s })
  ]
]

-- a slot that passed rows 2 to 6 in a sound table
pub record SlotOpened (t : Table) (a s : ℕ) (bad : Bool) (wanted : ℕ) (need : Need) (seen : Opened) : Type 0 where
  pub reply : slot_rows t a s bad wanted need ≡ Done
  pub target : seen.target ≡ target_of t a s
  pub rights : seen.rights ≡ rights_of t a s
  pub kind : seen.kind ≡ (target_record t a s).kind
  pub actor : a < 64
  pub slot : s < 8
  pub fields : bad ≡ false
  pub within : seen.target < 64

-- the same as an equation, with what follows of it in a sound table
pub record SlotChecked (t : Table) (a s : ℕ) (bad : Bool) (wanted : ℕ) (need : Need) (checked : Result Opened Denied) : Type 0 where
  pub whole : checked ≡ slot_check_of t a s bad wanted need
  pub opened : IfOk checked (λ seen. SlotOpened t a s bad wanted need seen)
  pub refused : IfErr checked (λ denied. slot_rows t a s bad wanted need ≡ Err denied.why)

-- a list whose pairs are slots
pub record PairsFit (l : PairList) : Type 0 where
  pub count : l.count ≤ 4
  pub pairs : (k : ℕ) → k < l.count → ((pair_at l k).from < 8) × ((pair_at l k).to < 8)
