-- Document 01, "Table K and twelve examples": the twelve, word for word, as one statement. A field is an example.
use Rattle.std.specs.Prelude.{◌≡◌, List, [], ◌∷◌, ◌++◌, ℕ, ◌^◌, take, set}
use Rattle.table.specs.declared.Capability.{Capability}
use Rattle.table.specs.declared.Table.{Table}
use Rattle.table.specs.Cells.{record_at, stock_at, put_slot, empty_slot}
use Rattle.rights.specs.Rows.{weaken}
use Rattle.requests.specs.Asks.{Ask, read, write, allocate}
use Rattle.refusals.specs.Replies.{number}
use Rattle.refusals.specs.Refusals.{refusal}
use Rattle.steps.specs.Steps.{after, step_of}
use Rattle.relation.specs.Relation.{Right, rd, wr, wk, tx, Can, table_holding}
use Rattle.confinement.specs.Refusals.{verdict_number}
use Rattle.confinement.specs.Tests.{test_of, verdict_in, bound_in}
use Rattle.octets.specs.BigEndian.{bytes_of}
use Rattle.image.specs.declared.Version.TheVariants.{One}
use Rattle.image.specs.Layout.{image_of}
use Rattle.std.specs.Result.{IsErrAnd}
use Rattle.image.specs.Images.{read_of, read_number}
use Rattle.report.specs.Printed.{printed_of}
use Rattle.examples.specs.TableK.{K, over, wr_right, wk_right}

-- a set of one number
abbrev pub the : ℕ → ℕ
the n = 2 ^ n

-- example 1 as `confine` reads it: the image, 8 bytes of members, a count byte, an entry
unfoldable pub input : List ℕ
input = image_of One K ++ bytes_of 8 (the 5) ++ (1 ∷ 1 ∷ wr_right ∷ [])

-- example 2: "5 holds (1, wk)"
unfoldable pub weak_k : Table
weak_k = put_slot K 5 0 (over 1 wk_right)

-- example 4: "0's slot 1 is (5, wk)"
unfoldable pub watched_k : Table
watched_k = put_slot K 0 1 (over 5 wk_right)

-- examples 6 and 7: "5 allocates 10, kind 1, part {11}, slot 7, no pairs", or another number
abbrev pub making : ℕ → Ask
making n = allocate 5 n 1 (the 11) 7 []

pub record Twelve : Type 0 where
  -- "accepted", "0", "1", "2", a line each
  pub one : printed_of input
      ≡ 97 ∷ 99 ∷ 99 ∷ 101 ∷ 112 ∷ 116 ∷ 101 ∷ 100 ∷ 10 ∷ 48 ∷ 10 ∷ 49 ∷ 10 ∷ 50 ∷ 10 ∷ []
  -- as 2.3 amends it: with the list (1, wk), and with the list empty
  pub two : ((verdict_number (verdict_in (test_of weak_k (the 5) (over 1 wk_right ∷ []))) ≡ 0) × (bound_in (test_of weak_k (the 5) (over 1 wk_right ∷ [])) ≡ 0))
      × ((verdict_number (verdict_in (test_of weak_k (the 5) [])) ≡ 0) × (bound_in (test_of weak_k (the 5) []) ≡ 0))
  pub three : verdict_number (verdict_in (test_of K (the 5) [])) ≡ 12
  pub four : verdict_number (verdict_in (test_of watched_k (the 5) (over 1 wr_right ∷ []))) ≡ 13
  -- whatever is listed
  pub five : (list : List Capability) → (verdict_number (verdict_in (test_of K 0 list)) ≡ 10) × (verdict_number (verdict_in (test_of K (the 10) list)) ≡ 10)
  pub six : (number (step_of K (making 10)).reply ≡ 0) × (stock_at (step_of K (making 10)).table 10 ≡ the 11) × (stock_at (step_of K (making 10)).table 5 ≡ 0)
  pub seven : number (refusal K (making 12)) ≡ 9
  pub eight : (target : ℕ) → (weaken (over target 1) ≡ over target 4) × (weaken (over target 15) ≡ over target 4) × (weaken (over target 10) ≡ empty_slot)
  pub nine : ((record_at (after K (write 4 0 7)) 3).word ≡ 7) × (number (refusal K (write 2 0 7)) ≡ 6)
  -- asked by a read
  pub ten : (number (refusal K (read 1 8)) ≡ 2) × (number (refusal K (read 1 0)) ≡ 3) × (number (refusal K (read 0 5)) ≡ 4)
  -- all four; wk alone; none: in the least relation itself
  pub eleven : ((b : Right) → Can (table_holding K) b 5 0)
      × (Can (table_holding K) wk 2 1 × (Can (table_holding K) rd 2 1 → ⊥) × (Can (table_holding K) wr 2 1 → ⊥) × (Can (table_holding K) tx 2 1 → ⊥))
      × ((b : Right) → Can (table_holding K) b 1 2 → ⊥)
  pub twelve : IsErrAnd (read_of (take 1922 (image_of One K))) (λ why. read_number why ≡ 14) × IsErrAnd (read_of (set (image_of One K) 2 0)) (λ why. read_number why ≡ 15)
