-- What ties the computed closure to the least relation, as statements: over the numbers below 64, the row of a right and the
-- influenced set hold exactly what the rules give. proofs/Exact.antt proves both.
use Rattle.std.specs.Prelude.{◌≡◌, ◌↔◌, true, ℕ, ◌<◌}
use Rattle.mask.specs.Sets.{has}
use Rattle.relation.specs.Relation.{Right, Holding, Can, Influenced}
use Rattle.relation.specs.Closure.{row_of, influenced_set}

-- a holding whose participants are numbers of a table
abbrev pub Low : Holding → Type 0
Low h = (x : ℕ) → h.node x ≡ true → x < 64

unfoldable pub AccessExact : Type 0
AccessExact = (h : Holding) → Low h → (b : Right) (x y : ℕ) → y < 64 → (has y (row_of h b x) ≡ true) ↔ Can h b x y

unfoldable pub InfluenceExact : Type 0
InfluenceExact = (h : Holding) → Low h → (x y : ℕ) → y < 64 → (has y (influenced_set h x) ≡ true) ↔ Influenced h x y
