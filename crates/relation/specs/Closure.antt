-- The closure that computes potential access and influenced sets, by reachability in two graphs on the numbers below 64.
-- Exactness.antt states that it is the least relation of Relation.antt, for holdings of numbers below 64.
use Rattle.std.specs.Prelude.{Bool, true, false, ◌&&◌, ◌||◌, ℕ, zero, suc, eqb}
use Rattle.mask.specs.Sets.{has, bits, any_below}
use Rattle.relation.specs.Relation.{Right, rd, wr, wk, tx, Holding}

-- a round: what is there, and what is one edge from it
unfoldable pub grow : (ℕ → ℕ → Bool) → ℕ → ℕ
grow edge s = bits 64 (λ y. has y s || any_below 64 (λ x. has x s && edge x y))

-- rounds until one adds nothing, at most so many
unfoldable pub spread : ℕ → (ℕ → ℕ → Bool) → ℕ → ℕ
spread zero edge s = s
spread (suc n) edge s = elim (eqb (grow edge s) s) [ true ↦ s | false ↦ spread n edge (grow edge s) ]

-- x alone
unfoldable pub only : ℕ → ℕ
only x = bits 64 (λ y. eqb y x)

-- as many rounds as 64 numbers can take
abbrev pub most_rounds : ℕ
most_rounds = 63

-- what paths of edges reach from x
unfoldable pub reached : (ℕ → ℕ → Bool) → ℕ → ℕ
reached edge x = spread most_rounds edge (only x)

unfoldable pub both_take_part : Holding → ℕ → ℕ → Bool
both_take_part h x y = h.node x && h.node y

-- x holds rd, wr or tx over y
unfoldable pub holds_strong : Holding → ℕ → ℕ → Bool
holds_strong h x y = h.held rd x y || h.held wr x y || h.held tx x y

-- a bond: rd, wr or tx, taken either way
unfoldable pub bond : Holding → ℕ → ℕ → Bool
bond h x y = both_take_part h x y && (holds_strong h x y || holds_strong h y x)

-- a link from x to y: a bond, or a wk taken from target to holder
unfoldable pub link : Holding → ℕ → ℕ → Bool
link h x y = both_take_part h x y && (holds_strong h x y || holds_strong h y x || h.held wk y x)

-- the same link taken back, from holder to target
abbrev pub link_back : Holding → ℕ → ℕ → Bool
link_back h x y = link h y x

-- rd, wr and tx go by bonds, wk by links
abbrev pub edge_of : Holding → Right → ℕ → ℕ → Bool
edge_of h rd = bond h
edge_of h wr = bond h
edge_of h wk = link_back h
edge_of h tx = bond h

-- the numbers over which x has the right
unfoldable pub row_of : Holding → Right → ℕ → ℕ
row_of h b x = elim (h.node x) [ true ↦ reached (edge_of h b) x | false ↦ 0 ]

-- the influenced set of x
unfoldable pub influenced_set : Holding → ℕ → ℕ
influenced_set h x = elim (h.node x) [ true ↦ reached (link h) x | false ↦ 0 ]
