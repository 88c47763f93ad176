-- The links of a holding as 64 words, of which word x has the numbers one link from x: the words of a table's slots, and of one
-- holder more. What walks on links, reach by rounds first, walks on these words.
use Rattle.std.specs.Prelude.{Bool, ◌&&◌, ◌||◌, List, ℕ, ◌+◌, ◌*◌, eqb, get_or}
use Rattle.mask.specs.Sets.{has, bits, any_below}
use Rattle.table.specs.declared.Capability.{Capability}
use Rattle.table.specs.Lists.{tabulate}
use Rattle.table.specs.Cells.{slot_of, has_rd, has_wr, has_wk, has_tx}
use Rattle.relation.specs.Relation.{Right, bit_at, Holding}
use Rattle.relation.specs.Closure.{link}

-- the words with these edges
abbrev pub words_of : (ℕ → ℕ → Bool) → List ℕ
words_of edge = tabulate 64 (λ u. bits 64 (edge u))

-- word x: the numbers one link from x
unfoldable pub link_words : Holding → List ℕ
link_words h = words_of (link h)

-- an edge between numbers, as words have it
abbrev pub word_edge : List ℕ → ℕ → ℕ → Bool
word_edge words x y = has y (get_or words x 0)

-- what slots hold between numbers of a set: slot j of x is at x * 8 + j
unfoldable pub slot_held : List Capability → ℕ → Right → ℕ → ℕ → Bool
slot_held slots among b x y =
    has x among
    && (has y among && any_below 8 (λ j. eqb (slot_of slots (x * 8 + j)).target y && has (bit_at b) (slot_of slots (x * 8 + j)).rights))

abbrev pub slot_holding : List Capability → ℕ → Holding
slot_holding slots among = record { node = λ n. has n among; held = slot_held slots among }

-- one holder more, x, that takes part and holds the first n entries over numbers of the set
unfoldable pub entry_held : List Capability → ℕ → ℕ → ℕ → Right → ℕ → ℕ → Bool
entry_held entries n among x b u v =
    eqb u x && (has v among && any_below n (λ k. eqb (slot_of entries k).target v && has (bit_at b) (slot_of entries k).rights))

abbrev pub with_holder : List Capability → ℕ → List Capability → ℕ → ℕ → Holding
with_holder slots among entries n x = record {
  node = λ m. has m among || eqb m x;
  held = λ b u v. slot_held slots among b u v || entry_held entries n among x b u v;
}

-- rd, wr or tx
abbrev pub has_strong : ℕ → Bool
has_strong rights = has_rd rights || has_wr rights || has_tx rights

-- the links of one capability c that `holder` holds: an rd, wr or tx either way, a wk from target to holder
unfoldable pub capability_link : ℕ → Capability → ℕ → ℕ → Bool
capability_link holder c u v =
    has_strong c.rights && (eqb u holder && eqb v c.target)
    || (has_strong c.rights || has_wk c.rights) && (eqb u c.target && eqb v holder)

-- the words with more edges
unfoldable pub joined : List ℕ → (ℕ → ℕ → Bool) → List ℕ
joined words edge = tabulate 64 (λ u. bits 64 (λ v. word_edge words u v || edge u v))

-- the links of the first n entries, held by x over numbers of the set
unfoldable pub entry_link : List Capability → ℕ → ℕ → ℕ → ℕ → ℕ → Bool
entry_link entries n among x u v = any_below n (λ k. has (slot_of entries k).target among && capability_link x (slot_of entries k) u v)
