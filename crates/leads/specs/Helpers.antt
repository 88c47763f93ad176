-- Groups as words: of a set of numbers, what each is joined to through others, whom a group leads to in one step, and whom in any number of
-- steps; and, on the way there, numbers whose rows are settled and a way on from a number.
use Rattle.std.specs.Prelude.{◌≡◌, ◌≢◌, Bool, true, false, List, ℕ, ◌^◌, ◌<◌, length, get_or}
use Rattle.mask.specs.Sets.{has, union_of}
use Rattle.table.specs.Lists.{tabulate}
use Rattle.relation.specs.Closure.{reached}
use Rattle.sweeps.specs.Helpers.{near_of}
use Rattle.links.specs.Links.{word_edge}

-- who is joined is so either way, and is in the set
pub record Joining (among : ℕ) (edge : ℕ → ℕ → Bool) : Type 0 where
  pub either : (u v : ℕ) → edge u v ≡ true → edge v u ≡ true
  pub within : (u v : ℕ) → edge u v ≡ true → (u < 64) × (has u among ≡ true)

-- a word for each number of the set, none for any other
abbrev pub words_among : ℕ → (ℕ → ℕ) → List ℕ
words_among among word = tabulate 64 (λ x. elim (has x among) as (λ b. ℕ) [ true ↦ word x | false ↦ 0 ])

unfoldable pub group_words : (ℕ → ℕ → Bool) → ℕ → List ℕ
group_words edge among = words_among among (reached edge)

-- a group, and what is one edge of the second kind from it
unfoldable pub group_links : (ℕ → ℕ → Bool) → (ℕ → ℕ → Bool) → ℕ → List ℕ
group_links edge weak among = words_among among (λ x. union_of (reached edge x) (near_of weak (reached edge x)))

unfoldable pub led_words : (ℕ → ℕ → Bool) → ℕ → List ℕ
led_words edge among = words_among among (reached edge)

-- numbers of groups that lead on, with one group more
pub record LeadingWith (leading group led r : ℕ) : Type 0 where
  pub kept : (u : ℕ) → u < 64 → has u leading ≡ true → has u r ≡ true
  pub more : led ≢ group → (u : ℕ) → u < 64 → has u group ≡ true → has u r ≡ true

-- a group of the set that is not among those that lead on leads to itself alone
abbrev pub EndsThere : ℕ → ℕ → List ℕ → List ℕ → Type 0
EndsThere among leading groups links = (u : ℕ) → u < 64 → has u among ≡ true → has u leading ≡ false → get_or links u 0 ≡ get_or groups u 0

-- words of groups and of whom they lead to: who is in the group of u has the same links, which have the group, and whoever is led to is in
-- a group, its own
pub record Leading (groups links : List ℕ) : Type 0 where
  pub long : length links ≡ 64
  pub fits : (u : ℕ) → get_or links u 0 < 2 ^ 64
  pub many : length groups ≡ 64
  pub bare : (u : ℕ) → u < 64 → has u (get_or groups u 0) ≡ false → get_or groups u 0 ≡ 0
  pub mates : (u v : ℕ) → u < 64 → v < 64 → has v (get_or groups u 0) ≡ true → (has v (get_or groups v 0) ≡ true) × (get_or links v 0 ≡ get_or links u 0)
  pub inside : (u v : ℕ) → u < 64 → v < 64 → has v (get_or groups u 0) ≡ true → has v (get_or links u 0) ≡ true
  pub led : (u v : ℕ) → u < 64 → v < 64 → has v (get_or links u 0) ≡ true → has v (get_or groups v 0) ≡ true

-- the row of a settled number is all that is reached from it, and the row of one in no group is empty
pub record Settled (groups links : List ℕ) (settled : ℕ) (rows : List ℕ) : Type 0 where
  pub long : length rows ≡ 64
  pub part : (u : ℕ) → u < 64 → has u settled ≡ true → has u (get_or groups u 0) ≡ true
  pub row : (u : ℕ) → u < 64 → has u settled ≡ true → get_or rows u 0 ≡ reached (word_edge links) u
  pub rest : (u : ℕ) → u < 64 → has u (get_or groups u 0) ≡ false → get_or rows u 0 ≡ 0

-- more numbers are settled, x among them
pub record SettledWith (groups links : List ℕ) (settled x r : ℕ) (rows : List ℕ) : Type 0 where
  pub now : Settled groups links r rows
  pub more : (u : ℕ) → u < 64 → has u settled ≡ true → has u r ≡ true
  pub own : has x r ≡ true
