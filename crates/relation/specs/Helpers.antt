-- The relation as the code holds it: 256 words, of which the word at 64 times the right's place plus x has the numbers over which
-- x has the right. Each rule of Relation.antt is a feed: where one word has y, another is joined into a third. What the code's
-- functions promise of such words is said here; that the saturated words are the closure is proofs/Saturation.antt.
-- Last, how many numbers a set has, which is how often a sweep through it goes on.
use Rattle.std.specs.Prelude.{◌≡◌, true, false, List, [], ◌∷◌, ℕ, zero, suc, ◌+◌, ◌*◌, ◌/◌, ◌%◌, ◌^◌, ◌<◌, length, get_or, set}
use Rattle.std.specs.Int.Bits.{bit_or}
use Rattle.mask.specs.Sets.{has, bit_of}
use Rattle.relation.specs.Relation.{Right, rd, wr, wk, tx, bit_at, Holding, Can}

abbrev pub place : Right → ℕ → ℕ
place b x = bit_at b * 64 + x

abbrev pub word_at : List ℕ → Right → ℕ → ℕ
word_at r b x = get_or r (place b x) 0

-- 256 words of 64 bits
pub record Full (r : List ℕ) : Type 0 where
  pub long : length r ≡ 256
  pub fits : (i : ℕ) → get_or r i 0 < 2 ^ 64

-- the rules ---------------------------------------------------------------------
-- where the word at `gate` has `over`, the word at `src` is joined into the word at `dst`
pub record Feed : Type 0 where
  pub gate : ℕ
  pub over : ℕ
  pub dst : ℕ
  pub src : ℕ

unfoldable pub feed : List ℕ → Feed → List ℕ
feed r f = elim (has f.over (get_or r f.gate 0)) [ true ↦ set r f.dst (bit_or (get_or r f.dst 0) (get_or r f.src 0)) | false ↦ r ]

unfoldable pub feed_all : List ℕ → List Feed → List ℕ
feed_all r [] = r
feed_all r (f ∷ fs) = feed_all (feed r f) fs

-- where x has the right at g over y, u comes to have every right that v has
unfoldable pub shares : ℕ → ℕ → ℕ → ℕ → ℕ → List Feed
shares g x y u v =
    record { gate = g * 64 + x; over = y; dst = 0 * 64 + u; src = 0 * 64 + v }
    ∷ record { gate = g * 64 + x; over = y; dst = 1 * 64 + u; src = 1 * 64 + v }
    ∷ record { gate = g * 64 + x; over = y; dst = 2 * 64 + u; src = 2 * 64 + v }
    ∷ record { gate = g * 64 + x; over = y; dst = 3 * 64 + u; src = 3 * 64 + v }
    ∷ []

-- "If x has rd over y, x has every right that y has", right by right
abbrev pub via_read : Right → ℕ → ℕ → Feed
via_read b x y = record { gate = place rd x; over = y; dst = place b x; src = place b y }

-- "If x has wk over y and y has rd or wk over z, x has wk over z"
abbrev pub via_weak : Right → ℕ → ℕ → Feed
via_weak b x y = record { gate = place wk x; over = y; dst = place wk x; src = place b y }

-- "If x has wr or tx over y, y has every right that x has"
abbrev pub via_push : Right → Right → ℕ → ℕ → Feed
via_push g b x y = record { gate = place g x; over = y; dst = place b y; src = place b x }

-- every rule at the pair x, y
unfoldable pub rules : ℕ → ℕ → List Feed
rules x y =
    via_read rd x y ∷ via_read wr x y ∷ via_read wk x y ∷ via_read tx x y
    ∷ via_weak rd x y ∷ via_weak wk x y
    ∷ via_push wr rd x y ∷ via_push wr wr x y ∷ via_push wr wk x y ∷ via_push wr tx x y
    ∷ via_push tx rd x y ∷ via_push tx wr x y ∷ via_push tx wk x y ∷ via_push tx tx x y
    ∷ []

-- the numbers over which x has some right
abbrev pub held_over : List ℕ → ℕ → ℕ
held_over r x = bit_or (bit_or (bit_or (get_or r x 0) (get_or r (64 + x) 0)) (get_or r (128 + x) 0)) (get_or r (192 + x) 0)

-- the rules at the first k pairs of the holder x
unfoldable pub row_pass : List ℕ → ℕ → ℕ → List ℕ
row_pass r x zero = r
row_pass r x (suc k) = feed_all (row_pass r x k) (rules x k)

-- the rules at the first k pairs
unfoldable pub pass_of : List ℕ → ℕ → List ℕ
pass_of r zero = r
pass_of r (suc k) = feed_all (pass_of r k) (rules (k / 64) (k % 64))

-- rules that add nothing
abbrev pub AddsNothing : List ℕ → List Feed → Type 0
AddsNothing r [] = Unit {0}
AddsNothing r (f ∷ fs) = (feed r f ≡ r) × AddsNothing r fs

-- what running the rules owes --------------------------------------------------------
-- words of the same size that have whatever the first had
pub record Kept (r s : List ℕ) : Type 0 where
  pub long : length s ≡ length r
  pub fits : ((i : ℕ) → get_or r i 0 < 2 ^ 64) → (i : ℕ) → get_or s i 0 < 2 ^ 64
  pub bits : (i k : ℕ) → has k (get_or r i 0) ≡ true → has k (get_or s i 0) ≡ true

-- nothing in the words but what the rules give
abbrev pub Derived : Holding → List ℕ → Type 0
Derived h r = (b : Right) (x y : ℕ) → x < 64 → y < 64 → has y (word_at r b x) ≡ true → Can h b x y

-- the rules ran from s until nothing was added
pub record Saturated (s r : List ℕ) : Type 0 where
  pub kept : Kept s r
  pub derived : (h : Holding) → Derived h s → Derived h r
  pub closed : (i : ℕ) → i < 4096 → AddsNothing r (rules (i / 64) (i % 64))

-- how many numbers below n a set has ------------------------------------------
unfoldable pub count : ℕ → ℕ → ℕ
count zero s = 0
count (suc n) s = count n s + bit_of (has n s)
