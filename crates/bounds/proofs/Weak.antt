-- Entries of wk alone change nothing in the bound (2.3): a wk link goes to the holder, here to the stand-in, where every influence
-- already begins. What a list says of rd, wr and tx decides the bound. Assumes nothing.
use mathlib.Core.Path.{◌≡◌, refl, sym, ◌∙◌, ap, ap₂}
use mathlib.Core.Logic.{◌≢◌}
use mathlib.Core.Bool.{Bool, true, false, not, ◌&&◌, ◌||◌, false≢true}
use mathlib.Core.List.{List, ◌∷◌}
use Prim.Native.Nat.{ℕ, ◌<◌}
use lib.Dec.{eqb}
use lib.ListN.{length}
use borrow.Author.Tests.{ne_eqb}
use Rattle.mask.specs.Sets.{has, any_below}
use Rattle.mask.proofs.Tests.{by_cases, bool_ext, and_false, or_cases, or_left, or_right}
use Rattle.mask.proofs.Below.{any_first}
use Rattle.mask.proofs.Bits.{bits_ext}
use Rattle.table.specs.declared.Capability.{Capability}
use Rattle.table.specs.declared.Table.{Table}
use Rattle.relation.specs.Relation.{Right, rd, wr, wk, tx, bit_at}
use Rattle.relation.specs.Closure.{link, both_take_part, holds_strong}
use Rattle.relation.proofs.Exact.{is_strong, influenced_links, influenced_into}
use Rattle.bounds.specs.StandIn.{entry_at, listed, stand_in, test_held, test_holding, bound_of}
use Rattle.bounds.specs.Exactness.{WithWeak, none, kept, put, WeakEntriesFree}
use Rattle.bounds.proofs.Exact.{bound_lt, bound_only, bound_all}

-- entry by entry ---------------------------------------------------------------------------
-- some entry of a list passes a test
abbrev some : List Capability → (Capability → Bool) → Bool
some list p = any_below (length list) (λ k. p (entry_at list k))

some_cons : (e : Capability) (list : List Capability) (p : Capability → Bool) → some (e ∷ list) p ≡ (p e || some list p)
some_cons e list p = any_first (length list) (λ k. p (entry_at (e ∷ list) k))

-- where entries of wk alone do not pass, they can be put in
pub some_same : (p : Capability → Bool) → ((e : Capability) → e.rights ≡ 4 → p e ≡ false) → {list longer : List Capability} → WithWeak list longer
    → some longer p ≡ some list p
some_same p f none = refl
some_same p f (kept e {list} {longer} w) = some_cons e longer p ∙ ap (λ (x : Bool). p e || x) (some_same p f w) ∙ sym (some_cons e list p)
some_same p f (put e {list} {longer} q w) = some_cons e longer p ∙ ap₂ (λ (x z : Bool). x || z) (f e q) (some_same p f w)

-- what is listed ---------------------------------------------------------------------------
-- the entry is for y and has the right
abbrev pub lists : Capability → Right → ℕ → Bool
lists e b y = eqb e.target y && has (bit_at b) e.rights

pub listed_cons : (e : Capability) (list : List Capability) (b : Right) (y : ℕ) → listed (e ∷ list) b y ≡ (lists e b y || listed list b y)
unfolding listed
listed_cons e list b y = some_cons e list (λ c. lists c b y)

-- wk alone has none of the others
weak_bit : (b : Right) → is_strong b ≡ true → has (bit_at b) 4 ≡ false
weak_bit rd s = refl
weak_bit wr s = refl
weak_bit wk s = absurd (false≢true s)
weak_bit tx s = refl

weak_lists : (e : Capability) (b : Right) (y : ℕ) → e.rights ≡ 4 → is_strong b ≡ true → lists e b y ≡ false
weak_lists e b y q s = ap (λ (r : ℕ). eqb e.target y && has (bit_at b) r) q ∙ ap (λ (x : Bool). eqb e.target y && x) (weak_bit b s) ∙ and_false (eqb e.target y)

pub listed_strong : {list longer : List Capability} → WithWeak list longer → (b : Right) (y : ℕ) → is_strong b ≡ true → listed longer b y ≡ listed list b y
unfolding listed
listed_strong w b y s = some_same (λ e. lists e b y) (λ e q. weak_lists e b y q s) w

-- and nothing is listed no more
pub listed_still : {list longer : List Capability} → WithWeak list longer → (b : Right) (y : ℕ) → listed list b y ≡ true → listed longer b y ≡ true
listed_still none b y h = h
listed_still (kept e {list} {longer} w) b y h = listed_cons e longer b y ∙ or_cases (lists e b y) _ (sym (listed_cons e list b y) ∙ h)
    (λ g. or_left (lists e b y) _ g)
    (λ g. or_right (lists e b y) _ (listed_still w b y g))
listed_still (put e {list} {longer} q w) b y h = listed_cons e longer b y ∙ or_right (lists e b y) _ (listed_still w b y h)

-- two lists that agree on rd, wr and tx --------------------------------------------------------
module _ (t : Table) (members : ℕ) (list other : List Capability) (same : (b : Right) (y : ℕ) → is_strong b ≡ true → listed list b y ≡ listed other b y) where
  held_strong : (b : Right) (x y : ℕ) → is_strong b ≡ true → test_held t members list b x y ≡ test_held t members other b x y
  unfolding test_held
  held_strong b x y s = by_cases (has x members)
      (λ e. rw (e, test_held) (ap (λ (w : Bool). not (has y members) && (eqb x (stand_in members) && w)) (same b y s)))
      (λ e. rw (e, test_held) refl)

  held_beside : (b : Right) (x y : ℕ) → x ≢ stand_in members → test_held t members list b x y ≡ test_held t members other b x y
  unfolding test_held
  held_beside b x y n = by_cases (has x members)
      (λ e. rw (e, ne_eqb x (stand_in members) n, test_held) refl)
      (λ e. rw (e, test_held) refl)

  link_beside : (u v : ℕ) → v ≢ stand_in members → link (test_holding t members list) u v ≡ link (test_holding t members other) u v
  unfolding link both_take_part holds_strong
  link_beside u v n = cc (
    held_strong rd u v refl,
    held_strong wr u v refl,
    held_strong tx u v refl,
    held_strong rd v u refl,
    held_strong wr v u refl,
    held_strong tx v u refl,
    held_beside wk v u n,
  )

module _ (t : Table) (members : ℕ) (list other : List Capability) (same : (b : Right) (y : ℕ) → is_strong b ≡ true → listed list b y ≡ listed other b y) where
  bound_in : (y : ℕ) → has y (bound_of t members list) ≡ true → y < 64 → has y (bound_of t members other) ≡ true
  bound_in y e h =
      let p = bound_only t members list y h e in
      bound_all t members other y h p.0 (influenced_into (test_holding t members list) (test_holding t members other) (stand_in members) y
      (influenced_links (test_holding t members list) p.1).0
      (λ u v n l. sym (link_beside t members list other same u v n) ∙ l) p.1)

pub bound_strong : (t : Table) (members : ℕ) (list other : List Capability) → ((b : Right) (y : ℕ) → is_strong b ≡ true → listed list b y ≡ listed other b y)
    → bound_of t members list ≡ bound_of t members other
bound_strong t members list other same = bits_ext 64 _ _ (bound_lt t members list) (bound_lt t members other) (λ y h. bool_ext _ _
    (λ e. bound_in t members list other same y e h)
    (λ e. bound_in t members other list (λ b z s. sym (same b z s)) y e h))

-- the statement ----------------------------------------------------------------------------------
pub weak_entries_free : WeakEntriesFree
unfolding WeakEntriesFree
weak_entries_free t members list longer w = bound_strong t members longer list (listed_strong w)
