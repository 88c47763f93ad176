-- The laws of the walk: what was found of several, one more, and where it stops; and bytes by their place. By what was found first.
-- Assumes nothing.
use mathlib.Core.Path.{◌≡◌, refl, sym, ◌∙◌, ap}
use mathlib.Core.Bool.{Bool, true, false}
use mathlib.Core.List.{List, [], ◌∷◌, ◌++◌}
use Prim.Native.Nat.{ℕ, zero, suc, ◌+◌, ◌≤◌, ◌<◌}
use native.Mathlib.Numerals.{add-one}
use native.Mathlib.Omega.{arith}
use lib.ListN.{length, get_or, drop, drop_of_length-le}
use lib.Seq.{drop-cons}
use Rattle.take_grant.specs.declared.ImportRefusal.{ImportRefusal}
use Rattle.take_grant.specs.declared.ImportRefusal.TheVariants as R
use Rattle.take_grant.specs.Walk.{Found, found, stopped, and_then, byte_from, several}

-- by what was found, with the equation
pub by_found : {A P : Type 0} (f : Found A) → ((x : A) (rest : List ℕ) → f ≡ found x rest → P) → ((why : ImportRefusal) → f ≡ stopped why → P) → P
by_found (found x rest) g h = g x rest refl
by_found (stopped why) g h = h why refl

-- nothing is both found and stopped
pub not_both : {A P : Type 0} {f : Found A} {x : A} {rest : List ℕ} {why : ImportRefusal} → f ≡ found x rest → f ≡ stopped why → P
not_both p q = let z : ◌≡◌ {A = ℕ} 0 1 = cc in absurd (omega arith)

-- what comes after something that was found
pub record After {A B : Type 0} (f : Found A) (next : A → List ℕ → Found B) (y : B) (left : List ℕ) : Type 0 where
  pub first : A
  pub rest : List ℕ
  pub read : f ≡ found first rest
  pub later : next first rest ≡ found y left

pub after : {A B : Type 0} (f : Found A) (next : A → List ℕ → Found B) (y : B) (left : List ℕ) → and_then f next ≡ found y left → After f next y left
after (found x rest) next y left e = record { first = x; rest = rest; read = refl; later = e }
after (stopped why) next y left e = not_both e refl

-- a byte ------------------------------------------------------------------------------
module _ (fits : ℕ → Bool) (bytes : List ℕ) (at : ℕ) where
  pub byte_there : at < length bytes → fits (get_or bytes at 0) ≡ true → byte_from fits (drop at bytes) ≡ found (get_or bytes at 0) (drop (at + 1) bytes)
  unfolding byte_from
  byte_there h e = rw (add-one, drop-cons bytes at 0 h, e, byte_from) refl

  pub byte_none : length bytes ≤ at → byte_from fits (drop at bytes) ≡ stopped R.LengthWrong
  unfolding byte_from
  byte_none h = rw (drop_of_length-le bytes h, byte_from) refl

  pub byte_bad : at < length bytes → fits (get_or bytes at 0) ≡ false → byte_from fits (drop at bytes) ≡ stopped R.ValueWrong
  unfolding byte_from
  byte_bad h e = rw (drop-cons bytes at 0 h, e, byte_from) refl

-- several -----------------------------------------------------------------------------
module _ {A : Type 0} (item : List ℕ → Found A) where
  pub several_cons : (k : ℕ) (bytes : List ℕ) (x : A) (rest : List ℕ) (xs : List A) (left : List ℕ)
      → item bytes ≡ found x rest → several item k rest ≡ found xs left → several item (suc k) bytes ≡ found (x ∷ xs) left
  unfolding several
  several_cons k bytes x rest xs left e f = rw (e, f) refl

  several_stop : (k : ℕ) (bytes : List ℕ) (why : ImportRefusal) → item bytes ≡ stopped why → several item (suc k) bytes ≡ stopped why
  unfolding several
  several_stop k bytes why e = rw e refl

  several_later : (k : ℕ) (bytes : List ℕ) (x : A) (rest : List ℕ) (why : ImportRefusal)
      → item bytes ≡ found x rest → several item k rest ≡ stopped why → several item (suc k) bytes ≡ stopped why
  unfolding several
  several_later k bytes x rest why e f = rw (e, f) refl

  pub record Cons (k : ℕ) (bytes : List ℕ) (xs : List A) (left : List ℕ) : Type 0 where
    pub first : A
    pub rest : List ℕ
    pub others : List A
    pub read : item bytes ≡ found first rest
    pub later : several item k rest ≡ found others left
    pub all : first ∷ others ≡ xs

  pub cons_of : (k : ℕ) (bytes : List ℕ) (xs : List A) (left : List ℕ) → several item (suc k) bytes ≡ found xs left → Cons k bytes xs left
  unfolding several
  cons_of k bytes xs left e =
      let a = after (item bytes) _ xs left e in
      let b = after (several item k a.rest) _ xs left a.later in
      let f : found (a.first ∷ b.first) b.rest ≡ found xs left = b.later in
      let g : b.rest ≡ left = cc in
      record { first = a.first; rest = a.rest; others = b.first; read = a.read; later = b.read ∙ ap (found b.first) g; all = cc }

  -- none yet
  pub none_of : (bytes : List ℕ) (xs : List A) (left : List ℕ) → several item 0 bytes ≡ found xs left → (xs ≡ []) × (left ≡ bytes)
  unfolding several
  none_of bytes xs left e = (cc, cc)

  -- one more
  pub several_more : (k : ℕ) (bytes : List ℕ) (xs : List A) (rest : List ℕ) (x : A) (left : List ℕ)
      → several item k bytes ≡ found xs rest → item rest ≡ found x left → several item (suc k) bytes ≡ found (xs ++ (x ∷ [])) left
  unfolding several
  several_more zero bytes xs rest x left e f =
      let n = none_of bytes xs rest e in
      rw n.0 (several_cons 0 bytes x left [] left (ap item (sym n.1) ∙ f) refl)
  several_more (suc k) bytes xs rest x left e f =
      let c = cons_of k bytes xs rest e in
      rw (← c.all) (several_cons (suc k) bytes c.first c.rest (c.others ++ (x ∷ [])) left c.read (several_more k c.rest c.others rest x left c.later f))

  -- the offence that comes next stops them all
  pub several_stops : (k m : ℕ) (bytes : List ℕ) (xs : List A) (rest : List ℕ) (why : ImportRefusal)
      → several item k bytes ≡ found xs rest → item rest ≡ stopped why → k < m → several item m bytes ≡ stopped why
  several_stops k zero bytes xs rest why e f h = absurd (omega arith)
  several_stops zero (suc m) bytes xs rest why e f h = several_stop m bytes why (ap item (sym (none_of bytes xs rest e).1) ∙ f)
  several_stops (suc k) (suc m) bytes xs rest why e f h =
      let c = cons_of k bytes xs rest e in
      several_later m bytes c.first c.rest why c.read (several_stops k m c.rest c.others rest why c.later f (omega arith))

  pub several_length : (k : ℕ) (bytes : List ℕ) (xs : List A) (left : List ℕ) → several item k bytes ≡ found xs left → length xs ≡ k
  several_length zero bytes xs left e = ap length (none_of bytes xs left e).0
  several_length (suc k) bytes xs left e =
      let c = cons_of k bytes xs left e in
      ap length (sym c.all) ∙ ap suc (several_length k c.rest c.others left c.later)
