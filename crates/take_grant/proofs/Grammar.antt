-- The walk finds exactly what the grammar has. What was found is laid out as the grammar says, a piece of the bytes for each thing that was read; and
-- what is laid out so is found. By the walk, and by how the bytes are laid out. Assumes nothing.
use mathlib.Core.Path.{◌≡◌, refl, sym, ◌∙◌, ap, ap₂, subst}
use mathlib.Core.Bool.{Bool, true}
use mathlib.Core.List.{List, [], ◌∷◌, ◌++◌, append_assoc, append-nil}
use Prim.Native.Nat.{ℕ, zero, suc, ◌+◌, ◌*◌, ◌≤◌}
use native.Mathlib.Omega.{arith}
use lib.Dec.{ltb, leb}
use lib.ListN.{length, take, drop, length-append, length-drop, take-append-drop}
use lib.Seq.{drop-cons, length-take-le}
use borrow.Author.Tests.{ltb-true, ltb-false, leb-true, leb-false, lt-ltb, le-leb}
use Rattle.mask.proofs.Tests.{by_cases, by_eq}
use Rattle.octets.specs.BigEndian.{Bytes, byte_at, bytes_of, number_of}
use Rattle.octets.proofs.BigEndian.{number_written, bytes_read}
use Rattle.octets.proofs.Parts.{beside, bytes_take}
use Rattle.take_grant.specs.declared.ImportRefusal.TheVariants as R
use Rattle.take_grant.specs.Entities.{Cap, Entity}
use Rattle.take_grant.specs.Layout.{Row, none, next, IsCapability, capability, IsEntity, entity, IsTakeGrant, table}
use Rattle.take_grant.specs.Walk.{Found, found, stopped, and_then, byte_from, several, cap_from, entity_from, at_end, entities_from, walk_of}
use Rattle.take_grant.proofs.Finds.{after, not_both, several_cons, cons_of, none_of, several_length}
use Rattle.take_grant.proofs.Heads.{walk_short, walk_length, walk_version, walk_count, walk_entities}

-- what was found is laid out so ----------------------------------------------------------
pub record Piece {A : Type 0} (Is : A → List ℕ → Type 0) (x : A) (bytes rest : List ℕ) : Type 0 where
  pub part : List ℕ
  pub is : Is x part
  pub whole : bytes ≡ part ++ rest

byte_of : (fits : ℕ → Bool) (bytes : List ℕ) (b : ℕ) (rest : List ℕ) → byte_from fits bytes ≡ found b rest → (bytes ≡ b ∷ rest) × (fits b ≡ true)
unfolding byte_from
byte_of fits [] b rest e = not_both e refl
byte_of fits (x ∷ xs) b rest e = by_cases (fits x)
    (λ q. let f : found x xs ≡ found b rest = sym (rw (q, byte_from) refl) ∙ e in let g : x ≡ b = cc in (cc, rw g at q))
    (λ q. let f : byte_from fits (x ∷ xs) ≡ stopped R.ValueWrong = rw (q, byte_from) refl in not_both e f)

cap_piece : (n : ℕ) (bytes : List ℕ) (c : Cap) (rest : List ℕ) → cap_from n bytes ≡ found c rest → Piece (IsCapability n) c bytes rest
unfolding cap_from
cap_piece n bytes c rest e =
    let a = after (byte_from (λ b. ltb b n) bytes) _ c rest e in
    let b = after (byte_from (λ b. leb b 31) a.rest) _ c rest a.later in
    let p = byte_of (λ b. ltb b n) bytes a.first a.rest a.read in
    let q = byte_of (λ b. leb b 31) a.rest b.first b.rest b.read in
    let f : found (record { entity = a.first; rights = b.first }) b.rest ≡ found c rest = b.later in
    let g : record { entity = a.first; rights = b.first } ≡ c = cc in
    let t : a.first ≡ c.entity = ap (λ (x : Cap). x.entity) g in
    let r : b.first ≡ c.rights = ap (λ (x : Cap). x.rights) g in
    record {
      part = c.entity ∷ c.rights ∷ [];
      is = capability {c = c} (omega (arith, ltb-true a.first n p.1)) (omega (arith, leb-true b.first 31 q.1));
      whole = cc;
    }

row_piece : {A : Type 0} (item : List ℕ → Found A) (Is : A → List ℕ → Type 0) → ((bytes : List ℕ) (x : A) (rest : List ℕ) → item bytes ≡ found x rest → Piece Is x bytes rest)
    → (k : ℕ) (bytes : List ℕ) (xs : List A) (rest : List ℕ) → several item k bytes ≡ found xs rest → Piece (Row Is) xs bytes rest
row_piece item Is h zero bytes xs rest e =
    let n = none_of item bytes xs rest e in
    record { part = []; is = rw n.0 none; whole = sym n.1 }
row_piece {A = A} item Is h (suc k) bytes xs rest e =
    let c = cons_of item k bytes xs rest e in
    let p = h bytes c.first c.rest c.read in
    let q = row_piece item Is h k c.rest c.others rest c.later in
    record {
      part = p.part ++ q.part;
      is = subst (λ (l : List A). Row Is l (p.part ++ q.part)) c.all (next p.is q.is);
      whole = p.whole ∙ ap (λ (l : List ℕ). p.part ++ l) q.whole ∙ sym (append_assoc p.part q.part rest);
    }

entity_piece : (n : ℕ) (bytes : List ℕ) (e : Entity) (rest : List ℕ) → entity_from n bytes ≡ found e rest → Piece (IsEntity n) e bytes rest
unfolding entity_from
entity_piece n bytes e rest f =
    let a = after (byte_from (λ b. leb b 8) bytes) _ e rest f in
    let p = byte_of (λ b. leb b 8) bytes a.first a.rest a.read in
    let l = several_length (cap_from n) a.first a.rest e rest a.later in
    let r = row_piece (cap_from n) (IsCapability n) (cap_piece n) a.first a.rest e rest a.later in
    record {
      part = length e ∷ r.part;
      is = entity {e = e} (omega (arith, leb-true a.first 8 p.1)) r.is;
      whole = p.0 ∙ ap₂ {C = List ℕ} (λ (x : ℕ) (xs : List ℕ). x ∷ xs) (sym l) r.whole;
    }

at_end_lem : (es : List Entity) (rest : List ℕ) (fs : List Entity) (left : List ℕ) → at_end es rest ≡ found fs left → (rest ≡ []) × (es ≡ fs) × (left ≡ [])
at_end_lem es [] fs left e = (refl, cc, cc)
at_end_lem es (b ∷ rest) fs left e = not_both e refl

-- as many entities as were asked for, and nothing after them
record Ended (n : ℕ) (bytes : List ℕ) (es : List Entity) (left : List ℕ) : Type 0 where
  count : length es ≡ n
  row : Row (IsEntity n) es bytes
  end : left ≡ []

ended : (n : ℕ) (bytes : List ℕ) (es : List Entity) (left : List ℕ) → entities_from n bytes ≡ found es left → Ended n bytes es left
unfolding entities_from
ended n bytes es left e =
    let a = after (several (entity_from n) n bytes) at_end es left e in
    let z = at_end_lem a.first a.rest es left a.later in
    let s : several (entity_from n) n bytes ≡ found es [] = cc in
    let p = row_piece (entity_from n) (IsEntity n) (entity_piece n) n bytes es [] s in
    record {
      count = several_length (entity_from n) n bytes es [] s;
      row = subst (Row (IsEntity n) es) (sym (p.whole ∙ append-nil p.part)) p.is;
      end = z.2;
    }

-- what a whole walk has found
pub record Walked (bytes : List ℕ) (es : List Entity) (left : List ℕ) : Type 0 where
  pub long : 4 ≤ length bytes
  pub says : number_of (take 2 bytes) ≡ length bytes
  pub versed : byte_at bytes 2 ≡ 1
  pub count : length es ≡ byte_at bytes 3
  pub few : length es ≤ 64
  pub row : Row (IsEntity (length es)) es (drop 4 bytes)
  pub end : left ≡ []

pub walked : (bytes : List ℕ) (es : List Entity) (left : List ℕ) → walk_of bytes ≡ found es left → Walked bytes es left
walked bytes es left e =
    by_cases (ltb (length bytes) 4) (λ h. not_both e (walk_short bytes (ltb-true _ 4 h)))
    (λ h. let l = ltb-false (length bytes) 4 h in
    by_eq (number_of (take 2 bytes)) (length bytes)
    (λ f. by_eq (byte_at bytes 2) 1
    (λ v. by_cases (leb (byte_at bytes 3) 64)
    (λ m. let d = ended (byte_at bytes 3) (drop 4 bytes) es left (sym (walk_entities bytes l f v (leb-true _ 64 m)) ∙ e) in
    let c = d.count in
    record { long = l; says = f; versed = v; count = c; few = omega (arith, leb-true (byte_at bytes 3) 64 m); row = rw c d.row; end = d.end })
    (λ m. not_both e (walk_count bytes l f v (leb-false _ 64 m))))
    (λ v. not_both e (walk_version bytes l f v)))
    (λ f. not_both e (walk_length bytes l f)))

-- the bytes of a walk that found entities are theirs
pub walk_laid : (bytes : List ℕ) (es : List Entity) (left : List ℕ) → Bytes bytes → walk_of bytes ≡ found es left → IsTakeGrant es bytes
walk_laid bytes es left b e =
    let w = walked bytes es left e in
    let l = w.long in
    let d = length-drop 4 bytes in
    let n : length bytes ≡ 4 + length (drop 4 bytes) = omega arith in
    let h : take 2 bytes ≡ bytes_of 2 (4 + length (drop 4 bytes)) =
    sym (bytes_read (take 2 bytes) 2 (length-take-le 2 bytes (omega arith)) (bytes_take 2 bytes b)) ∙ ap (bytes_of 2) (w.says ∙ n) in
    let t : drop 2 bytes ≡ 1 ∷ length es ∷ drop 4 bytes =
    drop-cons bytes 2 0 (omega arith) ∙ ap₂ {C = List ℕ} (λ (x : ℕ) (xs : List ℕ). x ∷ xs) w.versed
    (drop-cons bytes 3 0 (omega arith) ∙ ap (λ (x : ℕ). x ∷ drop 4 bytes) (sym w.count)) in
    subst (IsTakeGrant es) (sym (sym (take-append-drop 2 bytes) ∙ beside h t)) (table w.few w.row)

-- what is laid out so is found -------------------------------------------------------------
cap_read : (n : ℕ) (c : Cap) (bs : List ℕ) → IsCapability n c bs → (rest : List ℕ) → cap_from n (bs ++ rest) ≡ found c rest
unfolding cap_from byte_from
cap_read n c bs (capability h g) rest = rw (lt-ltb c.entity n h, byte_from, le-leb c.rights 31 g) refl

row_read : {A : Type 0} (item : List ℕ → Found A) (Is : A → List ℕ → Type 0) → ((x : A) (bs : List ℕ) → Is x bs → (rest : List ℕ) → item (bs ++ rest) ≡ found x rest)
    → (xs : List A) (bs : List ℕ) → Row Is xs bs → (rest : List ℕ) → several item (length xs) (bs ++ rest) ≡ found xs rest
unfolding several
row_read item Is h xs bs none rest = refl
row_read item Is h xs bs (next {x = x} {xs = ys} {bs = b} {rest = more} i r) rest =
    several_cons item (length ys) ((b ++ more) ++ rest) x (more ++ rest) ys rest (ap item (append_assoc b more rest) ∙ h x b i (more ++ rest)) (row_read item Is h ys more r rest)

entity_read : (n : ℕ) (e : Entity) (bs : List ℕ) → IsEntity n e bs → (rest : List ℕ) → entity_from n (bs ++ rest) ≡ found e rest
unfolding entity_from byte_from
entity_read n e bs (entity {bs = b} h r) rest = rw (le-leb (length e) 8 h, byte_from) (row_read (cap_from n) (IsCapability n) (cap_read n) e b r rest)

-- at most so many bytes for each
row_length : {A : Type 0} (Is : A → List ℕ → Type 0) (w : ℕ) → ((x : A) (bs : List ℕ) → Is x bs → length bs ≤ w) → (xs : List A) (bs : List ℕ) → Row Is xs bs → length bs ≤ length xs * w
row_length Is w h xs bs none = omega arith
row_length Is w h xs bs (next {x = x} {xs = ys} {bs = b} {rest = more} i r) = omega (arith, length-append b more, h x b i, row_length Is w h ys more r)

cap_length : (n : ℕ) (c : Cap) (bs : List ℕ) → IsCapability n c bs → length bs ≤ 2
cap_length n c bs (capability h g) = omega arith

entity_length : (n : ℕ) (e : Entity) (bs : List ℕ) → IsEntity n e bs → length bs ≤ 17
entity_length n e bs (entity {bs = b} h r) = omega (arith, row_length (IsCapability n) 2 (cap_length n) e b r)

pub laid_walk : (es : List Entity) (bytes : List ℕ) → IsTakeGrant es bytes → walk_of bytes ≡ found es []
unfolding bytes_of entities_from
laid_walk es bytes (table {bs = bs} h r) =
    let n = 4 + length bs in
    let all = bytes_of 2 n ++ (1 ∷ length es ∷ bs) in
    let m = row_length (IsEntity (length es)) 17 (entity_length (length es)) es bs r in
    let f : number_of (take 2 all) ≡ length all = number_written 2 n (omega arith) ∙ omega arith in
    let w = walk_entities all (omega arith) f refl h in
    let s = row_read (entity_from (length es)) (IsEntity (length es)) (entity_read (length es)) es bs r [] in
    w ∙ ap (λ (x : Found (List Entity)). and_then x at_end) (ap (several (entity_from (length es)) (length es)) (sym (append-nil bs)) ∙ s)
