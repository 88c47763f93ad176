-- Reading by cases: from what a check found to what the head says, and from that to what is read. What is read is an image of one of the two
-- versions, by its version byte. Assumes nothing.
use mathlib.Core.Path.{◌≡◌, refl, sym, ◌∙◌, ap}
use mathlib.Core.Logic.{◌≢◌}
use mathlib.Core.Bool.{true, false, not}
use mathlib.Core.List.{List}
use Prim.Native.Nat.{ℕ, suc, ◌≤◌, ◌<◌}
use native.Mathlib.Omega.{arith}
use lib.Dec.{ltb, eqb}
use lib.ListN.{length, take}
use borrow.Author.Tests.{ltb-true, ltb-false, lt-ltb, le-ltb, eq-eqb, ne_eqb}
use Rattle.std.specs.Prelude.{Some, None, Result, Ok, Err, ok_or}
use Rattle.mask.proofs.Tests.{by_cases, by_eq, or_left, or_right}
use Rattle.table.specs.declared.Table.{Table}
use Rattle.table.specs.Cells.{unborn_table}
use Rattle.table.specs.Soundness.{sound}
use Rattle.image.specs.declared.ReadRefusal.{ReadRefusal}
use Rattle.image.specs.declared.ReadRefusal.TheVariants as R
use Rattle.image.specs.declared.Version.{Version}
use Rattle.image.specs.declared.Version.TheVariants.{One, Two}
use Rattle.octets.specs.BigEndian.{byte_at, number_of}
use Rattle.image.specs.Layout.{version_byte, image_length, table_from}
use Rattle.image.specs.Images.{read_number, version_as, wrong_length, head_refusal, read_of, table_loaded, number_loaded}

-- all that bytes are checked for, as an image of a version
pub record Accepted (v : Version) (bytes : List ℕ) : Type 0 where
  pub long : length bytes ≡ image_length v
  pub says : number_of (take 2 bytes) ≡ image_length v
  pub versed : byte_at bytes 2 ≡ version_byte v
  pub fine : sound (table_from v bytes) ≡ true

-- what a head that was not refused says
pub record Headed (v : Version) (bytes : List ℕ) : Type 0 where
  pub long : length bytes ≡ image_length v
  pub says : number_of (take 2 bytes) ≡ image_length v
  pub versed : byte_at bytes 2 ≡ version_byte v

-- the version byte ------------------------------------------------------------------------------
pub version_is : (v : Version) (byte : ℕ) → byte ≡ version_byte v → version_as byte ≡ Some v
version_is One byte e = rw e refl
version_is Two byte e = rw e refl

-- by the version that the byte says, if it says one
pub by_version : {P : Type 0} (byte : ℕ) → ((v : Version) → byte ≡ version_byte v → version_as byte ≡ Some v → P) → (version_as byte ≡ None → P) → P
by_version byte f g = by_eq byte 1
    (λ e. f One e (version_is One byte e))
    (λ n. by_eq byte 2 (λ e. f Two e (version_is Two byte e)) (λ m. g (rw (ne_eqb byte 1 n, ne_eqb byte 2 m, version_as) refl)))

-- what the code is told of the byte
pub says_none : (byte : ℕ) (why : ReadRefusal) → Err why ≡ ok_or (version_as byte) R.VersionWrong → (version_as byte ≡ None) × (why ≡ R.VersionWrong)
says_none byte why e = elim (version_as byte) as (λ o. Err why ≡ ok_or o R.VersionWrong → (o ≡ None) × (why ≡ R.VersionWrong)) [
  | None ↦ λ h. (refl, cc)
  | Some v ↦ λ h. absurd cc
] e

pub says_some : (byte : ℕ) (v : Version) → Ok v ≡ ok_or (version_as byte) R.VersionWrong → version_as byte ≡ Some v
says_some byte v e = elim (version_as byte) as (λ o. Ok v ≡ ok_or o R.VersionWrong → o ≡ Some v) [
  | None ↦ λ h. absurd cc
  | Some w ↦ λ h. cc
] e

pub byte_is : (byte : ℕ) (v : Version) → version_as byte ≡ Some v → byte ≡ version_byte v
byte_is byte v e = by_version byte
    (λ w f s. let z : Some w ≡ Some v = sym s ∙ e in let same : w ≡ v = cc in f ∙ ap version_byte same)
    (λ n. let z : None ≡ Some v = sym n ∙ e in absurd cc)

-- the head --------------------------------------------------------------------------------------
module _ (bytes : List ℕ) where
  pub head_short : length bytes < 3 → head_refusal bytes ≡ Err R.LengthWrong
  unfolding head_refusal
  head_short h = rw (lt-ltb _ _ h, head_refusal) refl

  module _ (three : 3 ≤ length bytes) where
    pub head_unknown : version_as (byte_at bytes 2) ≡ None → head_refusal bytes ≡ Err R.VersionWrong
    unfolding head_refusal
    head_unknown k = rw (le-ltb _ _ three, k, head_refusal) refl

    module _ (v : Version) (versed : version_as (byte_at bytes 2) ≡ Some v) where
      by_length : wrong_length v bytes ≡ true → head_refusal bytes ≡ Err R.LengthWrong
      unfolding head_refusal
      by_length w = rw (le-ltb _ _ three, versed, w, head_refusal) refl

      pub head_length : length bytes ≢ image_length v → head_refusal bytes ≡ Err R.LengthWrong
      head_length h = by_length (or_left _ (not (eqb (number_of (take 2 bytes)) (image_length v))) (ap not (ne_eqb _ _ h)))

      pub head_field : number_of (take 2 bytes) ≢ image_length v → head_refusal bytes ≡ Err R.LengthWrong
      head_field h = by_length (or_right (not (eqb (length bytes) (image_length v))) _ (ap not (ne_eqb _ _ h)))

      pub head_fits : length bytes ≡ image_length v → number_of (take 2 bytes) ≡ image_length v → head_refusal bytes ≡ Ok v
      unfolding head_refusal
      head_fits long says =
          let w : wrong_length v bytes ≡ false = rw (eq-eqb _ _ long, eq-eqb _ _ says) refl in
          rw (le-ltb _ _ three, versed, w, head_refusal) refl

  -- what is read -----------------------------------------------------------------------------------
  pub read_head : (why : ReadRefusal) → head_refusal bytes ≡ Err why → read_of bytes ≡ Err why
  unfolding read_of
  read_head why e = rw (e, read_of) refl

  module _ (v : Version) (e : head_refusal bytes ≡ Ok v) where
    pub read_unsound : sound (table_from v bytes) ≡ false → read_of bytes ≡ Err R.TableUnsound
    unfolding read_of
    read_unsound u = rw (e, u, read_of) refl

    pub read_passed : sound (table_from v bytes) ≡ true → read_of bytes ≡ Ok (table_from v bytes)
    unfolding read_of
    read_passed u = rw (e, u, read_of) refl

  -- what passed ------------------------------------------------------------------------------------
  refused_not : {P : Type 0} (why : ReadRefusal) (v : Version) → head_refusal bytes ≡ Err why → head_refusal bytes ≡ Ok v → P
  refused_not why v r e = let z : Err why ≡ Ok v = sym r ∙ e in absurd cc

  pub headed : (v : Version) → head_refusal bytes ≡ Ok v → Headed v bytes
  headed v e = by_cases (ltb (length bytes) 3)
      (λ q. refused_not R.LengthWrong v (head_short (ltb-true _ 3 q)) e)
      (λ q. let three = ltb-false (length bytes) 3 q in by_version (byte_at bytes 2)
      (λ w f s. by_eq (length bytes) (image_length w)
      (λ long. by_eq (number_of (take 2 bytes)) (image_length w)
      (λ says. let h = head_fits three w s long says in let same : w ≡ v = cc in rw (← same) (record { long = long; says = says; versed = f }))
      (λ g. refused_not R.LengthWrong v (head_field three w s g) e))
      (λ g. refused_not R.LengthWrong v (head_length three w s g) e))
      (λ k. refused_not R.VersionWrong v (head_unknown three k) e))

-- by a version -----------------------------------------------------------------------------------
pub read_done : (v : Version) (bytes : List ℕ) → Accepted v bytes → read_of bytes ≡ Ok (table_from v bytes)
read_done v bytes a =
    let l = a.long in
    read_passed bytes v (head_fits bytes (omega arith) v (version_is v (byte_at bytes 2) a.versed) l a.says) a.fine

-- whatever was read has one of the two versions
pub data ReadBy (bytes : List ℕ) (t : Table) : Type 0 where
  read_by : (v : Version) → Accepted v bytes → t ≡ table_from v bytes → ReadBy bytes t

pub accepted_by : (bytes : List ℕ) (t : Table) → read_of bytes ≡ Ok t → ReadBy bytes t
accepted_by bytes t e = elim (head_refusal bytes) as (λ r. head_refusal bytes ≡ r → ReadBy bytes t) [
  | Err why ↦ λ h. let z : Err why ≡ Ok t = sym (read_head bytes why h) ∙ e in absurd cc
  | Ok v ↦ λ h. let d = headed bytes v h in by_cases (sound (table_from v bytes))
      (λ fine. let z : Ok (table_from v bytes) ≡ Ok t = sym (read_passed bytes v h fine) ∙ e in
      read_by v (record { long = d.long; says = d.says; versed = d.versed; fine = fine }) cc)
      (λ u. let z : Err R.TableUnsound ≡ Ok t = sym (read_unsound bytes v h u) ∙ e in absurd cc)
] refl

pub accepted : (v : Version) (bytes : List ℕ) (t : Table) → byte_at bytes 2 ≡ version_byte v → read_of bytes ≡ Ok t → Accepted v bytes
accepted v bytes t versed e = of_version (accepted_by bytes t e)
  where
    of_version : ReadBy bytes t → Accepted v bytes
    of_version (read_by w a q) =
        let s : Some w ≡ Some v = sym (version_is w (byte_at bytes 2) a.versed) ∙ version_is v (byte_at bytes 2) versed in
        let same : w ≡ v = cc in rw (← same) a

-- by the number ------------------------------------------------------------------------------------
-- no refusal has the number 0
pub read_not : (why : ReadRefusal) → read_number why ≢ 0
read_not R.TableUnsound = λ e. omega (arith, e)
read_not R.LengthWrong = λ e. omega (arith, e)
read_not R.VersionWrong = λ e. omega (arith, e)

-- so 0 is the number of what was read, with its table, and of that alone
pub number_done : (r : Result Table ReadRefusal) → number_loaded r ≡ 0 → r ≡ Ok (table_loaded r)
number_done (Ok t) e = refl
number_done (Err why) e = absurd (read_not why e)

pub number_refused : (r : Result Table ReadRefusal) (k : ℕ) → number_loaded r ≡ suc k → table_loaded r ≡ unborn_table
number_refused (Ok t) k e = absurd (omega arith)
number_refused (Err why) k e = refl
