-- Writing by cases: from what a check found to the reply, and from the reply to what is left in the buffer. Assumes nothing.
use mathlib.Core.Path.{◌≡◌, refl, sym, ◌∙◌, ap}
use mathlib.Core.Bool.{Bool, true, false, ◌||◌}
use mathlib.Core.Logic.{◌≢◌}
use mathlib.Core.List.{List, [], ◌∷◌}
use Prim.Native.Nat.{ℕ, ◌≤◌, ◌<◌}
use native.Mathlib.Omega.{arith}
use lib.ListN.{length, get_or}
use Rattle.std.specs.Prelude.{Ok, Err}
use borrow.Author.Tests.{lt-ltb, le-ltb}
use Rattle.std.specs.List.{list_any}
use Rattle.mask.specs.Sets.{any_below}
use Rattle.mask.proofs.Below.{any_first}
use Rattle.table.specs.declared.Record.{Record}
use Rattle.table.specs.declared.Table.{Table}
use Rattle.table.specs.Cells.{no_record}
use Rattle.table.specs.Soundness.{sound}
use Rattle.image_out.specs.declared.WriteRefusal.{WriteRefusal}
use Rattle.image_out.specs.declared.WriteRefusal.TheVariants as W
use Rattle.image.specs.declared.Version.{Version}
use Rattle.image.specs.Layout.{image_length, maker_lost}
use Rattle.image_out.specs.Written.{write_number, some_lost, write_refusal, filled_by, written_of}

-- a test of the elements of a list is one of its places
any_places : {A : Type 0} (p : A → Bool) (d : A) (xs : List A) → list_any p xs ≡ any_below (length xs) (λ n. p (get_or xs n d))
unfolding any_below
any_places p d [] = refl
any_places p d (x ∷ xs) = ap (λ (b : Bool). p x || b) (any_places p d xs) ∙ sym (any_first (length xs) (λ n. p (get_or (x ∷ xs) n d)))

pub lost_records : (v : Version) (t : Table) → length t.records ≡ 64 → list_any (λ (r : Record). maker_lost v r.maker) t.records ≡ some_lost v t
unfolding some_lost
lost_records v t l =
    let p = λ (r : Record). maker_lost v r.maker in
    any_places p no_record t.records ∙ ap (λ (m : ℕ). any_below m (λ n. p (get_or t.records n no_record))) l

-- no refusal has the number 0, which is that of what was written
pub write_not : (why : WriteRefusal) → write_number why ≢ 0
write_not W.TableUnsound = λ e. omega (arith, e)
write_not W.BufferShort = λ e. omega (arith, e)
write_not W.MakerRecorded = λ e. omega (arith, e)

module _ (v : Version) (t : Table) (buffer : List ℕ) where
  pub write_unsound : sound t ≡ false → write_refusal v t buffer ≡ Err W.TableUnsound
  unfolding write_refusal
  write_unsound e = rw (e, write_refusal) refl

  pub write_lost : sound t ≡ true → some_lost v t ≡ true → write_refusal v t buffer ≡ Err W.MakerRecorded
  unfolding write_refusal
  write_lost e f = rw (e, f, write_refusal) refl

  module _ (e : sound t ≡ true) (f : some_lost v t ≡ false) where
    pub write_short : length buffer < image_length v → write_refusal v t buffer ≡ Err W.BufferShort
    unfolding write_refusal
    write_short h = rw (e, f, lt-ltb _ _ h, write_refusal) refl

    pub write_done : image_length v ≤ length buffer → write_refusal v t buffer ≡ Ok tt
    unfolding write_refusal
    write_done h = rw (e, f, le-ltb _ _ h, write_refusal) refl

  pub written_refused : (why : WriteRefusal) → write_refusal v t buffer ≡ Err why → written_of v t buffer ≡ buffer
  unfolding written_of
  written_refused why e = rw (e, written_of) refl

  pub written_done : write_refusal v t buffer ≡ Ok tt → written_of v t buffer ≡ filled_by v t buffer
  unfolding written_of
  written_done e = rw (e, written_of) refl
