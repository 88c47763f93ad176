-- What a refusal crosses with, from what refused it: its number, and no right, an empty bound with no round, no number of a chain, the wholly
-- unborn table, the buffer as it was. And 0 is the number of what was done alone, so a caller sees by the number what went with it. Assumes nothing.
use mathlib.Core.Path.{◌≡◌, refl, sym, ◌∙◌, ap}
use mathlib.Core.Bool.{false}
use mathlib.Core.List.{List}
use Prim.Native.Nat.{ℕ, suc}
use native.Mathlib.Omega.{arith}
use lib.ListN.{replicate}
use Rattle.std.specs.Prelude.{◌↔◌, Result, Ok, Err}
use Rattle.std.specs.Result.{result_and}
use Rattle.table.specs.declared.Capability.{Capability}
use Rattle.table.specs.declared.Table.{Table}
use Rattle.table.specs.Cells.{unborn_table}
use Rattle.table.specs.Soundness.{sound}
use Rattle.access.specs.Answers.{access_of}
use Rattle.access.proofs.TableWords.{access_refused}
use Rattle.confinement.specs.declared.TestRefusal.{TestRefusal}
use Rattle.confinement.specs.Refusals.{Verdict, refusal_number, verdict_of}
use Rattle.confinement.specs.Tests.{grown_of, test_of}
use Rattle.confinement.proofs.Verdicts.{test_1}
use Rattle.walks.proofs.Lengths.{none_padded}
use Rattle.chains.specs.declared.ChainRefusal.{ChainRefusal}
use Rattle.chains.specs.Answers.{chain_refusal_number, chain_reply, chain_of}
use Rattle.chains.proofs.Answered.{err_shown}
use Rattle.octets.specs.BigEndian.{Bytes, byte_at}
use Rattle.image.specs.declared.ReadRefusal.{ReadRefusal}
use Rattle.image.specs.declared.Version.{Version}
use Rattle.image.specs.Layout.{version_byte}
use Rattle.image.specs.Images.{read_number, read_of}
use Rattle.image.proofs.Replies.{number_done}
use Rattle.image_out.specs.declared.WriteRefusal.{WriteRefusal}
use Rattle.image_out.specs.Written.{write_refusal, filled_by, written_of}
use Rattle.image_out.specs.Exactness.{IsRead}
use Rattle.image_out.proofs.Left.{write_not, written_refused, written_done}
use Rattle.take_grant.specs.declared.ImportRefusal.{ImportRefusal}
use Rattle.take_grant.specs.Imports.{import_number, import_of}
use Rattle.take_grant.proofs.Refusals.{zero_ok}
use Rattle.captable.specs.declared.ShownChain.{ShownChain}
use Rattle.captable.specs.Crossing.{related, found, chained, loaded, brought_in, written_number}

-- no rights -----------------------------------------------------------------------------------
pub access_unsound : (t : Table) → sound t ≡ false → related (access_of t) ≡ record { rows = replicate 256 0; number = 1 }
access_unsound t e = sym (ap related (access_refused t (sound t) refl e))

-- an empty bound, and no round -------------------------------------------------------------------
pub test_unsound : (t : Table) (members : ℕ) (list : List Capability) → sound t ≡ false → found (test_of t members list) ≡ record { bound = 0; rounds = 0; number = 1 }
test_unsound t members list e = sym (ap found (test_1 t members list (sound t) refl e))

pub test_refused : (t : Table) (members : ℕ) (list : List Capability) (why : TestRefusal) → verdict_of t members list ≡ Err why
    → found (test_of t members list) ≡ record { bound = 0; rounds = 0; number = refusal_number why }
unfolding test_of
test_refused t members list why e = ap (λ (v : Verdict). found (result_and v (Ok (grown_of t members list)))) e

-- no number of a chain -----------------------------------------------------------------------------
pub chain_refused : (t : Table) (members : ℕ) (list : List Capability) (object : ℕ) (why : ChainRefusal) → chain_reply t members list object ≡ Err why
    → chained (chain_of t members list object) ≡ record { numbers = replicate 63 0; count = 0; number = chain_refusal_number why }
chain_refused t members list object why e = ap chained (err_shown t members list object why e)
    ∙ ap {B = ShownChain} (λ (l : List ℕ). record { numbers = l; count = 0; number = chain_refusal_number why }) (sym none_padded)

-- the wholly unborn table ----------------------------------------------------------------------------
pub read_refused : (bytes : List ℕ) (why : ReadRefusal) → read_of bytes ≡ Err why → loaded (read_of bytes) ≡ record { table = unborn_table; number = read_number why }
read_refused bytes why e = ap loaded e

pub import_refused : (bytes : List ℕ) (why : ImportRefusal) → import_of bytes ≡ Err why → brought_in (import_of bytes) ≡ record { table = unborn_table; number = import_number why }
import_refused bytes why e = ap brought_in e

-- 0, and the table ----------------------------------------------------------------------------------------
pub read_done : (bytes : List ℕ) → ((loaded (read_of bytes)).number ≡ 0) ↔ (read_of bytes ≡ Ok (loaded (read_of bytes)).table)
read_done bytes = (number_done (read_of bytes), λ e. ap (λ (r : Result Table ReadRefusal). (loaded r).number) e)

-- so bytes are read as an image of a version, as crates/image_out has it
pub is_read : (v : Version) (bytes : List ℕ) → Bytes bytes → byte_at bytes 2 ≡ version_byte v → (loaded (read_of bytes)).number ≡ 0 → IsRead v bytes (loaded (read_of bytes)).table
is_read v bytes b versed e = record { bits = b; versed = versed; done = number_done (read_of bytes) e }

pub import_done : (bytes : List ℕ) → ((brought_in (import_of bytes)).number ≡ 0) ↔ (import_of bytes ≡ Ok (brought_in (import_of bytes)).table)
import_done bytes = (zero_ok (import_of bytes), λ e. ap (λ (r : Result Table ImportRefusal). (brought_in r).number) e)

-- the buffer, by the number -------------------------------------------------------------------------------
module _ (v : Version) (t : Table) (buffer : List ℕ) where
  by_number : (r : Result (Unit {0}) WriteRefusal) → write_refusal v t buffer ≡ r
      → (written_number r ≡ 0 → written_of v t buffer ≡ filled_by v t buffer) × ((k : ℕ) → written_number r ≡ suc k → written_of v t buffer ≡ buffer)
  by_number (Ok _) e = (λ _. written_done v t buffer e, λ k n. absurd (omega arith))
  by_number (Err why) e = (λ n. absurd (write_not why n), λ k n. written_refused v t buffer why e)

  pub write_zero : written_number (write_refusal v t buffer) ≡ 0 → written_of v t buffer ≡ filled_by v t buffer
  write_zero = (by_number (write_refusal v t buffer) refl).0

  pub write_other : (k : ℕ) → written_number (write_refusal v t buffer) ≡ suc k → written_of v t buffer ≡ buffer
  write_other = (by_number (write_refusal v t buffer) refl).1
