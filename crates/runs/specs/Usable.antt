-- Document 02, 2.2, for what the firmware does: a table that was brought in can be tested, stepped and stored. No call turns it down as unsound, and
-- its image reads back as an equal table, in either version.
use Rattle.std.specs.Prelude.{◌≡◌, ◌≢◌, List, ℕ, ◌≤◌, length, take}
use Rattle.table.specs.declared.Table.{Table}
use Rattle.steps.specs.Steps.{step_of}
use Rattle.access.specs.Answers.{access_of}
use Rattle.confinement.specs.Tests.{test_of}
use Rattle.chains.specs.Answers.{chain_of}
use Rattle.image.specs.declared.Version.{Version}
use Rattle.image.specs.Layout.{image_length}
use Rattle.image.specs.Images.{read_of}
use Rattle.image_out.specs.Written.{write_refusal, written_of}
use Rattle.wire.specs.Wires.{ask_from}
use Rattle.entries.specs.Entries.{entries_in}
use Rattle.take_grant.specs.Imports.{import_of}
use Rattle.captable.specs.Crossing.{sound_number, stepped, related, found, chained, loaded, brought_in, written_number}

-- by the numbers that the calls give, for all that may be asked
pub record Usable (t : Table) : Type 0 where
  pub sound : sound_number t ≡ 0
  pub tested : (members : ℕ) (list : List ℕ) → (found (test_of t members (entries_in list))).number ≢ 1
  pub shown : (members : ℕ) (list : List ℕ) (object : ℕ) → (chained (chain_of t members (entries_in list) object)).number ≢ 1
  pub related : (related (access_of t)).number ≡ 0
  pub asked : (request : List ℕ) → (stepped (step_of t (ask_from request))).number ≢ 1
  pub written : (v : Version) (buffer : List ℕ) → image_length v ≤ length buffer → written_number (write_refusal v t buffer) ≡ 0
  pub read_back : (v : Version) (buffer : List ℕ) → image_length v ≤ length buffer → loaded (read_of (take (image_length v) (written_of v t buffer))) ≡ record { table = t; number = 0 }

unfoldable pub ImportUsable : Type 0
ImportUsable = (bytes : List ℕ) → Usable (brought_in (import_of bytes)).table
