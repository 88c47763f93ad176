-- Document 01, "Table K": "alive 0 to 6; active 0, 2, 4, 5. Slot 0 of 0 is (1, rd), of 2 (1, wk), of 4 (3, wr), of 5 (1, wr);
-- slot 1 of 2 is (6, wk). Stocks: 5 has {10, 11}, 4 has {12}. All else is empty, zero or unborn." None of them was made in a run, so each
-- has the maker 64 (document 02, 2.7).
use Rattle.std.specs.Prelude.{[], ◌∷◌, ◌++◌, ℕ, ◌+◌, ◌^◌, replicate}
use Rattle.table.specs.declared.Capability.{Capability}
use Rattle.table.specs.declared.Record.{Record}
use Rattle.table.specs.declared.Table.{Table}
use Rattle.table.specs.Cells.{no_maker, empty_slot, unborn_record, put_slot}

-- rights by their names
abbrev pub rd_right : ℕ
rd_right = 1

abbrev pub wr_right : ℕ
wr_right = 2

abbrev pub wk_right : ℕ
wk_right = 4

abbrev pub passive : ℕ → Record
passive stock = record { status = 1; kind = 0; maker = no_maker; word = 0; stock = stock }

abbrev pub active : ℕ → Record
active stock = record { status = 1; kind = 1; maker = no_maker; word = 0; stock = stock }

abbrev pub over : ℕ → ℕ → Capability
over target rights = record { target = target; rights = rights }

-- alive 0 to 6, with their stocks and no capability
abbrev pub alone : Table
alone = record {
  records =
      (active 0 ∷ passive 0 ∷ active 0 ∷ passive 0 ∷ active (2 ^ 12) ∷ active (2 ^ 10 + 2 ^ 11) ∷ passive 0 ∷ [])
      ++ replicate 57 unborn_record;
  slots = replicate 512 empty_slot;
}

unfoldable pub K : Table
K =
    put_slot (put_slot (put_slot (put_slot (put_slot alone 0 0 (over 1 rd_right)) 2 0 (over 1 wk_right)) 4 0 (over 3 wr_right))
    5 0 (over 1 wr_right)) 2 1 (over 6 wk_right)
