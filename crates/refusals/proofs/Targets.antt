-- A slot's target in a sound table is a number below 64, also where the slot is empty: a filled slot names a born object, and past
-- the end nothing is born; an empty slot names object 0. Assumes nothing.
use mathlib.Core.Path.{◌≡◌, ap}
use mathlib.Core.Bool.{true}
use Prim.Native.Nat.{ℕ, ◌<◌}
use native.Mathlib.Omega.{arith}
use lib.Dec.{ltb}
use borrow.Author.Tests.{ltb-true, ltb-false}
use Rattle.mask.proofs.Tests.{by_cases, by_eq}
use Rattle.table.specs.declared.Record.{Record}
use Rattle.table.specs.declared.Table.{Table}
use Rattle.table.specs.Soundness.{sound}
use Rattle.table.proofs.Cells.{Sized, record-high}
use Rattle.table.proofs.SoundFacts.{sound_facts}
use Rattle.refusals.specs.Refusals.{target_of, rights_of}

pub target_below : (t : Table) (a s : ℕ) → Sized t → sound t ≡ true → s < 8 → target_of t a s < 64
target_below t a s z e h =
    let f = (sound_facts t z e).slots a s h in
    by_eq (rights_of t a s) 0
    (λ q. omega (arith, f.blank q))
    (λ q. by_cases (ltb (target_of t a s) 64)
    (λ l. ltb-true _ 64 l)
    (λ l. absurd (omega (arith, f.named (omega arith), ap (λ (r : Record). r.status) (record-high t _ z (ltb-false (target_of t a s) 64 l))))))
