-- What a helper of writing leaves: a record's part with the maker as last byte, where the version has a place for it.
use Rattle.std.specs.Prelude.{List, ℕ, set}
use Rattle.image.specs.declared.Version.{Version}
use Rattle.image.specs.declared.Version.TheVariants.{One, Two}

abbrev pub with_last : Version → ℕ → List ℕ → List ℕ
with_last One maker part = part
with_last Two maker part = set part 30 maker
