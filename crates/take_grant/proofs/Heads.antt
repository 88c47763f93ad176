-- The checks before the walk: what each of them gives, and that bytes which pass them all are walked over. Assumes nothing.
use mathlib.Core.Path.{◌≡◌, refl}
use mathlib.Core.Logic.{◌≢◌}
use mathlib.Core.List.{List}
use Prim.Native.Nat.{ℕ, ◌≤◌, ◌<◌}
use lib.ListN.{length, take, drop}
use borrow.Author.Tests.{lt-ltb, le-ltb, le-leb, lt-leb, eq-eqb, ne_eqb}
use Rattle.octets.specs.BigEndian.{byte_at, number_of}
use Rattle.take_grant.specs.declared.ImportRefusal.TheVariants as R
use Rattle.take_grant.specs.Walk.{stopped, entities_from, walk_of}

module _ (bytes : List ℕ) where
  pub walk_short : length bytes < 4 → walk_of bytes ≡ stopped R.LengthWrong
  unfolding walk_of
  walk_short h = rw (lt-ltb (length bytes) 4 h, walk_of) refl

  module _ (l : 4 ≤ length bytes) where
    pub walk_length : number_of (take 2 bytes) ≢ length bytes → walk_of bytes ≡ stopped R.LengthWrong
    unfolding walk_of
    walk_length h = rw (le-ltb (length bytes) 4 l, ne_eqb _ _ h, walk_of) refl

    module _ (f : number_of (take 2 bytes) ≡ length bytes) where
      pub walk_version : byte_at bytes 2 ≢ 1 → walk_of bytes ≡ stopped R.VersionWrong
      unfolding walk_of
      walk_version h = rw (le-ltb (length bytes) 4 l, eq-eqb _ _ f, ne_eqb _ 1 h, walk_of) refl

      module _ (v : byte_at bytes 2 ≡ 1) where
        pub walk_count : 64 < byte_at bytes 3 → walk_of bytes ≡ stopped R.ValueWrong
        unfolding walk_of
        walk_count h = rw (le-ltb (length bytes) 4 l, eq-eqb _ _ f, eq-eqb _ 1 v, lt-leb _ 64 h, walk_of) refl

        pub walk_entities : byte_at bytes 3 ≤ 64 → walk_of bytes ≡ entities_from (byte_at bytes 3) (drop 4 bytes)
        unfolding walk_of
        walk_entities h = rw (le-ltb (length bytes) 4 l, eq-eqb _ _ f, eq-eqb _ 1 v, le-leb _ 64 h, walk_of) refl
