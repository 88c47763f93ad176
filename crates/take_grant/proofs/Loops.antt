-- The walk as the code takes it: the entities so far, and within one its capabilities so far, with the table that they are. Assumes nothing.
use mathlib.Core.Path.{◌≡◌, refl, ◌∙◌, ap}
use mathlib.Core.List.{List, [], ◌∷◌, ◌++◌}
use Prim.Native.Nat.{ℕ, ◌+◌, ◌≤◌, ◌<◌}
use native.Mathlib.Numerals.{add-one}
use native.Mathlib.Omega.{arith}
use lib.Dec.{leb}
use lib.ListN.{length, get_or, drop, drop_of_length-le}
use lib.Seq.{drop-cons}
use borrow.Author.Tests.{le-leb, lt-leb}
use Rattle.std.specs.Prelude.{Result, Ok, Err}
use Rattle.table.specs.declared.Capability.{Capability}
use Rattle.table.specs.declared.Record.{Record}
use Rattle.table.specs.declared.Table.{Table}
use Rattle.table.specs.Cells.{unborn_table, put_record, put_slot}
use Rattle.take_grant.specs.declared.ImportRefusal.{ImportRefusal}
use Rattle.take_grant.specs.declared.ImportRefusal.TheVariants as R
use Rattle.take_grant.specs.Entities.{Cap, Entity}
use Rattle.take_grant.specs.Walk.{found, stopped, byte_from, several, cap_from, entity_from, entities_from}
use Rattle.take_grant.specs.Imports.{entity_record, table_of, imported}
use Rattle.take_grant.specs.Helpers.{held_of}
use Rattle.take_grant.proofs.Finds.{byte_there, byte_none, byte_bad, several_more, several_stops, several_length}
use Rattle.take_grant.proofs.Places.{read_slot, read_stop}
use Rattle.take_grant.proofs.Tables.{table_none, begun, held_more}

module _ (bytes : List ℕ) (count : ℕ) where
  -- after m entities, at a place
  pub record Taken (m at : ℕ) (t : Table) : Type 0 where
    pub es : List Entity
    pub read : several (entity_from count) m (drop 4 bytes) ≡ found es (drop at bytes)
    pub table : t ≡ table_of es
    pub within : at ≤ length bytes

  -- in entity m, whose capabilities start at a place, after k of them
  pub record Within (m from capabilities k at : ℕ) (t : Table) : Type 0 where
    pub es : List Entity
    pub cs : List Cap
    pub rest : List ℕ
    pub read : several (entity_from count) m (drop 4 bytes) ≡ found es rest
    pub counted : byte_from (λ b. leb b 8) rest ≡ found capabilities (drop from bytes)
    pub held : several (cap_from count) k (drop from bytes) ≡ found cs (drop at bytes)
    pub table : t ≡ table_of (es ++ (cs ∷ []))
    pub within : at ≤ length bytes

  -- the next entity stops the walk
  stops : (m : ℕ) (es : List Entity) (rest : List ℕ) (why : ImportRefusal) → several (entity_from count) m (drop 4 bytes) ≡ found es rest → entity_from count rest ≡ stopped why → m < count
      → imported (entities_from count (drop 4 bytes)) ≡ Err why
  unfolding entities_from
  stops m es rest why e f h = rw (several_stops (entity_from count) m count (drop 4 bytes) es rest why e f h) refl

  pub taken_none : (t : Table) → 4 ≤ length bytes → t ≡ unborn_table → Taken 0 4 t
  unfolding several
  taken_none t h e = record { es = []; read = refl; table = e ∙ table_none; within = h }

  module _ (m at : ℕ) (t : Table) (k : Taken m at t) where
    pub count_none : m < count → length bytes ≤ at → imported (entities_from count (drop 4 bytes)) ≡ Err R.LengthWrong
    unfolding entity_from
    count_none h g = stops m k.es (drop at bytes) R.LengthWrong k.read (rw (byte_none (λ b. leb b 8) bytes at g) refl) h

    pub count_bad : m < count → at < length bytes → 8 < get_or bytes at 0 → imported (entities_from count (drop 4 bytes)) ≡ Err R.ValueWrong
    unfolding entity_from
    count_bad h g l = stops m k.es (drop at bytes) R.ValueWrong k.read (rw (byte_bad (λ b. leb b 8) bytes at g (lt-leb _ 8 l)) refl) h

    pub entity_begun : (r : Record) → r ≡ entity_record → m < 64 → at < length bytes → get_or bytes at 0 ≤ 8 → Within m (at + 1) (get_or bytes at 0) 0 (at + 1) (put_record t m r)
    unfolding several
    entity_begun r e h g l = record {
      es = k.es;
      cs = [];
      rest = drop at bytes;
      read = k.read;
      counted = byte_there (λ b. leb b 8) bytes at g (le-leb _ 8 l);
      held = refl;
      table = ap (put_record t m) e ∙ begun k.es m (several_length (entity_from count) m (drop 4 bytes) k.es (drop at bytes) k.read) t h k.table;
      within = omega arith;
    }

    -- after the last entity
    pub more_left : m ≡ count → at < length bytes → imported (entities_from count (drop 4 bytes)) ≡ Err R.LengthWrong
    unfolding entities_from
    more_left h g = let e : several (entity_from count) count (drop 4 bytes) ≡ found k.es (drop at bytes) = rw h at k.read in
        rw (e, drop-cons bytes at 0 g) refl

    pub none_left : m ≡ count → length bytes ≤ at → Ok t ≡ imported (entities_from count (drop 4 bytes))
    unfolding entities_from
    none_left h g = let e : several (entity_from count) count (drop 4 bytes) ≡ found k.es (drop at bytes) = rw h at k.read in
        rw (e, drop_of_length-le bytes g) (ap Ok k.table)

  module _ (m from capabilities k at : ℕ) (t : Table) (w : Within m from capabilities k at t) where
    pub cap_more : (h : Result Capability ImportRefusal) (s : Capability) → m < 64 → k < 8 → h ≡ held_of (cap_from count (drop at bytes)) → h ≡ Ok s → Within m from capabilities (k + 1) (at + 2) (put_slot t m k s)
    cap_more h s l g e f =
        let r = read_slot count bytes at h s e f in
        let x = several_length (entity_from count) m (drop 4 bytes) w.es w.rest w.read in
        let y = several_length (cap_from count) k (drop from bytes) w.cs (drop at bytes) w.held in
        record {
          es = w.es;
          cs = w.cs ++ (r.cap ∷ []);
          rest = w.rest;
          read = w.read;
          counted = w.counted;
          held = rw add-one (several_more (cap_from count) k (drop from bytes) w.cs (drop at bytes) r.cap (drop (at + 2) bytes) w.held r.found_there);
          table = ap (put_slot t m k) r.slot ∙ held_more w.es w.cs r.cap m k x y t l g w.table;
          within = r.within;
        }

    pub cap_fits : (h : Result Capability ImportRefusal) (s : Capability) → h ≡ held_of (cap_from count (drop at bytes)) → h ≡ Ok s → at + 2 ≤ length bytes
    cap_fits h s e f = (read_slot count bytes at h s e f).within

    pub cap_stop : (h : Result Capability ImportRefusal) (why : ImportRefusal) → m < count → k < capabilities → h ≡ held_of (cap_from count (drop at bytes)) → h ≡ Err why
        → imported (entities_from count (drop 4 bytes)) ≡ Err why
    unfolding entity_from
    cap_stop h why l g e f =
        let s = several_stops (cap_from count) k capabilities (drop from bytes) w.cs (drop at bytes) why w.held (read_stop count bytes at h why e f) g in
        stops m w.es w.rest why w.read (rw (w.counted, s) refl) l

    pub entity_done : k ≡ capabilities → Taken (m + 1) at t
    unfolding entity_from
    entity_done h =
        let e : several (cap_from count) capabilities (drop from bytes) ≡ found w.cs (drop at bytes) = rw h at w.held in
        record {
          es = w.es ++ (w.cs ∷ []);
          read = rw add-one (several_more (entity_from count) m (drop 4 bytes) w.es w.rest w.cs (drop at bytes) w.read (rw (w.counted, e) refl));
          table = w.table;
          within = w.within;
        }
