-- The claims of 2.2, statement by statement of specs/Exactness.antt. In plain words: the import accepts exactly the bytes that the layout has, and
-- gives back the table of their entities; whatever bytes come, the table is sound, without stocks, with alive active objects alone; each entity has
-- its number and each capability its slot; and entities that Store links join influence each other. Assumes nothing.
use mathlib.Core.Path.{◌≡◌, refl, sym, ◌∙◌, ap}
use mathlib.Core.Bool.{true}
use mathlib.Core.List.{List, []}
use Prim.Native.Nat.{ℕ, ◌<◌}
use Rattle.std.specs.Prelude.{◌↔◌, Ok, Err}
use Rattle.std.specs.Result.{is_ok, IsOk}
use lib.ListN.{length, drop}
use Rattle.table.specs.declared.Capability.{Capability}
use Rattle.table.specs.declared.Table.{Table}
use Rattle.table.specs.Cells.{no_maker, maker_at, unborn_table, IsTable, record_at, slot_at, is_alive, is_active, is_born}
use Rattle.table.specs.Soundness.{sound}
use Rattle.octets.specs.BigEndian.{Bytes}
use Rattle.take_grant.specs.declared.ImportRefusal.{ImportRefusal}
use Rattle.take_grant.specs.Entities.{Entity, cap_at}
use Rattle.take_grant.specs.Layout.{IsTakeGrant, table}
use Rattle.take_grant.specs.Walk.{found, stopped, walk_of}
use Rattle.take_grant.specs.Imports.{slot_for, table_of, imported, import_of, table_after, number_after}
use Rattle.take_grant.specs.Stores.{Joined}
use Rattle.take_grant.specs.Exactness.{LaidOut, of_entities, WalkExact, AcceptsExactly, GivesBack, OneReading, UnbornOnRefusal, AlwaysSound, AlwaysTable, NoStock, NobodyMade, AliveActive, Numbered, InPlace, RightByRight, EachOther, StoreJoins, StoreConnects, SharingJoins}
use Rattle.take_grant.proofs.Finds.{by_found}
use Rattle.take_grant.proofs.Refusals.{walk_refuses, zero_ok, ok_zero, refused_unborn}
use Rattle.take_grant.proofs.Rights.{rows_of_lem}
use Rattle.take_grant.proofs.Tables.{table_none}
use Rattle.take_grant.proofs.Grammar.{walked, walk_laid, laid_walk}
use Rattle.take_grant.proofs.Legal.{Legal, none_legal, slot_rights, record_at_lem, slot_at_lem, each_record, nobody_made, legal_sound, legal_table}
use Rattle.take_grant.proofs.Joined.{joined_each, connected_joined, shares_joined}

-- the import by what the walk found
import_found : (bytes : List ℕ) (es : List Entity) (rest : List ℕ) → walk_of bytes ≡ found es rest → import_of bytes ≡ Ok (table_of es)
unfolding import_of
import_found bytes es rest e = ap imported e

import_stopped : (bytes : List ℕ) (why : ImportRefusal) → walk_of bytes ≡ stopped why → import_of bytes ≡ Err why
unfolding import_of
import_stopped bytes why e = ap imported e

-- the walk and the grammar -------------------------------------------------------------------
import_laid : (es : List Entity) (bytes : List ℕ) → IsTakeGrant es bytes → import_of bytes ≡ Ok (table_of es)
import_laid es bytes g = import_found bytes es [] (laid_walk es bytes g)

pub gives_back : GivesBack
unfolding GivesBack
gives_back = import_laid

pub walk_exact : WalkExact
unfolding WalkExact
walk_exact bytes b es = (walk_laid bytes es [] b, laid_walk es bytes)

pub accepts_exactly : AcceptsExactly
unfolding AcceptsExactly
accepts_exactly bytes b = (
  λ n. by_found (walk_of bytes)
      (λ es rest e. of_entities es (walk_laid bytes es rest b e))
      (λ why e. absurd (walk_refuses bytes why e (sym (ap number_after (import_stopped bytes why e)) ∙ n))),
  λ l. accepted l,
)
  where
    accepted : LaidOut bytes → number_after (import_of bytes) ≡ 0
    accepted (of_entities es g) = ap number_after (import_laid es bytes g)

-- the same by what is returned, which is a table exactly where the number is 0
pub accepts_ok : (bytes : List ℕ) → Bytes bytes → IsOk (import_of bytes) ↔ LaidOut bytes
unfolding AcceptsExactly
accepts_ok bytes b = (
  λ k. (accepts_exactly bytes b).0 (ok_zero (import_of bytes) k),
  λ l. ap is_ok (zero_ok (import_of bytes) ((accepts_exactly bytes b).1 l)),
)

pub one_reading : OneReading
unfolding OneReading
one_reading es ds bytes g h = let p = laid_walk es bytes g in let q = laid_walk ds bytes h in cc

-- what comes in, accepted or not ----------------------------------------------------------------
pub unborn_on_refusal : UnbornOnRefusal
unfolding UnbornOnRefusal
unborn_on_refusal bytes k = refused_unborn (import_of bytes) k

-- the same by the refusal
pub unborn_for : (bytes : List ℕ) (why : ImportRefusal) → import_of bytes ≡ Err why → table_after (import_of bytes) ≡ unborn_table
unborn_for bytes why e = ap table_after e

-- a fact of the table of every legal entities is one of every import: on a refusal there is none of them
always : (P : Table → Type 0) → ((es : List Entity) → Legal es → P (table_of es)) → (bytes : List ℕ) → P (table_after (import_of bytes))
always P f bytes = by_found (walk_of bytes)
    (λ es rest e. let w = walked bytes es rest e in
    rw (import_found bytes es rest e) (f es (record { few = w.few; laid = drop 4 bytes; row = w.row })))
    (λ why e. rw (import_stopped bytes why e, table_none) (f [] none_legal))

pub import_is_sound : (bytes : List ℕ) → sound (table_after (import_of bytes)) ≡ true
import_is_sound = always (λ t. sound t ≡ true) legal_sound

pub always_sound : AlwaysSound
unfolding AlwaysSound
always_sound = import_is_sound

pub import_is_table : (bytes : List ℕ) → IsTable (table_after (import_of bytes))
import_is_table = always IsTable legal_table

pub always_table : AlwaysTable
unfolding AlwaysTable
always_table = import_is_table

pub no_stock : NoStock
unfolding NoStock
no_stock bytes n = always (λ t. (record_at t n).stock ≡ 0) (λ es l. each_record es l (λ r. r.stock ≡ 0) refl refl refl n) bytes

pub nobody_made_any : NobodyMade
unfolding NobodyMade
nobody_made_any bytes n h = always (λ t. maker_at t n ≡ no_maker) (λ es l. nobody_made es l n h) bytes

pub alive_active : AliveActive
unfolding AliveActive
alive_active bytes n = always (λ t. is_born (record_at t n) ≡ true → (is_alive (record_at t n) ≡ true) × (is_active (record_at t n) ≡ true))
    (λ es l. each_record es l (λ r. is_born r ≡ true → (is_alive r ≡ true) × (is_active r ≡ true)) (λ b. (refl, refl)) (λ b. (b, b)) (λ b. (b, b)) n) bytes

-- what each entity becomes -------------------------------------------------------------------------
legal : (es : List Entity) (bytes : List ℕ) → IsTakeGrant es bytes → Legal es
legal es bytes (table {bs = bs} h r) = record { few = h; laid = bs; row = r }

pub numbered : Numbered
unfolding Numbered
numbered es bytes g n h = rw (import_laid es bytes g) (record_at_lem es (legal es bytes g) n h)

pub in_place : InPlace
unfolding InPlace
in_place es bytes g n k h =
    let e : slot_at (table_after (import_of bytes)) n k ≡ slot_for (cap_at es n k) = rw (import_laid es bytes g) (slot_at_lem es (legal es bytes g) n k h) in
    (e, ap (λ (c : Capability). c.rights) e ∙ slot_rights (cap_at es n k))

pub right_by_right : RightByRight
unfolding RightByRight
right_by_right = rows_of_lem

-- Store links -----------------------------------------------------------------------------------------
joined_import : (es : List Entity) (bytes : List ℕ) → IsTakeGrant es bytes → (x y : ℕ) → x < length es → Joined es x y → EachOther (table_after (import_of bytes)) x y
joined_import es bytes g x y h j = rw (import_laid es bytes g) (joined_each es (legal es bytes g) h j)

pub store_joins : StoreJoins
unfolding StoreJoins
store_joins = joined_import

pub store_connects : StoreConnects
unfolding StoreConnects
store_connects es bytes g x y h c = joined_import es bytes g x y h (connected_joined c)

pub sharing_joins : SharingJoins
unfolding SharingJoins
sharing_joins es bytes g x y h s = joined_import es bytes g x y h (shares_joined s)
