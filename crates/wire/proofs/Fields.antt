-- A request by its code: what each reader puts together is the request of the bytes, as the code's two values. Assumes nothing.
use mathlib.Core.Path.{◌≡◌, refl, sym, ◌∙◌, ap, ap₂}
use mathlib.Core.Logic.{◌≢◌}
use mathlib.Core.Bool.{true, false}
use mathlib.Core.List.{List, []}
use Prim.Native.Nat.{ℕ, ◌+◌, ◌*◌, ◌≤◌, ◌<◌}
use lib.ListN.{length, get_or-eq_default}
use borrow.Author.Tests.{ne_eqb}
use Rattle.mask.proofs.Tests.{by_eq}
use Rattle.table.proofs.Lists.{length_tabulate}
use Rattle.requests.specs.declared.Pair.{Pair}
use Rattle.requests.specs.declared.PairList.{PairList}
use Rattle.requests.specs.declared.Request.{Request}
use Rattle.requests.specs.declared.Request.TheVariants.{Send, Allocate, Unknown}
use Rattle.requests.specs.Asks.{read, write, fetch, store, revoke, send, allocate, destroy, reclaim, unknown, pairs_in, request_of, held_pairs}
use Rattle.octets.specs.BigEndian.{byte_at}
use Rattle.octets.proofs.Lists.{get_d_within}
use Rattle.wire.specs.declared.Asked.{Asked}
use Rattle.wire.specs.Wires.{code_in, nobody, actor_in, count_in, fits_of, pair_in, list_in, word_in, part_in, fields_of, ask_from, asked_of}

-- the list: as many pairs as the count says
pub length_list : (bs : List ℕ) → length (list_in bs) ≡ count_in bs
unfolding list_in
length_list bs = length_tabulate (count_in bs) (pair_in bs)

-- each code's fields
module _ (bs : List ℕ) (a t : ℕ) (f : a ≡ actor_in bs) (g : t ≡ byte_at bs 2) where
  pub read_made : code_in bs ≡ 1 → read a t ≡ fields_of bs
  unfolding fields_of
  read_made e = rw (f, g, e, fields_of) refl

  pub write_made : code_in bs ≡ 2 → (w : ℕ) → w ≡ word_in bs → write a t w ≡ fields_of bs
  unfolding fields_of
  write_made e w h = rw (f, g, h, e, fields_of) refl

  pub fetch_made : code_in bs ≡ 3 → (i j : ℕ) → i ≡ byte_at bs 3 → j ≡ byte_at bs 4 → fetch a t i j ≡ fields_of bs
  unfolding fields_of
  fetch_made e i j h k = rw (f, g, h, k, e, fields_of) refl

  pub store_made : code_in bs ≡ 4 → (i j : ℕ) → i ≡ byte_at bs 3 → j ≡ byte_at bs 4 → store a t i j ≡ fields_of bs
  unfolding fields_of
  store_made e i j h k = rw (f, g, h, k, e, fields_of) refl

  pub revoke_made : code_in bs ≡ 5 → (j : ℕ) → j ≡ byte_at bs 3 → revoke a t j ≡ fields_of bs
  unfolding fields_of
  revoke_made e j h = rw (f, g, h, e, fields_of) refl

  pub destroy_made : code_in bs ≡ 8 → destroy a t ≡ fields_of bs
  unfolding fields_of
  destroy_made e = rw (f, g, e, fields_of) refl

  pub reclaim_made : code_in bs ≡ 9 → reclaim a t ≡ fields_of bs
  unfolding fields_of
  reclaim_made e = rw (f, g, e, fields_of) refl

  pub send_fields : code_in bs ≡ 6 → (w : ℕ) → w ≡ word_in bs → (y : ℕ) → y ≡ byte_at bs (8 + 2 * count_in bs) → send a t w (list_in bs) y ≡ fields_of bs
  unfolding fields_of
  send_fields e w h y k = rw (f, g, h, k, e, fields_of) refl

  pub allocate_fields : code_in bs ≡ 7 → (kind part i : ℕ) → kind ≡ byte_at bs 3 → part ≡ part_in bs → i ≡ byte_at bs 12 → allocate a t kind part i (list_in bs) ≡ fields_of bs
  unfolding fields_of
  allocate_fields e kind part i h k m = rw (f, g, h, k, m, e, fields_of) refl

  -- the two with a list `l` beside them
  module _ (l : PairList) (p : l ≡ held_pairs (list_in bs)) where
    pub send_made : code_in bs ≡ 6 → (w : ℕ) → w ≡ word_in bs → (y : ℕ) → y ≡ byte_at bs (8 + 2 * l.count)
        → ◌≡◌ {A = Asked} (record { request = Send a t w y; list = l }) (asked_of (fields_of bs))
    unfolding held_pairs
    send_made e w h y k =
        let c : l.count ≡ count_in bs = ap (λ (x : PairList). x.count) p ∙ length_list bs in
        ap {B = Asked} (λ (x : PairList). record { request = Send a t w y; list = x }) p ∙ ap asked_of (send_fields e w h y (rw c at k))

    pub allocate_made : code_in bs ≡ 7 → (kind part i : ℕ) → kind ≡ byte_at bs 3 → part ≡ part_in bs → i ≡ byte_at bs 12
        → ◌≡◌ {A = Asked} (record { request = Allocate a t kind part i; list = l }) (asked_of (fields_of bs))
    allocate_made e kind part i h k m =
        ap {B = Asked} (λ (x : PairList). record { request = Allocate a t kind part i; list = x }) p ∙ ap asked_of (allocate_fields e kind part i h k m)

-- a code with no fields
pub unknown_made : (bs : List ℕ) (a code : ℕ) → a ≡ actor_in bs → code_in bs ≡ code
    → code ≢ 1 → code ≢ 2 → code ≢ 3 → code ≢ 4 → code ≢ 5 → code ≢ 6 → code ≢ 7 → code ≢ 8 → code ≢ 9 → unknown code a ≡ fields_of bs
unfolding fields_of
unknown_made bs a code f e n1 n2 n3 n4 n5 n6 n7 n8 n9 =
    rw (f, e, ne_eqb code 1 n1, ne_eqb code 2 n2, ne_eqb code 3 n3, ne_eqb code 4 n4, ne_eqb code 5 n5, ne_eqb code 6 n6, ne_eqb code 7 n7, ne_eqb code 8 n8, ne_eqb code 9 n9, fields_of) refl

-- a code other than 6 and 7 has no list
pub no_list : (bs : List ℕ) → code_in bs ≢ 6 → code_in bs ≢ 7 → pairs_in (fields_of bs) ≡ []
no_list bs n6 n7 =
    let c = code_in bs in
    by_eq c 1 (λ e. ap pairs_in (sym (read_made bs _ _ refl refl e)))
    (λ n1. by_eq c 2 (λ e. ap pairs_in (sym (write_made bs _ _ refl refl e _ refl)))
    (λ n2. by_eq c 3 (λ e. ap pairs_in (sym (fetch_made bs _ _ refl refl e _ _ refl refl)))
    (λ n3. by_eq c 4 (λ e. ap pairs_in (sym (store_made bs _ _ refl refl e _ _ refl refl)))
    (λ n4. by_eq c 5 (λ e. ap pairs_in (sym (revoke_made bs _ _ refl refl e _ refl)))
    (λ n5. by_eq c 8 (λ e. ap pairs_in (sym (destroy_made bs _ _ refl refl e)))
    (λ n8. by_eq c 9 (λ e. ap pairs_in (sym (reclaim_made bs _ _ refl refl e)))
    (λ n9. ap pairs_in (sym (unknown_made bs _ _ refl refl n1 n2 n3 n4 n5 n6 n7 n8 n9)))))))))

-- who asks: the byte after the code, or nobody
module _ (bs : List ℕ) where
  pub actor_there : 1 < length bs → byte_at bs 1 ≡ actor_in bs
  actor_there h = get_d_within bs 1 0 nobody h

  pub actor_missing : length bs ≤ 1 → nobody ≡ actor_in bs
  actor_missing h = sym (get_or-eq_default bs nobody h)

-- any bytes
module _ (bs : List ℕ) where
  pub ask_fit : fits_of bs ≡ true → fields_of bs ≡ ask_from bs
  unfolding ask_from
  ask_fit e = rw (e, ask_from) refl

  pub ask_unfit : fits_of bs ≡ false → unknown (code_in bs) (actor_in bs) ≡ ask_from bs
  unfolding ask_from
  ask_unfit e = rw (e, ask_from) refl

  pub asked_fields : code_in bs ≢ 6 → code_in bs ≢ 7 → (q : Request) → q ≡ request_of (fields_of bs)
      → (x : Asked) → x ≡ record { request = q; list = held_pairs [] } → x ≡ asked_of (fields_of bs)
  asked_fields n6 n7 q f x s =
      s ∙ ap₂ {C = Asked} (λ (r : Request) (l : List Pair). record { request = r; list = held_pairs l }) f (sym (no_list bs n6 n7))

  pub asked_unfit : fits_of bs ≡ false → (code actor : ℕ) → code ≡ code_in bs → actor ≡ actor_in bs
      → (x : Asked) → x ≡ record { request = Unknown code actor; list = held_pairs [] } → x ≡ asked_of (ask_from bs)
  asked_unfit e code actor f g x s =
      s ∙ ap₂ {C = Asked} (λ (c a : ℕ). asked_of (unknown c a)) f g ∙ ap asked_of (ask_unfit e)
