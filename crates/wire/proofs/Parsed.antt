-- What the readers make of any bytes: a request of those that fit, and nothing of any others. By the code. Assumes nothing.
use Rattle.std.proofs.Common.{◌≡◌, refl, sym, ◌∙◌, ap, ap₂, ◌≢◌, true, cond, ◌&&◌, ◌||◌, Option, Some, None, List, [], ◌∷◌, ℕ, suc, ◌+◌, ◌-◌, ◌*◌, ◌<◌, ◌≤◌, leb, ltb, eqb, length, get_or, take, drop, arith}
use Rattle.std.proofs.lemmas.Bool.{cond-true, cond-false, le-leb, lt-ltb, ltb-true, ltb-false}
use Rattle.std.proofs.lemmas.List.{get_or-take, get_or-drop}
use Rattle.std.proofs.lemmas.Grind.{common_steps}
use Rattle.std.specs.Option.{is_some, unwrap_or}
use Rattle.std.specs.Int.{w32, w64, from_be_bytes}
use borrow.Author.Tests.{leb-true, eqb-true, eq-eqb}
use Rattle.mask.proofs.Tests.{by_cases, clash, and_true, and_intro}
use Rattle.table.specs.Lists.{tabulate, padded}
use Rattle.table.proofs.Lists.{length_tabulate, get_d_tabulate, as_tabulate}
use lib.ListN.{get_or-eq_default}
use Rattle.octets.specs.BigEndian.{byte_at, number_of, number_from}
use Rattle.requests.specs.declared.Pair.{Pair}
use Rattle.requests.specs.declared.PairList.{PairList}
use Rattle.requests.specs.declared.Request.{Request}
use Rattle.requests.specs.declared.Request.TheVariants.{Read, Write, Fetch, Store, Revoke, Send, Allocate, Destroy, Reclaim, Unknown}
use Rattle.requests.specs.Asks.{no_pair, request_of, held_pairs}
use Rattle.wire.specs.declared.Asked.{Asked}
use Rattle.wire.specs.Wires.{code_in, actor_in, count_in, list_place, size_of, list_fits, fits_of, pair_in, list_in, word_in, part_in, fields_of, ask_from, asked_of}
use Rattle.wire.specs.Helpers.{pair_at, list_of, plain_of, asked_in}
use Rattle.wire.proofs.Sizes.{fits_size, fits_code, send_count, allocate_count}
use Rattle.wire.proofs.Fields.{actor_there, length_list, send_made, allocate_made, read_made, write_made, fetch_made, store_made, revoke_made, destroy_made, reclaim_made, ask_fit, asked_fields, asked_unfit}

-- some bytes in the middle
module _ (bs : List ℕ) (n e : ℕ) where
  mid_at : (j : ℕ) → j < e → get_or (take e (drop n bs)) j 0 ≡ get_or bs (n + j) 0
  mid_at j h = get_or-take e (drop n bs) j 0 h ∙ get_or-drop n bs j 0

  length_mid : n + e ≤ length bs → length (take e (drop n bs)) ≡ e
  length_mid h = grind (arith, common_steps)

  -- a list that stands there
  mid_list : (count : ℕ) → list_place (code_in bs) + 1 ≡ n → count ≡ count_in bs → e ≡ 2 * count → tabulate count (pair_at (take e (drop n bs))) ≡ list_in bs
  unfolding list_in
  mid_list count p c l =
      as_tabulate (count_in bs) (pair_in bs) no_pair _ (length_tabulate count (pair_at (take e (drop n bs))) ∙ c)
      (λ k h. let i : k < count = omega arith in
      get_d_tabulate count (pair_at (take e (drop n bs))) k no_pair i
      ∙ ap₂ {C = Pair} (λ (x y : ℕ). record { from = x; to = y })
      (mid_at (2 * k) (omega arith) ∙ ap (byte_at bs) (omega arith))
      (mid_at (2 * k + 1) (omega arith) ∙ ap (byte_at bs) (omega arith)))

-- a list of so many pairs
module _ (count : ℕ) (bs : List ℕ) where
  pub some_list : (l : PairList) → list_of count bs ≡ Some l → (count ≤ 4) × (length bs ≡ 2 * count) × (l ≡ held_pairs (tabulate count (pair_at bs)))
  unfolding list_of
  some_list l e = let b = leb count 4 && eqb (length bs) (2 * count) in by_cases b
      (λ t. let i = and_true (leb count 4) (eqb (length bs) (2 * count)) t in
      (leb-true count 4 i.0, eqb-true (length bs) (2 * count) i.1, sym (ap (λ (o : Option PairList). unwrap_or o l) (sym (cond-true b _ _ t) ∙ e))))
      (λ f. clash {b = true} refl (ap is_some (sym (sym (cond-false b _ _ f) ∙ e))))

  pub list_some : count ≤ 4 → length bs ≡ 2 * count → (l : PairList) → l ≡ held_pairs (tabulate count (pair_at bs)) → Some l ≡ list_of count bs
  unfolding list_of
  list_some c n l e = ap Some e ∙ sym (cond-true (leb count 4 && eqb (length bs) (2 * count)) _ _ (and_intro (leb count 4) _ (le-leb count 4 c) (eq-eqb _ _ n)))

  pub list_none : (count ≤ 4 → length bs ≢ 2 * count) → None ≡ list_of count bs
  unfolding list_of
  list_none h = let b = leb count 4 && eqb (length bs) (2 * count) in by_cases b
      (λ t. let i = and_true (leb count 4) (eqb (length bs) (2 * count)) t in absurd (h (leb-true count 4 i.0) (eqb-true (length bs) (2 * count) i.1)))
      (λ f. sym (cond-false b _ _ f))

  pub no_such_list : list_of count bs ≡ None → count ≤ 4 → length bs ≢ 2 * count
  no_such_list e c n = clash {b = true} refl (ap is_some (list_some c n _ refl ∙ e))

  -- its pairs, with zeros after them
  pair_there : length bs ≡ 2 * count → (k : ℕ) → pair_at bs k ≡ get_or (tabulate count (pair_at bs)) k no_pair
  pair_there n k = by_cases (ltb k count)
      (λ t. sym (get_d_tabulate count (pair_at bs) k no_pair (ltb-true k count t)))
      (λ f. let o : count ≤ k = ltb-false k count f in
      ap₂ {C = Pair} (λ (x y : ℕ). record { from = x; to = y }) (get_or-eq_default bs 0 (omega arith)) (get_or-eq_default bs 0 (omega arith))
      ∙ sym (get_or-eq_default (tabulate count (pair_at bs)) no_pair (omega (arith, length_tabulate count (pair_at bs)))))

  pub made_list : length bs ≡ 2 * count → (pairs : List Pair) → pairs ≡ tabulate 4 (pair_at bs)
      → ◌≡◌ {A = PairList} (record { count = count; pairs = pairs }) (held_pairs (tabulate count (pair_at bs)))
  unfolding held_pairs padded
  made_list n pairs e = ap₂ {C = PairList} (λ (m : ℕ) (x : List Pair). record { count = m; pairs = x }) (sym (length_tabulate count (pair_at bs)))
      (e ∙ as_tabulate 4 (λ k. get_or (tabulate count (pair_at bs)) k no_pair) no_pair (tabulate 4 (pair_at bs)) (length_tabulate 4 (pair_at bs))
      (λ k h. get_d_tabulate 4 (pair_at bs) k no_pair h ∙ pair_there n k))

-- numbers of four and eight bytes, each at its place
module _ (bs : List ℕ) (n : ℕ) where
  from_place : (e : ℕ) → n + e ≤ length bs → take e (drop n bs) ≡ tabulate e (λ k. get_or bs (n + k) 0)
  from_place e h = as_tabulate e (λ k. get_or bs (n + k) 0) 0 (take e (drop n bs)) (length_mid bs n e h) (λ k i. mid_at bs n e k i)

pub word_read : (bs : List ℕ) → 7 ≤ length bs
    → from_be_bytes w32 (get_or bs 3 0 ∷ get_or bs 4 0 ∷ get_or bs 5 0 ∷ get_or bs 6 0 ∷ []) ≡ word_in bs
unfolding tabulate number_from
word_read bs h = let e : number_of (tabulate 4 (λ k. get_or bs (3 + k) 0)) ≡ word_in bs = sym (ap number_of (from_place bs 3 4 h)) in omega (arith, e)

pub part_read : (bs : List ℕ) → 12 ≤ length bs
    → from_be_bytes w64 (get_or bs 4 0 ∷ get_or bs 5 0 ∷ get_or bs 6 0 ∷ get_or bs 7 0 ∷ get_or bs 8 0 ∷ get_or bs 9 0 ∷ get_or bs 10 0 ∷ get_or bs 11 0 ∷ []) ≡ part_in bs
unfolding tabulate number_from
part_read bs h = let e : number_of (tabulate 8 (λ k. get_or bs (4 + k) 0)) ≡ part_in bs = sym (ap number_of (from_place bs 4 8 h)) in omega (arith, e)

module _ (bs : List ℕ) where
  -- bytes that fit, and bytes that do not
  pub some_asked : fits_of bs ≡ true → (x : Asked) → x ≡ asked_of (fields_of bs) → Some x ≡ asked_in bs
  unfolding asked_in
  some_asked f x e = ap Some e ∙ sym (cond-true (fits_of bs) _ _ f)

  pub none_asked : (fits_of bs ≡ true → ⊥) → None ≡ asked_in bs
  unfolding asked_in
  none_asked h = by_cases (fits_of bs) (λ t. absurd (h t)) (λ f. sym (cond-false (fits_of bs) _ _ f))

  pub is_some_asked : is_some (asked_in bs) ≡ fits_of bs
  unfolding asked_in
  is_some_asked = by_cases (fits_of bs) (λ t. ap is_some (cond-true (fits_of bs) _ _ t) ∙ sym t) (λ f. ap is_some (cond-false (fits_of bs) _ _ f) ∙ sym f)

  pub asked_or : (code actor : ℕ) → code ≡ code_in bs → actor ≡ actor_in bs → (x : Asked) → x ≡ record { request = Unknown code actor; list = held_pairs [] }
      → unwrap_or (asked_in bs) x ≡ asked_of (ask_from bs)
  unfolding asked_in
  asked_or code actor f g x s = by_cases (fits_of bs)
      (λ t. ap (λ (o : Option Asked). unwrap_or o x) (cond-true (fits_of bs) _ _ t) ∙ ap asked_of (ask_fit bs t))
      (λ n. ap (λ (o : Option Asked). unwrap_or o x) (cond-false (fits_of bs) _ _ n) ∙ asked_unfit bs n code actor f g x s)

  -- a code and the bytes that it takes
  fits_from : (n : ℕ) → length bs ≡ suc n → list_fits bs ≡ true → size_of (code_in bs) (count_in bs) ≡ suc n → fits_of bs ≡ true
  unfolding fits_of
  fits_from n l c s = let long = eqb (length bs) (size_of (code_in bs) (count_in bs)) in
      and_intro (ltb 0 (length bs)) (list_fits bs && long) (lt-ltb 0 (length bs) (omega arith)) (and_intro (list_fits bs) long c (eq-eqb _ _ (l ∙ sym s)))

  plain_fits : (k n : ℕ) → code_in bs ≡ k → cond (eqb k 6 || eqb k 7) (leb (count_in bs) 4) true ≡ true → size_of k (count_in bs) ≡ suc n → length bs ≡ suc n
      → fits_of bs ≡ true
  unfolding list_fits
  plain_fits k n e c s l = fits_from n l
      (ap (λ (x : ℕ). cond (eqb x 6 || eqb x 7) (leb (count_in bs) 4) true) e ∙ c)
      (ap (λ (x : ℕ). size_of x (count_in bs)) e ∙ s)

  some_plain : fits_of bs ≡ true → (q : Request) → q ≡ request_of (fields_of bs) → Some q ≡ plain_of bs
  unfolding plain_of
  some_plain f q e = ap Some e ∙ sym (cond-true (fits_of bs) _ _ f)

  -- each code with no list
  pub read_plain : code_in bs ≡ 1 → length bs ≡ 3 → Some (Read (get_or bs 1 0) (get_or bs 2 0)) ≡ plain_of bs
  unfolding size_of
  read_plain e l = some_plain (plain_fits 1 2 e refl refl l) _ (ap request_of (read_made bs _ _ (actor_there bs (omega arith)) refl e))

  pub write_plain : code_in bs ≡ 2 → length bs ≡ 7 → (w : ℕ) → w ≡ from_be_bytes w32 (get_or bs 3 0 ∷ get_or bs 4 0 ∷ get_or bs 5 0 ∷ get_or bs 6 0 ∷ [])
      → Some (Write (get_or bs 1 0) (get_or bs 2 0) w) ≡ plain_of bs
  unfolding size_of
  write_plain e l w v = some_plain (plain_fits 2 6 e refl refl l) _
      (ap request_of (write_made bs _ _ (actor_there bs (omega arith)) refl e w (v ∙ word_read bs (omega arith))))

  pub fetch_plain : code_in bs ≡ 3 → length bs ≡ 5 → Some (Fetch (get_or bs 1 0) (get_or bs 2 0) (get_or bs 3 0) (get_or bs 4 0)) ≡ plain_of bs
  unfolding size_of
  fetch_plain e l = some_plain (plain_fits 3 4 e refl refl l) _ (ap request_of (fetch_made bs _ _ (actor_there bs (omega arith)) refl e _ _ refl refl))

  pub store_plain : code_in bs ≡ 4 → length bs ≡ 5 → Some (Store (get_or bs 1 0) (get_or bs 2 0) (get_or bs 3 0) (get_or bs 4 0)) ≡ plain_of bs
  unfolding size_of
  store_plain e l = some_plain (plain_fits 4 4 e refl refl l) _ (ap request_of (store_made bs _ _ (actor_there bs (omega arith)) refl e _ _ refl refl))

  pub revoke_plain : code_in bs ≡ 5 → length bs ≡ 4 → Some (Revoke (get_or bs 1 0) (get_or bs 2 0) (get_or bs 3 0)) ≡ plain_of bs
  unfolding size_of
  revoke_plain e l = some_plain (plain_fits 5 3 e refl refl l) _ (ap request_of (revoke_made bs _ _ (actor_there bs (omega arith)) refl e _ refl))

  pub destroy_plain : code_in bs ≡ 8 → length bs ≡ 3 → Some (Destroy (get_or bs 1 0) (get_or bs 2 0)) ≡ plain_of bs
  unfolding size_of
  destroy_plain e l = some_plain (plain_fits 8 2 e refl refl l) _ (ap request_of (destroy_made bs _ _ (actor_there bs (omega arith)) refl e))

  pub reclaim_plain : code_in bs ≡ 9 → length bs ≡ 3 → Some (Reclaim (get_or bs 1 0) (get_or bs 2 0)) ≡ plain_of bs
  unfolding size_of
  reclaim_plain e l = some_plain (plain_fits 9 2 e refl refl l) _ (ap request_of (reclaim_made bs _ _ (actor_there bs (omega arith)) refl e))

  -- bytes that have none of these codes with its length
  no_code : code_in bs ≢ 6 → code_in bs ≢ 7 → (code_in bs ≡ 1 → length bs ≢ 3) → (code_in bs ≡ 2 → length bs ≢ 7) → (code_in bs ≡ 3 → length bs ≢ 5)
      → (code_in bs ≡ 4 → length bs ≢ 5) → (code_in bs ≡ 5 → length bs ≢ 4) → (code_in bs ≡ 8 → length bs ≢ 3) → (code_in bs ≡ 9 → length bs ≢ 3)
      → fits_of bs ≡ true → ⊥
  unfolding size_of
  no_code n6 n7 n1 n2 n3 n4 n5 n8 n9 t = fits_code bs t
      (λ e. n1 e (fits_size bs t 1 e)) (λ e. n2 e (fits_size bs t 2 e)) (λ e. n3 e (fits_size bs t 3 e)) (λ e. n4 e (fits_size bs t 4 e))
      (λ e. n5 e (fits_size bs t 5 e)) n6 n7 (λ e. n8 e (fits_size bs t 8 e)) (λ e. n9 e (fits_size bs t 9 e))

  pub none_plain : code_in bs ≢ 6 → code_in bs ≢ 7 → (code_in bs ≡ 1 → length bs ≢ 3) → (code_in bs ≡ 2 → length bs ≢ 7) → (code_in bs ≡ 3 → length bs ≢ 5)
      → (code_in bs ≡ 4 → length bs ≢ 5) → (code_in bs ≡ 5 → length bs ≢ 4) → (code_in bs ≡ 8 → length bs ≢ 3) → (code_in bs ≡ 9 → length bs ≢ 3)
      → None ≡ plain_of bs
  unfolding plain_of
  none_plain n6 n7 n1 n2 n3 n4 n5 n8 n9 = by_cases (fits_of bs) (λ t. absurd (no_code n6 n7 n1 n2 n3 n4 n5 n8 n9 t)) (λ f. sym (cond-false (fits_of bs) _ _ f))

  -- such a request, with an empty list beside it
  pub plain_asked : code_in bs ≢ 6 → code_in bs ≢ 7 → (q : Request) → plain_of bs ≡ Some q → (x : Asked) → x ≡ record { request = q; list = held_pairs [] }
      → Some x ≡ asked_in bs
  unfolding plain_of
  plain_asked n6 n7 q p x s = by_cases (fits_of bs)
      (λ t. let f : request_of (fields_of bs) ≡ q = ap (λ (o : Option Request). unwrap_or o q) (sym (cond-true (fits_of bs) _ _ t) ∙ p) in
      some_asked t x (asked_fields bs n6 n7 q (sym f) x s))
      (λ f. clash {b = true} refl (ap is_some (sym (sym (cond-false (fits_of bs) _ _ f) ∙ p))))

  pub plain_unasked : plain_of bs ≡ None → None ≡ asked_in bs
  unfolding plain_of
  plain_unasked p = none_asked (λ t. clash {b = true} refl (ap is_some (sym (cond-true (fits_of bs) _ _ t) ∙ p)))

  -- a send, whose list stands before its last byte
  pub send_asked : code_in bs ≡ 6 → 9 ≤ length bs → (l : PairList) → list_of (get_or bs 7 0) (take (length bs - 1 - 8) (drop 8 bs)) ≡ Some l
      → (w : ℕ) → w ≡ from_be_bytes w32 (get_or bs 3 0 ∷ get_or bs 4 0 ∷ get_or bs 5 0 ∷ get_or bs 6 0 ∷ [])
      → Some (record { request = Send (get_or bs 1 0) (get_or bs 2 0) w (get_or bs (length bs - 1) 0); list = l }) ≡ asked_in bs
  unfolding size_of list_fits held_pairs
  send_asked e h l s w v =
      let m = take (length bs - 1 - 8) (drop 8 bs) in
      let k : get_or bs 7 0 ≡ count_in bs = sym (ap (λ (x : ℕ). byte_at bs (list_place x)) e) in
      let c : get_or bs 7 0 ≤ 4 = (some_list (get_or bs 7 0) m l s).0 in
      let o : length bs - 1 - 8 ≡ 2 * get_or bs 7 0 = sym (length_mid bs 8 (length bs - 1 - 8) (omega arith)) ∙ (some_list (get_or bs 7 0) m l s).1 in
      let p : l ≡ held_pairs (list_in bs) = (some_list (get_or bs 7 0) m l s).2
      ∙ ap held_pairs (mid_list bs 8 (length bs - 1 - 8) (get_or bs 7 0) (ap (λ (x : ℕ). list_place x + 1) e) k o) in
      let r : l.count ≡ count_in bs = ap (λ (x : PairList). x.count) p ∙ length_list bs in
      let f : fits_of bs ≡ true = fits_from (8 + 2 * count_in bs) (omega arith)
      (ap (λ (x : ℕ). cond (eqb x 6 || eqb x 7) (leb (count_in bs) 4) true) e ∙ le-leb (count_in bs) 4 (omega arith))
      (ap (λ (x : ℕ). size_of x (count_in bs)) e ∙ omega arith) in
      some_asked f _ (send_made bs _ _ (actor_there bs (omega arith)) refl l p e w (v ∙ word_read bs (omega arith)) _ (ap (byte_at bs) (omega arith)))

  pub send_short : code_in bs ≡ 6 → length bs < 9 → None ≡ asked_in bs
  unfolding size_of
  send_short e h = none_asked (λ t. let o : length bs ≡ 9 + 2 * count_in bs = fits_size bs t 6 e in omega arith)

  pub send_unasked : code_in bs ≡ 6 → 9 ≤ length bs → list_of (get_or bs 7 0) (take (length bs - 1 - 8) (drop 8 bs)) ≡ None → None ≡ asked_in bs
  unfolding size_of
  send_unasked e h s = none_asked (λ t.
      let k : get_or bs 7 0 ≡ count_in bs = sym (ap (λ (x : ℕ). byte_at bs (list_place x)) e) in
      let o : length bs ≡ 9 + 2 * count_in bs = fits_size bs t 6 e in
      let c : count_in bs ≤ 4 = send_count bs t e in
      no_such_list (get_or bs 7 0) _ s (omega arith) (length_mid bs 8 (length bs - 1 - 8) (omega arith) ∙ omega arith))

  -- an allocate, whose list stands last
  pub allocate_asked : code_in bs ≡ 7 → 14 ≤ length bs → (l : PairList) → list_of (get_or bs 13 0) (take (length bs - 14) (drop 14 bs)) ≡ Some l
      → (w : ℕ) → w ≡ from_be_bytes w64 (get_or bs 4 0 ∷ get_or bs 5 0 ∷ get_or bs 6 0 ∷ get_or bs 7 0 ∷ get_or bs 8 0 ∷ get_or bs 9 0 ∷ get_or bs 10 0 ∷ get_or bs 11 0 ∷ [])
      → Some (record { request = Allocate (get_or bs 1 0) (get_or bs 2 0) (get_or bs 3 0) w (get_or bs 12 0); list = l }) ≡ asked_in bs
  unfolding size_of list_fits
  allocate_asked e h l s w v =
      let m = take (length bs - 14) (drop 14 bs) in
      let k : get_or bs 13 0 ≡ count_in bs = sym (ap (λ (x : ℕ). byte_at bs (list_place x)) e) in
      let c : get_or bs 13 0 ≤ 4 = (some_list (get_or bs 13 0) m l s).0 in
      let o : length bs - 14 ≡ 2 * get_or bs 13 0 = sym (length_mid bs 14 (length bs - 14) (omega arith)) ∙ (some_list (get_or bs 13 0) m l s).1 in
      let p : l ≡ held_pairs (list_in bs) = (some_list (get_or bs 13 0) m l s).2
      ∙ ap held_pairs (mid_list bs 14 (length bs - 14) (get_or bs 13 0) (ap (λ (x : ℕ). list_place x + 1) e) k o) in
      let f : fits_of bs ≡ true = fits_from (13 + 2 * count_in bs) (omega arith)
      (ap (λ (x : ℕ). cond (eqb x 6 || eqb x 7) (leb (count_in bs) 4) true) e ∙ le-leb (count_in bs) 4 (omega arith))
      (ap (λ (x : ℕ). size_of x (count_in bs)) e ∙ omega arith) in
      some_asked f _ (allocate_made bs _ _ (actor_there bs (omega arith)) refl l p e _ w _ refl (v ∙ part_read bs (omega arith)) refl)

  pub allocate_short : code_in bs ≡ 7 → length bs < 14 → None ≡ asked_in bs
  unfolding size_of
  allocate_short e h = none_asked (λ t. let o : length bs ≡ 14 + 2 * count_in bs = fits_size bs t 7 e in omega arith)

  pub allocate_unasked : code_in bs ≡ 7 → 14 ≤ length bs → list_of (get_or bs 13 0) (take (length bs - 14) (drop 14 bs)) ≡ None → None ≡ asked_in bs
  unfolding size_of
  allocate_unasked e h s = none_asked (λ t.
      let k : get_or bs 13 0 ≡ count_in bs = sym (ap (λ (x : ℕ). byte_at bs (list_place x)) e) in
      let o : length bs ≡ 14 + 2 * count_in bs = fits_size bs t 7 e in
      let c : count_in bs ≤ 4 = allocate_count bs t e in
      no_such_list (get_or bs 13 0) _ s (omega arith) (length_mid bs 14 (length bs - 14) (omega arith) ∙ omega arith))
