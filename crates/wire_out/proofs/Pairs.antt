-- Pairs as bytes, two to a pair: how many they are, and one more at the end. Pairs that were written are read back from where they stand,
-- and pairs that were read are written back. By the pairs, one by one. Assumes nothing.
use mathlib.Core.Path.{◌≡◌, refl, sym, ◌∙◌, ap, ap₂}
use mathlib.Core.List.{List, [], ◌∷◌, ◌++◌}
use Prim.Native.Nat.{ℕ, zero, suc, ◌+◌, ◌*◌, ◌^◌, ◌≤◌, ◌<◌}
use native.Mathlib.Omega.{arith}
use lib.ListN.{length, get_or, take, drop, length-drop}
use lib.Seq.{get_or-drop}
use Rattle.table.specs.Lists.{tabulate}
use Rattle.table.proofs.Lists.{length_tabulate, tabulate_snoc}
use Rattle.octets.specs.BigEndian.{byte_at}
use Rattle.octets.proofs.Lists.{tabulate_is, take_pair}
use Rattle.requests.specs.declared.Pair.{Pair}
use Rattle.requests.specs.declared.PairList.{PairList}
use Rattle.requests.specs.Asks.{PairsInBits, no_pair, pair_at, pairs_of}
use Rattle.wire_out.specs.Written.{pair_bytes}

pub length_pairs : (ps : List Pair) → length (pair_bytes ps) ≡ 2 * length ps
unfolding pair_bytes
length_pairs [] = refl
length_pairs (p ∷ ps) = omega (arith, length_pairs ps)

-- one more pair at the end
pairs_snoc : (ps : List Pair) (p : Pair) → pair_bytes (ps ++ (p ∷ [])) ≡ pair_bytes ps ++ (p.from ∷ p.to ∷ [])
unfolding pair_bytes
pairs_snoc [] p = refl
pairs_snoc (q ∷ ps) p = ap (λ (l : List ℕ). q.from ∷ q.to ∷ l) (pairs_snoc ps p)

pub pairs_next : (f : ℕ → Pair) (k : ℕ) → pair_bytes (tabulate (suc k) f) ≡ pair_bytes (tabulate k f) ++ ((f k).from ∷ (f k).to ∷ [])
pairs_next f k = ap pair_bytes (tabulate_snoc k f) ∙ pairs_snoc (tabulate k f) (f k)

-- reading, from a place on ---------------------------------------------------------------
-- pair k of a list whose count stands at `place`, and the same by what stands after the count
abbrev pub pair_from : List ℕ → ℕ → ℕ → Pair
pair_from bs place k = record { from = byte_at bs (place + 1 + 2 * k); to = byte_at bs (place + 2 + 2 * k) }

pair_after : (bs : List ℕ) (place k : ℕ)
    → pair_from bs place k ≡ record { from = byte_at (drop (place + 1) bs) (2 * k); to = byte_at (drop (place + 1) bs) (2 * k + 1) }
pair_after bs place k =
    let e : place + 2 + 2 * k ≡ place + 1 + (2 * k + 1) = omega arith in
    rw (e, get_or-drop (place + 1) bs (2 * k) 0, get_or-drop (place + 1) bs (2 * k + 1) 0) refl

-- a pair that was written
pair_read : (ps : List Pair) (rest : List ℕ) (k : ℕ) → k < length ps
    → ◌≡◌ {A = Pair} (record { from = byte_at (pair_bytes ps ++ rest) (2 * k); to = byte_at (pair_bytes ps ++ rest) (2 * k + 1) }) (get_or ps k no_pair)
unfolding pair_bytes
pair_read [] rest k h = absurd (omega arith)
pair_read (p ∷ ps) rest zero h = refl
pair_read (p ∷ ps) rest (suc k) h =
    let e : 2 * suc k ≡ suc (suc (2 * k)) = omega arith in
    let f : 2 * suc k + 1 ≡ suc (suc (2 * k + 1)) = omega arith in
    rw (f, e) (pair_read ps rest k (omega arith))

pub pairs_read : (bs : List ℕ) (place : ℕ) (ps : List Pair) (rest : List ℕ) → drop (place + 1) bs ≡ pair_bytes ps ++ rest
    → tabulate (length ps) (pair_from bs place) ≡ ps
pairs_read bs place ps rest e = tabulate_is (length ps) (pair_from bs place) no_pair ps refl
    (λ k h. pair_after bs place k ∙ (rw e (pair_read ps rest k h)))

-- pairs that were read
pub pairs_back : (bs : List ℕ) (place n : ℕ) → place + 1 + 2 * n ≤ length bs
    → pair_bytes (tabulate n (pair_from bs place)) ≡ take (2 * n) (drop (place + 1) bs)
unfolding pair_bytes tabulate
pairs_back bs place zero h = refl
pairs_back bs place (suc n) h =
    let xs = drop (place + 1) bs in
    pairs_next (pair_from bs place) n
    ∙ ap₂ (λ (l : List ℕ) (p : Pair). l ++ (p.from ∷ p.to ∷ [])) (pairs_back bs place n (omega arith)) (pair_after bs place n)
    ∙ sym (take_pair xs n 0 (omega (arith, length-drop (place + 1) bs)))

-- pairs of bytes are within their bits
pub pairs_in_bits : (n : ℕ) (f : ℕ → Pair) → ((k : ℕ) → ((f k).from < 2 ^ 8) × ((f k).to < 2 ^ 8)) → PairsInBits (tabulate n f)
unfolding tabulate
pairs_in_bits zero f h = tt
pairs_in_bits (suc n) f h = ((h 0).0, (h 0).1, pairs_in_bits n (λ k. f (suc k)) (λ k. h (suc k)))

-- the code's list has as many pairs as its count says
pub length_held : (list : PairList) → length (pairs_of list) ≡ list.count
unfolding pairs_of
length_held list = length_tabulate list.count (pair_at list)
