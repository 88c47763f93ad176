-- A number and its bytes: what was written reads as the number, what was read writes as the bytes. Laws over how many bytes
-- there are, by taking off the first byte; the loops go by the last. Assumes nothing.
use mathlib.Core.Path.{◌≡◌, refl, sym, ◌∙◌, ap, ap₂, subst}
use mathlib.Core.List.{List, [], ◌∷◌, ◌++◌}
use Prim.Native.Nat.{ℕ, zero, suc, ◌+◌, ◌-◌, ◌*◌, ◌/◌, ◌%◌, ◌^◌, ◌≤◌, ◌<◌}
use native.Mathlib.Nat.{add-mul, mul_assoc, add_assoc, pow-suc, pow-succ', one-le-pow, mod-eq_of_lt, mod-one, div-div-eq-div-mul, div-one, sub-zero, pow-le-pow_right, lt_of_lt_of_le}
use native.Mathlib.Numerals.{add-one}
use native.Mathlib.Omega.{arith}
use lib.ListN.{length, get_or, set, take, drop, length-set}
use lib.Seq.{take-suc, drop-length, drop-cons, drop-set-lt, get_or-set_same}
use lib.Arith.{digits_lt, digits_div, digits_mod, mod-mul}
use Rattle.octets.specs.BigEndian.{Bytes, bytes_of, number_from, number_of}

pow_pos : (k : ℕ) → 0 < 256 ^ k
pow_pos k = one-le-pow k 256 (omega arith)

-- the next byte moves what was read before one place up
shifted : (before b p r : ℕ) → (before * 256 + b) * p + r ≡ before * (256 * p) + (b * p + r)
shifted before b p r = rw (add-mul, mul_assoc, add_assoc)

pub length_bytes : (size n : ℕ) → length (bytes_of size n) ≡ size
unfolding bytes_of
length_bytes zero n = refl
length_bytes (suc size) n = ap suc (length_bytes size n)

-- what was read before counts by the power of the bytes that follow
pub number_from_lem : (before : ℕ) (bs : List ℕ) → number_from before bs ≡ before * 256 ^ length bs + number_of bs
unfolding number_from
number_from_lem before [] = omega arith
number_from_lem before (b ∷ bs) =
    number_from_lem (before * 256 + b) bs ∙ shifted before b (256 ^ length bs) (number_of bs)
    ∙ ap₂ (λ (p r : ℕ). before * p + r) (sym (pow-succ' 256 (length bs))) (ap (λ (x : ℕ). x * 256 ^ length bs + number_of bs) (omega arith) ∙ sym (number_from_lem (0 * 256 + b) bs))

pub number_lt : (bs : List ℕ) → Bytes bs → number_of bs < 256 ^ length bs
unfolding number_from
number_lt [] h = omega arith
number_lt (b ∷ bs) h =
    rw (number_from_lem (0 * 256 + b) bs, pow-succ' 256 (length bs))
    (digits_lt {q = 0 * 256 + b} {m = 256} (omega (arith, h 0)) (number_lt bs (λ i. h (suc i))))

-- at most k bytes
pub number_within : (k : ℕ) (bs : List ℕ) → length bs ≤ k → Bytes bs → number_of bs < 256 ^ k
number_within k bs h b = lt_of_lt_of_le (number_lt bs b) (pow-le-pow_right {n = 256} (omega arith) {i = length bs} {j = k} h)

-- bytes that are read in two goes
pub number_append : (before : ℕ) (xs ys : List ℕ) → number_from before (xs ++ ys) ≡ number_from (number_from before xs) ys
unfolding number_from
number_append before [] ys = refl
number_append before (x ∷ xs) ys = number_append (before * 256 + x) xs ys

-- reading what was written
pub number_bytes : (before size n : ℕ) → number_from before (bytes_of size n) ≡ before * 256 ^ size + n % 256 ^ size
unfolding bytes_of number_from
number_bytes before zero n = omega (arith, mod-one n)
number_bytes before (suc size) n =
    number_bytes (before * 256 + n / 256 ^ size % 256) size n ∙ shifted before (n / 256 ^ size % 256) (256 ^ size) (n % 256 ^ size)
    ∙ ap₂ (λ (p r : ℕ). before * p + r) (sym (pow-succ' 256 size)) (sym (ap (λ (p : ℕ). n % p) (pow-succ' 256 size) ∙ mod-mul n (omega arith) (pow_pos size)))

pub number_written : (size n : ℕ) → n < 256 ^ size → number_of (bytes_of size n) ≡ n
number_written size n h = number_bytes 0 size n ∙ (let e = mod-eq_of_lt h in omega arith)

-- writing what was read
bytes_number : (before : ℕ) (bs : List ℕ) → Bytes bs → bytes_of (length bs) (number_from before bs) ≡ bs
unfolding bytes_of number_from
bytes_number before [] h = refl
bytes_number before (b ∷ bs) h = ap₂ {C = List ℕ} (λ (x : ℕ) (r : List ℕ). x ∷ r)
    (ap (λ (m : ℕ). m / 256 ^ length bs % 256) (number_from_lem (before * 256 + b) bs)
    ∙ ap (λ (m : ℕ). m % 256) (digits_div (before * 256 + b) (number_lt bs (λ i. h (suc i)))) ∙ digits_mod before (h 0))
    (bytes_number (before * 256 + b) bs (λ i. h (suc i)))

pub bytes_read : (bs : List ℕ) (size : ℕ) → length bs ≡ size → Bytes bs → bytes_of size (number_of bs) ≡ bs
bytes_read bs size e h = rw (← e) (bytes_number 0 bs h)

-- the reading loop: one more byte at the end ------------------------------------
number_snoc : (before : ℕ) (bs : List ℕ) (b : ℕ) → number_from before (bs ++ (b ∷ [])) ≡ number_from before bs * 256 + b
unfolding number_from
number_snoc before [] b = refl
number_snoc before (x ∷ bs) b = number_snoc (before * 256 + x) bs b

pub number_next : (bs : List ℕ) (i : ℕ) → i < length bs → number_of (take (i + 1) bs) ≡ number_of (take i bs) * 256 + get_or bs i 0
number_next bs i h = rw (add-one, take-suc bs i 0 h) (number_snoc 0 (take i bs) (get_or bs i 0))

pub power_next : (n b i : ℕ) → n < 256 ^ i → b < 256 → n * 256 + b < 256 ^ (i + 1)
power_next n b i h g = rw (add-one, pow-suc) (digits_lt h g)

-- eight bytes fit 64 bits
pub number_fits : (n b i : ℕ) → n < 256 ^ i → b < 256 → i < 8 → n * 256 + b < 2 ^ 64
number_fits n b i h g l = lt_of_lt_of_le (power_next n b i h g) (pow-le-pow_right {n = 256} (omega arith) {i = i + 1} {j = 8} (omega arith))

-- the writing loop: one more byte in front ----------------------------------------
-- from i on stand the lowest bytes of n, and rest is what is above them
pub record Put (n size : ℕ) (bs : List ℕ) (rest i : ℕ) : Type 0 where
  pub within : i ≤ size
  pub long : length bs ≡ size
  pub above : rest ≡ n / 256 ^ (size - i)
  pub low : drop i bs ≡ bytes_of (size - i) n

pub put_none : (bs : List ℕ) (n : ℕ) → Put n (length bs) bs n (length bs)
unfolding bytes_of
put_none bs n =
    let z : length bs - length bs ≡ 0 = omega arith in
    record { within = omega arith; long = refl; above = rw z (sym (div-one n)); low = rw z (drop-length bs) }

put_suc : (n size : ℕ) (bs : List ℕ) (rest i : ℕ) → Put n size bs rest (suc i) → Put n size (set bs i (rest % 256)) (rest / 256) i
unfolding bytes_of
put_suc n size bs rest i p =
    let w = p.within in
    let z = p.long in
    let l = length-set bs i (rest % 256) in
    let s : size - i ≡ suc (size - suc i) = omega arith in
    record {
      within = omega arith;
      long = omega arith;
      above = ap (λ (x : ℕ). x / 256) p.above ∙ div-div-eq-div-mul n (256 ^ (size - suc i)) 256 ∙ (rw (s, pow-suc) refl);
      low =
          drop-cons (set bs i (rest % 256)) i 0 (omega arith)
          ∙ ap₂ {C = List ℕ} (λ (x : ℕ) (r : List ℕ). x ∷ r)
          (get_or-set_same bs i (rest % 256) 0 (omega arith) ∙ ap (λ (x : ℕ). x % 256) p.above) (drop-set-lt (suc i) bs i (rest % 256) (omega arith) ∙ p.low)
          ∙ (rw s refl);
    }

pub put_more : (n size : ℕ) (bs : List ℕ) (rest i : ℕ) → 0 < i → Put n size bs rest i → Put n size (set bs (i - 1) (rest % 256)) (rest / 256) (i - 1)
put_more n size bs rest i h p =
    let s : i ≡ suc (i - 1) = omega arith in
    put_suc n size bs rest (i - 1) (subst (λ (k : ℕ). Put n size bs rest k) s p)

pub put_all : (n size : ℕ) (bs : List ℕ) (rest i : ℕ) → i ≤ 0 → Put n size bs rest i → bs ≡ bytes_of size n
put_all n size bs rest i h p =
    let z : i ≡ 0 = omega arith in
    ap (λ (k : ℕ). drop k bs) (sym z) ∙ p.low ∙ ap (λ (k : ℕ). bytes_of (size - k) n) z ∙ ap (λ (k : ℕ). bytes_of k n) (sub-zero size)
