-- The request of any bytes, by their code: what holds of each code's request holds of the request of the bytes. By the
-- definition's nine tests in turn. Assumes nothing.
use mathlib.Core.Path.{◌≡◌, refl}
use mathlib.Core.Bool.{Bool, true, false, cond}
use mathlib.Core.List.{List}
use Prim.Native.Nat.{ℕ, ◌+◌, ◌*◌}
use lib.Dec.{eqb}
use borrow.Author.Tests.{eqb-true, eqb-false}
use Rattle.octets.specs.BigEndian.{byte_at}
use Rattle.requests.specs.Asks.{Ask, read, write, fetch, store, revoke, send, allocate, destroy, reclaim, unknown}
use Rattle.wire.specs.Wires.{code_in, actor_in, count_in, size_of, list_in, word_in, part_in, fields_of}
use Rattle.wire.proofs.Sizes.{size_none}

-- what holds of both is what holds of the one that is chosen
pub by_cond : {A : Type 0} (P : A → Type 0) (b : Bool) (x y : A) → (b ≡ true → P x) → (b ≡ false → P y) → P (cond b x y)
by_cond P true x y f g = f refl
by_cond P false x y f g = g refl

-- what is to be shown of the request of any bytes, by their code
pub record ByCode (P : Ask → Type 0) (bs : List ℕ) : Type 0 where
  pub one : code_in bs ≡ 1 → P (read (actor_in bs) (byte_at bs 2))
  pub two : code_in bs ≡ 2 → P (write (actor_in bs) (byte_at bs 2) (word_in bs))
  pub three : code_in bs ≡ 3 → P (fetch (actor_in bs) (byte_at bs 2) (byte_at bs 3) (byte_at bs 4))
  pub four : code_in bs ≡ 4 → P (store (actor_in bs) (byte_at bs 2) (byte_at bs 3) (byte_at bs 4))
  pub five : code_in bs ≡ 5 → P (revoke (actor_in bs) (byte_at bs 2) (byte_at bs 3))
  pub six : code_in bs ≡ 6 → P (send (actor_in bs) (byte_at bs 2) (word_in bs) (list_in bs) (byte_at bs (8 + 2 * count_in bs)))
  pub seven : code_in bs ≡ 7 → P (allocate (actor_in bs) (byte_at bs 2) (byte_at bs 3) (part_in bs) (byte_at bs 12) (list_in bs))
  pub eight : code_in bs ≡ 8 → P (destroy (actor_in bs) (byte_at bs 2))
  pub nine : code_in bs ≡ 9 → P (reclaim (actor_in bs) (byte_at bs 2))
  pub none : ((count : ℕ) → 0 ≡ size_of (code_in bs) count) → P (unknown (code_in bs) (actor_in bs))

pub by_code : (P : Ask → Type 0) (bs : List ℕ) → ByCode P bs → P (fields_of bs)
unfolding fields_of
by_code P bs b =
    let c = code_in bs in
    by_cond P (eqb c 1) _ _ (λ e. b.one (eqb-true c 1 e))
    (λ n1. by_cond P (eqb c 2) _ _ (λ e. b.two (eqb-true c 2 e))
    (λ n2. by_cond P (eqb c 3) _ _ (λ e. b.three (eqb-true c 3 e))
    (λ n3. by_cond P (eqb c 4) _ _ (λ e. b.four (eqb-true c 4 e))
    (λ n4. by_cond P (eqb c 5) _ _ (λ e. b.five (eqb-true c 5 e))
    (λ n5. by_cond P (eqb c 6) _ _ (λ e. b.six (eqb-true c 6 e))
    (λ n6. by_cond P (eqb c 7) _ _ (λ e. b.seven (eqb-true c 7 e))
    (λ n7. by_cond P (eqb c 8) _ _ (λ e. b.eight (eqb-true c 8 e))
    (λ n8. by_cond P (eqb c 9) _ _ (λ e. b.nine (eqb-true c 9 e))
    (λ n9. b.none (λ n. size_none c n (eqb-false c 1 n1) (eqb-false c 2 n2) (eqb-false c 3 n3) (eqb-false c 4 n4)
    (eqb-false c 5 n5) (eqb-false c 6 n6) (eqb-false c 7 n7) (eqb-false c 8 n8) (eqb-false c 9 n9)))))))))))
