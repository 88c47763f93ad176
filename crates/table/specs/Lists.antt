-- A list by its length and the element at each place.
use Rattle.std.specs.Prelude.{List, [], ◌∷◌, ℕ, zero, suc, get_or}

unfoldable pub tabulate : {A : Type 0} → ℕ → (ℕ → A) → List A
tabulate zero f = []
tabulate (suc n) f = f 0 ∷ tabulate n (λ k. f (suc k))

-- the first n elements of a list, and d in place of each that it does not have
unfoldable pub padded : {A : Type 0} → ℕ → A → List A → List A
padded n d xs = tabulate n (λ k. get_or xs k d)
