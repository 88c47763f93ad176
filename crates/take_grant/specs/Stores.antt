-- Source document 001, 4.1 and 4.2: which entities Store links join. `s` is the row of the entities, 001's state.
use Rattle.std.specs.Prelude.{◌≡◌, true, List, [], ℕ, ◌<◌, length, get_or}
use Rattle.take_grant.specs.Entities.{Entity, Store, includes, cap_at}

-- 001: "direct-caps-of s sref ≡ case s sref of None => {} | Some e => e"
abbrev pub direct_caps : List Entity → ℕ → Entity
direct_caps s e = get_or s e []

-- 001: "caps-with-store s e ≡ {c' ∈ direct-caps-of s e. Store ∈ rights c'}", and
-- "store-connected-direct s ≡ {(ex, ey). ey ∈ entity ' caps-with-store s ex}"
pub data StoreDirect (s : List Entity) (x y : ℕ) : Type 0 where
  holds : (k : ℕ) → k < length (direct_caps s x) → includes Store (cap_at s x k).rights ≡ true → (cap_at s x k).entity ≡ y → StoreDirect s x y

-- 001: "store-connected s ≡ (store-connected-direct s)*"
pub data StoreConnected (s : List Entity) : ℕ → ℕ → Type 0 where
  here : {x : ℕ} → StoreConnected s x x
  step : {x y z : ℕ} → StoreDirect s x y → StoreConnected s y z → StoreConnected s x z

-- 001: "shares-caps s x y ≡ ∃ e. (x, e) ∈ store-connected s ∧ (y, e) ∈ store-connected s"
pub data SharesCaps (s : List Entity) (x y : ℕ) : Type 0 where
  common : (e : ℕ) → StoreConnected s x e → StoreConnected s y e → SharesCaps s x y

-- "joined by Store links": the smallest equivalence that contains every direct Store capability
pub data Joined (s : List Entity) : ℕ → ℕ → Type 0 where
  direct : {x y : ℕ} → StoreDirect s x y → Joined s x y
  itself : {x : ℕ} → Joined s x x
  back : {x y : ℕ} → Joined s x y → Joined s y x
  onward : {x y z : ℕ} → Joined s x y → Joined s y z → Joined s x z
