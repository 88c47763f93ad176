-- The links of a union are the union of the links, down to single capabilities. The argument: where only participants hold and are
-- held, links are what is held and nothing else, and a link asks for one right, here or there. Assumes nothing.
use mathlib.Core.Path.{◌≡◌, refl, sym, ◌∙◌, ap, ap₂}
use mathlib.Core.Bool.{Bool, true, false, ◌&&◌, ◌||◌, and_comm, and-or_distrib_right}
use Prim.Native.Nat.{ℕ, zero, suc, ◌<◌}
use lib.Dec.{eqb}
use borrow.Author.Tests.{eqb-true, eq-eqb}
use Rattle.mask.specs.Sets.{has, any_below}
use Rattle.mask.proofs.Tests.{by_cases, bool_ext, and_true, and_intro, or_cases, or_right, or_assoc}
use Rattle.mask.proofs.Below.{any_intro, any_elim, any_last, any_ext}
use Rattle.table.specs.declared.Capability.{Capability}
use Rattle.table.specs.Cells.{has_rd, has_wr, has_wk, has_tx}
use Rattle.relation.specs.Relation.{Right, rd, wr, wk, tx, bit_at, Holding}
use Rattle.relation.specs.Closure.{both_take_part, holds_strong, link}
use Rattle.links.specs.Links.{has_strong, capability_link}

abbrev pub Held : Type 0
Held = Right → ℕ → ℕ → Bool

-- the links of what is held, whoever takes part
unfoldable pub link_held : Held → ℕ → ℕ → Bool
link_held held x y = (held rd x y || held wr x y || held tx x y) || (held rd y x || held wr y x || held tx y x) || held wk y x

link_held_same : (f g : Held) (x y : ℕ)
    → ((b : Right) → f b x y ≡ g b x y) → ((b : Right) → f b y x ≡ g b y x) → link_held f x y ≡ link_held g x y
unfolding link_held
link_held_same f g x y p q = cc (p rd, p wr, p tx, q rd, q wr, q tx, q wk)

-- only participants hold and are held ----------------------------------------------
abbrev pub Among : Holding → Type 0
Among h = (b : Right) (x y : ℕ) → h.held b x y ≡ true → (h.node x ≡ true) × (h.node y ≡ true)

strong_out : {P : Type 0} (held : Held) (x y : ℕ) → (held rd x y || held wr x y || held tx x y) ≡ true
    → ((b : Right) → held b x y ≡ true → P) → P
strong_out held x y e k = or_cases (held rd x y || held wr x y) _ e (λ a. or_cases (held rd x y) _ a (k rd) (k wr)) (k tx)

pub link_held_lem : (h : Holding) (x y : ℕ) → Among h → link h x y ≡ link_held h.held x y
unfolding link both_take_part holds_strong link_held
link_held_lem h x y among = bool_ext _ _
    (λ e. (and_true (h.node x && h.node y) _ e).1)
    (λ e. and_intro (h.node x && h.node y) _
    (or_cases (holds_strong h x y || holds_strong h y x) _ e
    (λ a. or_cases (holds_strong h x y) _ a
    (λ s. strong_out h.held x y s (λ b t. and_intro _ _ (among b x y t).0 (among b x y t).1))
    (λ s. strong_out h.held y x s (λ b t. and_intro _ _ (among b y x t).1 (among b y x t).0)))
    (λ t. and_intro _ _ (among wk y x t).1 (among wk y x t).0))
    e)

-- a test on both ends, before each right and once before them all
pub part_once : (p : ℕ → Bool) (held : Held) (x y : ℕ)
    → ((p x && p y) && link_held (λ b u v. p u && (p v && held b u v)) x y) ≡ ((p x && p y) && link_held held x y)
unfolding link_held
part_once p held x y = by_cases (p x) (λ e. by_cases (p y) (λ f. rw (e, f) refl) (λ f. rw (e, f) refl)) (λ e. rw e refl)

-- the links of a union ---------------------------------------------------------------
or_three : (a b c p q r : Bool) → ((a || p) || (b || q) || (c || r)) ≡ ((a || b || c) || (p || q || r))
or_three true b c p q r = refl
or_three false b c true q r = sym (or_right (b || c) true refl)
or_three false true c false q r = refl
or_three false false c false true r = sym (or_right c true refl)
or_three false false c false false r = refl

pub held_or : (f g : Held) (x y : ℕ) → link_held (λ b u v. f b u v || g b u v) x y ≡ (link_held f x y || link_held g x y)
unfolding link_held
held_or f g x y =
    ap₂ (λ (s t : Bool). s || t || (f wk y x || g wk y x))
    (or_three (f rd x y) (f wr x y) (f tx x y) (g rd x y) (g wr x y) (g tx x y))
    (or_three (f rd y x) (f wr y x) (f tx y x) (g rd y x) (g wr y x) (g tx y x))
    ∙ or_three (f rd x y || f wr x y || f tx x y) _ (f wk y x) _ _ _

held_any : (n : ℕ) (f : ℕ → Held) (x y : ℕ) → link_held (λ b u v. any_below n (λ k. f k b u v)) x y ≡ any_below n (λ k. link_held (f k) x y)
unfolding link_held any_below
held_any zero f x y = refl
held_any (suc n) f x y =
    let below : Held = λ b u v. any_below n (λ k. f k b u v) in
    let all : Held = λ b u v. any_below (suc n) (λ k. f k b u v) in
    link_held_same all (λ b u v. below b u v || f n b u v) x y (λ b. any_last n _) (λ b. any_last n _)
    ∙ held_or below (f n) x y ∙ ap (λ (t : Bool). t || link_held (f n) x y) (held_any n f x y) ∙ sym (any_last n _)

-- one capability -----------------------------------------------------------------------
-- `holder` holds c, where that is wanted
abbrev one_held : Bool → ℕ → Capability → Held
one_held on holder c b u v = on && (has (bit_at b) c.rights && (eqb u holder && eqb v c.target))

strong_one : (r w t p : Bool) → (r && p || w && p || t && p) ≡ ((r || w || t) && p)
strong_one r w t p = sym (and-or_distrib_right (r || w) t p ∙ ap (λ (s : Bool). s || t && p) (and-or_distrib_right r w p))

held_one : (on : Bool) (holder : ℕ) (c : Capability) (u v : ℕ) → link_held (one_held on holder c) u v ≡ (on && capability_link holder c u v)
unfolding link_held capability_link
held_one false holder c u v = refl
held_one true holder c u v =
    let g = c.rights in
    let there = eqb u holder && eqb v c.target in
    let back = eqb v holder && eqb u c.target in
    ap₂ (λ (s t : Bool). s || t || has_wk g && back)
    (strong_one (has_rd g) (has_wr g) (has_tx g) there) (strong_one (has_rd g) (has_wr g) (has_tx g) back)
    ∙ or_assoc (has_strong g && there) _ _
    ∙ ap (λ (t : Bool). has_strong g && there || t) (sym (and-or_distrib_right (has_strong g) (has_wk g) back)
    ∙ ap (λ (t : Bool). (has_strong g || has_wk g) && t) (and_comm (eqb v holder) _))

-- capabilities one after another, each with its holder and whether it is wanted -------------
module _ (n : ℕ) (holder : ℕ → ℕ) (cap : ℕ → Capability) (on : ℕ → Bool) where
  abbrev pub row_held : Held
  row_held b x y = any_below n (λ k. one_held (on k) (holder k) (cap k) b x y)

  pub row_intro : (b : Right) (x y k : ℕ) → k < n → on k ≡ true → holder k ≡ x → (cap k).target ≡ y → has (bit_at b) (cap k).rights ≡ true
      → row_held b x y ≡ true
  row_intro b x y k h w u v r = any_intro n _ k h (and_intro (on k) _ w
      (and_intro (has (bit_at b) (cap k).rights) _ r (and_intro (eqb x (holder k)) _ (eq-eqb x _ (sym u)) (eq-eqb y _ (sym v)))))

  pub row_elim : {P : Type 0} (b : Right) (x y : ℕ) → row_held b x y ≡ true
      → ((k : ℕ) → k < n → on k ≡ true → holder k ≡ x → (cap k).target ≡ y → has (bit_at b) (cap k).rights ≡ true → P) → P
  row_elim b x y e f = any_elim n _ e (λ k h a.
      let p = and_true (on k) _ a in
      let q = and_true (has (bit_at b) (cap k).rights) _ p.1 in
      let z = and_true (eqb x (holder k)) (eqb y (cap k).target) q.1 in
      f k h p.0 (sym (eqb-true x _ z.0)) (sym (eqb-true y _ z.1)) q.0)

  pub row_link : (held : Held) (x y : ℕ) → ((b : Right) → held b x y ≡ row_held b x y) → ((b : Right) → held b y x ≡ row_held b y x)
      → link_held held x y ≡ any_below n (λ k. on k && capability_link (holder k) (cap k) x y)
  row_link held x y p q = link_held_same held row_held x y p q ∙ held_any n (λ k. one_held (on k) (holder k) (cap k)) x y
      ∙ any_ext n _ _ (λ k h. held_one (on k) (holder k) (cap k) x y)
