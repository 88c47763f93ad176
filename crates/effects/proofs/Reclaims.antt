-- What a reclaim leaves at each place: the unborn record at the number, the number in the actor's stock, no capability and no maker byte that
-- names it, and all else as it was. By the laws of a put and of what is forgotten. Assumes nothing.
use mathlib.Core.Path.{◌≡◌, refl, sym, ◌∙◌, ap, subst}
use mathlib.Core.Logic.{◌≢◌}
use Prim.Native.Nat.{ℕ, ◌<◌}
use Rattle.mask.specs.Sets.{including}
use Rattle.mask.proofs.Tests.{by_eq}
use Rattle.table.specs.declared.Record.{Record}
use Rattle.table.specs.declared.Table.{Table}
use Rattle.table.specs.Cells.{no_maker, unborn_record, no_record, record_at, slot_at, maker_at, stock_at, put_record}
use Rattle.table.proofs.Lists.{put_any}
use Rattle.table.proofs.Cells.{Sized, sized_put_record, record_same, record-other}
use Rattle.forgetting.specs.Forgetting.{unnamed, maker_left, unmade, forgotten}
use Rattle.forgetting.proofs.Left.{forgotten_slot, forgotten_record, forgotten_sized, forgotten_any}
use Rattle.effects.specs.Effects.{with_stock, joined, reclaimed}
use Rattle.effects.proofs.Makers.{same_maker}

-- slots: whoever holds them
pub reclaimed_slot : (t : Table) (a g n j : ℕ) → slot_at (reclaimed t a g) n j ≡ unnamed g (slot_at t n j)
unfolding reclaimed joined
reclaimed_slot t a g n j = forgotten_slot t g n j

-- a maker at any place of any table: the same, or nobody where the number was named or is it
pub reclaimed_maker : (P : ℕ → Type 0) (t : Table) (a g n : ℕ) → P (maker_at t n) → P (maker_left g (maker_at t n)) → (n ≡ g → P no_maker) → P (maker_at (reclaimed t a g) n)
unfolding reclaimed joined
reclaimed_maker P t a g n old left own =
    let u = put_record (forgotten t g) g unborn_record in
    rw (same_maker u a n (with_stock (record_at u a) (including g (stock_at u a))) refl)
    (put_any (λ r. P r.maker) (forgotten t g).records g n unborn_record no_record own
    (forgotten_any (λ r. P r.maker) t g n left (λ e. subst (λ (r : Record). P r.maker) e old)))

module _ (t : Table) (a g : ℕ) (z : Sized t) (ha : a < 64) (hg : g < 64) (ne : a ≢ g) where
  sized1 : Sized (put_record (forgotten t g) g unborn_record)
  sized1 = sized_put_record (forgotten t g) g unborn_record (forgotten_sized t g z)

  pub reclaimed_sized : Sized (reclaimed t a g)
  unfolding reclaimed joined
  reclaimed_sized = sized_put_record (put_record (forgotten t g) g unborn_record) a _ sized1

  -- the number itself
  pub reclaimed_unborn : record_at (reclaimed t a g) g ≡ unborn_record
  unfolding reclaimed joined
  reclaimed_unborn = record-other (put_record (forgotten t g) g unborn_record) a g _ (λ e. ne (sym e)) ∙ record_same (forgotten t g) g unborn_record (forgotten_sized t g z) hg

  -- the actor
  actor1 : record_at (put_record (forgotten t g) g unborn_record) a ≡ unmade g (record_at t a)
  actor1 = record-other (forgotten t g) g a unborn_record ne ∙ forgotten_record t g a z ha

  pub reclaimed_actor : record_at (reclaimed t a g) a ≡ with_stock (unmade g (record_at t a)) (including g (stock_at t a))
  unfolding reclaimed joined
  reclaimed_actor = record_same (put_record (forgotten t g) g unborn_record) a _ sized1 ha ∙ ap (λ (r : Record). with_stock r (including g r.stock)) actor1

  -- everybody else
  pub reclaimed_other : (n : ℕ) → n < 64 → n ≢ a → n ≢ g → record_at (reclaimed t a g) n ≡ unmade g (record_at t n)
  unfolding reclaimed joined
  reclaimed_other n hn p q = record-other (put_record (forgotten t g) g unborn_record) a n _ p ∙ record-other (forgotten t g) g n unborn_record q ∙ forgotten_record t g n z hn

  -- a fact of every record: of the unborn one, of the actor's, of the others'
  pub reclaimed_record : (P : ℕ → Record → Type 0) → P g unborn_record → P a (with_stock (unmade g (record_at t a)) (including g (stock_at t a)))
      → ((n : ℕ) → n < 64 → n ≢ a → n ≢ g → P n (unmade g (record_at t n))) → (n : ℕ) → n < 64 → P n (record_at (reclaimed t a g) n)
  reclaimed_record P own actor other n hn = by_eq n g
      (λ e. rw (e, reclaimed_unborn) own)
      (λ e. by_eq n a (λ f. rw (f, reclaimed_actor) actor) (λ f. rw (reclaimed_other n hn f e) (other n hn f e)))
