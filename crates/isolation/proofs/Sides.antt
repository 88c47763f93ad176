-- On which side of the clean objects a request's target stands, which records fit, and what a fetch brings. Assumes nothing.
use mathlib.Core.Path.{◌≡◌, refl, sym, ◌∙◌, ap, fun_ext}
use mathlib.Core.Logic.{◌≢◌}
use mathlib.Core.Bool.{Bool, true, false}
use Prim.Native.Nat.{ℕ, ◌≤◌, ◌<◌}
use native.Mathlib.Omega.{arith}
use Rattle.mask.specs.Sets.{has}
use Rattle.mask.proofs.Tests.{by_cases, by_eq, clash}
use Rattle.table.specs.declared.Record.{Record}
use Rattle.table.specs.declared.Table.{Table}
use Rattle.table.specs.Cells.{no_maker, record_at, status_at, stock_at}
use Rattle.table.proofs.SoundFacts.{Sound}
use Rattle.rights.specs.declared.Need.TheVariants.{Write, Send}
use Rattle.rights.specs.declared.Need.{Need}
use Rattle.rights.specs.Rows.{rows, worth_of, need_met}
use Rattle.refusals.specs.Refusals.{target_of}
use Rattle.effects.specs.Effects.{with_word}
use Rattle.isolation.specs.Clean.{Clean, setting}
use Rattle.isolation.proofs.Latest.{set_there, set_beside}
use Rattle.isolation.proofs.Invariant.{wk_alone, Isolated, RecordFits}
use Rattle.steps.proofs.Granted.{Granted}

-- a set in which a number is what it was
pub setting_same : (C : Clean) (n : ℕ) (b : Bool) → C n ≡ b → setting n b C ≡ C
setting_same C n b e = fun_ext (λ m. by_eq m n
    (λ q. set_there C n m b q ∙ sym (ap C q ∙ e))
    (set_beside C n m b))

-- wk alone reads, and neither writes nor sends
pub weak_no_write : need_met Write wk_alone ≡ false
unfolding rows worth_of need_met
weak_no_write = refl

pub weak_no_send : need_met Send wk_alone ≡ false
unfolding rows worth_of need_met
weak_no_send = refl

-- where the target is ---------------------------------------------------------------
module _ (t : Table) (C : Clean) (v : Isolated t C) (a s : ℕ) {wanted : ℕ} (need : Need) (g : Granted t a s wanted need) where
  pub clean_target : C a ≡ true → C (target_of t a s) ≡ true
  clean_target c = v.inside a s g.slot c g.filled

  -- what wk alone does not allow reaches no clean object from outside
  pub dirty_target : need_met need wk_alone ≡ false → C a ≡ false → C (target_of t a s) ≡ false
  dirty_target lack c = by_cases (C (target_of t a s)) (λ w. clash g.right (rw (v.outside a s g.slot c g.filled w) lack)) (λ w. w)

  pub same_side : need_met need wk_alone ≡ false → C (target_of t a s) ≡ C a
  same_side lack = by_cases (C a) (λ c. clean_target c ∙ sym c) (λ c. dirty_target lack c ∙ sym c)

-- records that fit --------------------------------------------------------------------
pub fits_live : (t : Table) (n : ℕ) (r : Record) → Sound t → n < 64 → status_at t n ≡ 1 → r.status ≡ 1 → r.kind ≤ 1
    → (r.maker ≢ no_maker → 1 ≤ status_at t r.maker)
    → ((k : ℕ) → k < 64 → has k r.stock ≡ true → (status_at t k ≡ 0) × ((m : ℕ) → m ≢ n → has k (stock_at t m) ≡ false))
    → RecordFits t n r
fits_live t n r d hn l p q made f = record {
  fine = record { low = omega arith; sort = q; still = λ h. absurd (h p); plain = λ h. absurd (omega arith) };
  maker = record { alone = λ h. absurd (omega arith); born = made };
  keep = λ h. omega arith;
  idle = λ h. absurd (h p);
  free = λ k hk h. ((f k hk h).0, λ e. absurd (omega (arith, (f k hk h).0, rw (← e) at l)));
  alone = λ m k hk hm h. (f k hk h).1 m hm;
  unlisted = λ m hm. by_cases (has n (stock_at t m)) (λ h. absurd (omega (arith, d.stocks m n hn h))) (λ h. h);
}

-- the stock that n has already
pub stock_kept : (t : Table) (n : ℕ) → Sound t → (k : ℕ) → k < 64 → has k (stock_at t n) ≡ true → (status_at t k ≡ 0) × ((m : ℕ) → m ≢ n → has k (stock_at t m) ≡ false)
stock_kept t n d k hk h = (d.stocks n k hk h, λ m hm. by_cases (has k (stock_at t m)) (λ q. absurd (hm (d.apart m n k hk q h))) (λ q. q))

pub fits_word : (t : Table) (n w : ℕ) → Sound t → n < 64 → status_at t n ≡ 1 → RecordFits t n (with_word (record_at t n) w)
fits_word t n w d hn l = fits_live t n _ d hn l l (d.records n).sort (d.makers n hn).born (stock_kept t n d)
