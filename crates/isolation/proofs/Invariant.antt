-- The isolation invariant of a table and its clean objects C: the table is sound; each clean number is born; a filled slot of a
-- clean object names a clean object; a filled slot of any other object that names a clean object has rights exactly wk.
-- A put of a slot keeps it where the slot fits, and so does a put of a record; what is put on an object that is not clean leaves
-- the clean objects as they were; equal puts keep two tables in agreement, on every field but the maker. Assumes nothing.
use mathlib.Core.Path.{◌≡◌, refl, sym, ◌∙◌, ap}
use mathlib.Core.Logic.{◌≢◌}
use mathlib.Core.Bool.{true, false}
use Prim.Native.Nat.{ℕ, ◌≤◌, ◌<◌}
use native.Mathlib.Omega.{arith}
use Rattle.mask.specs.Sets.{has}
use Rattle.mask.proofs.Tests.{by_cases, by_eq, clash}
use Rattle.table.specs.declared.Capability.{Capability}
use Rattle.table.specs.declared.Record.{Record}
use Rattle.table.specs.declared.Table.{Table}
use Rattle.table.specs.Cells.{slot_at, status_at, maker_at, stock_at, put_record, put_slot}
use Rattle.table.proofs.Cells.{Sized, sized_put_slot, sized_put_record, record_same, record-other, slot_same, slot_other, slot_beside, slot_put, record-put, record-high}
use Rattle.table.proofs.SoundFacts.{RecordFine, MakerFine, SlotFine, Sound}
use Rattle.isolation.specs.Clean.{Clean}
use Rattle.effects.specs.Effects.{with_word, with_stock}
use Rattle.isolation.specs.Demand.{SameFields, AgreeOn}

-- rights of wk and nothing else
abbrev pub wk_alone : ℕ
wk_alone = 4

pub record Isolated (t : Table) (C : Clean) : Type 0 where
  pub sound : Sound t
  pub born : (n : ℕ) → C n ≡ true → 1 ≤ status_at t n
  pub inside : (n j : ℕ) → j < 8 → C n ≡ true → 1 ≤ (slot_at t n j).rights → C (slot_at t n j).target ≡ true
  pub outside : (n j : ℕ) → j < 8 → C n ≡ false → 1 ≤ (slot_at t n j).rights → C (slot_at t n j).target ≡ true → (slot_at t n j).rights ≡ wk_alone

-- an unborn number is nobody, and so is one above 63
pub nobody_clean : (t : Table) (C : Clean) (n : ℕ) → Isolated t C → status_at t n ≡ 0 → C n ≡ false
nobody_clean t C n v e = by_cases (C n) (λ h. absurd (omega (arith, v.born n h))) (λ h. h)

pub clean_low : (t : Table) (C : Clean) (n : ℕ) → Isolated t C → 64 ≤ n → C n ≡ false
clean_low t C n v h = nobody_clean t C n v (ap (λ (r : Record). r.status) (record-high t n v.sound.size h))

-- a slot is put ------------------------------------------------------------------
pub record SlotFits (t : Table) (C : Clean) (n : ℕ) (c : Capability) : Type 0 where
  pub fine : SlotFine (status_at t n) (status_at t c.target) c
  pub in_clean : C n ≡ true → 1 ≤ c.rights → C c.target ≡ true
  pub out_clean : C n ≡ false → 1 ≤ c.rights → C c.target ≡ true → c.rights ≡ wk_alone

put_slot_sound : (t : Table) (n j : ℕ) (c : Capability) → Sound t → n < 64 → j < 8 → SlotFine (status_at t n) (status_at t c.target) c → Sound (put_slot t n j c)
put_slot_sound t n j c d hn hj f = record {
  size = sized_put_slot t n j c d.size;
  records = d.records;
  makers = d.makers;
  slots = λ m k hk. slot_put (λ x. SlotFine (status_at t m) (status_at t x.target) x) t n j m k c d.size hn hj hk (λ e g. rw e f) (d.slots m k hk);
  stocks = d.stocks;
  apart = d.apart;
}

pub put_slot_isolated : (t : Table) (C : Clean) (n j : ℕ) (c : Capability) → Isolated t C → n < 64 → j < 8 → SlotFits t C n c → Isolated (put_slot t n j c) C
put_slot_isolated t C n j c v hn hj f = record {
  sound = put_slot_sound t n j c v.sound hn hj f.fine;
  born = v.born;
  inside = λ m k hk. slot_put (λ x. C m ≡ true → 1 ≤ x.rights → C x.target ≡ true) t n j m k c v.sound.size hn hj hk (λ e g. rw e f.in_clean) (v.inside m k hk);
  outside = λ m k hk. slot_put (λ x. C m ≡ false → 1 ≤ x.rights → C x.target ≡ true → x.rights ≡ wk_alone) t n j m k c v.sound.size hn hj hk (λ e g. rw e f.out_clean) (v.outside m k hk);
}

-- a record is put ------------------------------------------------------------------
pub record RecordFits (t : Table) (n : ℕ) (r : Record) : Type 0 where
  pub fine : RecordFine r
  pub maker : MakerFine r.status (status_at t r.maker) r.maker
  pub keep : 1 ≤ status_at t n → 1 ≤ r.status
  pub idle : r.status ≢ 1 → (j : ℕ) → j < 8 → (slot_at t n j).rights ≡ 0
  pub free : (k : ℕ) → k < 64 → has k r.stock ≡ true → (status_at t k ≡ 0) × (k ≢ n)
  pub alone : (m k : ℕ) → k < 64 → m ≢ n → has k r.stock ≡ true → has k (stock_at t m) ≡ false
  pub unlisted : (m : ℕ) → m ≢ n → has n (stock_at t m) ≡ false

pub status_up : (t : Table) (n m : ℕ) (r : Record) → Sized t → n < 64 → (1 ≤ status_at t n → 1 ≤ r.status) → 1 ≤ status_at t m → 1 ≤ status_at (put_record t n r) m
status_up t n m r z hn keep h = record-put (λ x. 1 ≤ x.status) t n m r z hn (λ e. keep (rw e at h)) (λ e. h)

-- so a maker that was born is born
maker_up : (t : Table) (n : ℕ) (r : Record) → Sized t → n < 64 → (1 ≤ status_at t n → 1 ≤ r.status)
    → (a m : ℕ) → MakerFine a (status_at t m) m → MakerFine a (status_at (put_record t n r) m) m
maker_up t n r z hn keep a m f = record { alone = f.alone; born = λ q. status_up t n m r z hn keep (f.born q) }

put_record_sound : (t : Table) (n : ℕ) (r : Record) → Sound t → n < 64 → RecordFits t n r → Sound (put_record t n r)
put_record_sound t n r d hn f = record {
  size = sized_put_record t n r d.size;
  records = λ m. record-put RecordFine t n m r d.size hn (λ e. f.fine) (λ e. d.records m);
  makers = λ m hm. record-put (λ x. MakerFine x.status (status_at (put_record t n r) x.maker) x.maker) t n m r d.size hn
      (λ e. maker_up t n r d.size hn f.keep r.status r.maker f.maker)
      (λ e. maker_up t n r d.size hn f.keep (status_at t m) (maker_at t m) (d.makers m hm));
  slots = λ m j hj. record {
    blank = (d.slots m j hj).blank;
    held = λ h. record-put (λ x. x.status ≡ 1) t n m r d.size hn
        (λ e. by_eq r.status 1 (λ q. q) (λ q. absurd (omega (arith, rw (← e) at (f.idle q j hj)))))
        (λ e. (d.slots m j hj).held h);
    named = λ h. status_up t n (slot_at t m j).target r d.size hn f.keep ((d.slots m j hj).named h);
    high = (d.slots m j hj).high;
  };
  stocks = λ m k hk. record-put (λ x. has k x.stock ≡ true → status_at (put_record t n r) k ≡ 0) t n m r d.size hn
      (λ e h. record-put (λ x. x.status ≡ 0) t n k r d.size hn (λ q. absurd ((f.free k hk h).1 q)) (λ q. (f.free k hk h).0))
      (λ e h. record-put (λ x. x.status ≡ 0) t n k r d.size hn (λ q. clash h (rw q (f.unlisted m e))) (λ q. d.stocks m k hk h));
  apart = λ m l k hk. record-put (λ x. has k x.stock ≡ true → has k (stock_at (put_record t n r) l) ≡ true → m ≡ l) t n m r d.size hn
      (λ e h. record-put (λ x. has k x.stock ≡ true → m ≡ l) t n l r d.size hn (λ q g. e ∙ sym q) (λ q g. clash g (f.alone l k hk q h)))
      (λ e h. record-put (λ x. has k x.stock ≡ true → m ≡ l) t n l r d.size hn (λ q g. clash h (f.alone m k hk e g)) (λ q g. d.apart m l k hk h g));
}

pub put_record_isolated : (t : Table) (C : Clean) (n : ℕ) (r : Record) → Isolated t C → n < 64 → RecordFits t n r → Isolated (put_record t n r) C
put_record_isolated t C n r v hn f = record {
  sound = put_record_sound t n r v.sound hn f;
  born = λ m h. status_up t n m r v.sound.size hn f.keep (v.born m h);
  inside = v.inside;
  outside = v.outside;
}

-- the same fields -------------------------------------------------------------------------
pub fields_same : {r s : Record} → r ≡ s → SameFields r s
fields_same e = record {
  status = ap (λ (x : Record). x.status) e;
  kind = ap (λ (x : Record). x.kind) e;
  word = ap (λ (x : Record). x.word) e;
  stock = ap (λ (x : Record). x.stock) e;
}

pub fields_sym : {r s : Record} → SameFields r s → SameFields s r
fields_sym f = record { status = sym f.status; kind = sym f.kind; word = sym f.word; stock = sym f.stock }

pub fields_trans : {r s q : Record} → SameFields r s → SameFields s q → SameFields r q
fields_trans f g = record { status = f.status ∙ g.status; kind = f.kind ∙ g.kind; word = f.word ∙ g.word; stock = f.stock ∙ g.stock }

pub fields_word : {r s : Record} (w x : ℕ) → SameFields r s → w ≡ x → SameFields (with_word r w) (with_word s x)
fields_word w x f e = record { status = f.status; kind = f.kind; word = e; stock = f.stock }

pub fields_stock : {r s : Record} (w x : ℕ) → SameFields r s → w ≡ x → SameFields (with_stock r w) (with_stock s x)
fields_stock w x f e = record { status = f.status; kind = f.kind; word = f.word; stock = e }

-- agreement on the clean objects ----------------------------------------------------------
module _ (C : Clean) (t : Table) (n : ℕ) (out : C n ≡ false) where
  apart_from : (m : ℕ) → C m ≡ true → m ≢ n
  apart_from m h e = clash h (rw e out)

  pub agree_record_out : (r : Record) → AgreeOn C t (put_record t n r)
  agree_record_out r = record {
    records = λ m h. fields_same (sym (record-other t n m r (apart_from m h)));
    slots = λ m j hj h. refl;
  }

  pub agree_slot_out : (j : ℕ) (c : Capability) → j < 8 → AgreeOn C t (put_slot t n j c)
  agree_slot_out j c hj = record {
    records = λ m h. fields_same refl;
    slots = λ m k hk h. sym (slot_other t n j m k c hj hk (apart_from m h));
  }

pub agree_refl : (C : Clean) (t : Table) → AgreeOn C t t
agree_refl C t = record { records = λ m h. fields_same refl; slots = λ m k hk h. refl }

pub agree_sym : {C : Clean} {t u : Table} → AgreeOn C t u → AgreeOn C u t
agree_sym a = record { records = λ m h. fields_sym (a.records m h); slots = λ m k hk h. sym (a.slots m k hk h) }

pub agree_trans : {C : Clean} {t u w : Table} → AgreeOn C t u → AgreeOn C u w → AgreeOn C t w
agree_trans a b = record { records = λ m h. fields_trans (a.records m h) (b.records m h); slots = λ m k hk h. a.slots m k hk h ∙ b.slots m k hk h }

module _ (C : Clean) (t u : Table) (zt : Sized t) (zu : Sized u) (a : AgreeOn C t u) (n : ℕ) (hn : n < 64) where
  pub agree_record : (r s : Record) → SameFields r s → AgreeOn C (put_record t n r) (put_record u n s)
  agree_record r s e = record {
    records = λ m h. by_eq m n
        (λ q. rw (q, record_same t n r zt hn, record_same u n s zu hn) e)
        (λ q. rw (record-other t n m r q, record-other u n m s q) (a.records m h));
    slots = a.slots;
  }

  pub agree_slot : (j : ℕ) (c d : Capability) → j < 8 → c ≡ d → AgreeOn C (put_slot t n j c) (put_slot u n j d)
  agree_slot j c d hj e = record {
    records = a.records;
    slots = λ m k hk h. by_eq m n
        (λ q. by_eq k j
        (λ g. rw (q, g, slot_same t n j c zt hn hj, slot_same u n j d zu hn hj) e)
        (λ g. rw (slot_beside t n j m k c g hj hk, slot_beside u n j m k d g hj hk) (a.slots m k hk h)))
        (λ q. rw (slot_other t n j m k c hj hk q, slot_other u n j m k d hj hk q) (a.slots m k hk h));
  }
