-- What 2.3 claims of the test. Exactly wk passes, whatever is listed, and so two tables, both sound or neither, that differ only in
-- members' slots that are empty or hold exactly wk get the same answer; any other capability of a member needs each of its rights
-- listed; an entry of wk alone stays legal; and an accepted test gives the same verdict, bound and rounds with such entries put in.
-- Assumes nothing.
use mathlib.Core.Path.{◌≡◌, refl, sym, ◌∙◌, ap, ap₂, fun_ext}
use mathlib.Core.Logic.{⊎_elim}
use mathlib.Core.Bool.{Bool, true, false, not, ◌&&◌, ◌||◌}
use mathlib.Core.List.{List}
use Prim.Native.Nat.{ℕ}
use lib.Dec.{ltb, eqb}
use lib.ListN.{length}
use borrow.Author.Tests.{eqb-true, eq-eqb, ne_eqb}
use Rattle.mask.specs.Sets.{has, any_below}
use Rattle.mask.proofs.Tests.{by_cases, by_eq, clash, and_true, and_intro, and_false, or_cases, or_left, or_right, imply_intro}
use Rattle.mask.proofs.Below.{any_ext}
use Rattle.mask.proofs.Bits.{has_zero}
use Rattle.table.specs.declared.Capability.{Capability}
use Rattle.table.specs.declared.Record.{Record}
use Rattle.table.specs.declared.Table.{Table}
use Rattle.table.specs.Cells.{slot_at, is_alive, is_empty}
use Rattle.table.specs.Soundness.{sound}
use Rattle.relation.specs.Relation.{Right, rd, wr, wk, tx, bit_at}
use Rattle.relation.proofs.Tables.{part_same}
use Rattle.links.specs.Links.{capability_link}
use Rattle.links.specs.Rounds.{rounds_from}
use Rattle.bounds.specs.StandIn.{entry_at, listed, stand_in, bound_of}
use Rattle.bounds.specs.Agreement.{AgreeOutside}
use Rattle.bounds.specs.Exactness.{BoundBlind, WithWeak, WeakEntriesFree}
use Rattle.bounds.proofs.Exact.{bound_blind}
use Rattle.bounds.proofs.Weak.{some_same, listed_still, weak_entries_free}
use Rattle.std.specs.Prelude.{Ok}
use Rattle.std.specs.Result.{result_and}
use Rattle.confinement.specs.Refusals.{Accepted, verdict_number, bad_members, bad_entry, bad_list, right_listed, all_listed, passes, bad_held, member_held, verdict_of}
use Rattle.confinement.specs.Links.{slots_link, list_link, linked, object_link}
use Rattle.confinement.specs.Rounds.{rounds_of}
use Rattle.confinement.specs.Tests.{test_of}
use Rattle.confinement.specs.Exactness.{WeakPasses, empty_or_weak, AlikeButWeak, WeakNoMatter, OthersListed, WeakLegal, WeakChangesNothing, RoundsBlind}
use Rattle.confinement.proofs.Scans.{missing}
use Rattle.confinement.proofs.TestFacts.{listed_each, passed_listed, no_row, slot_passes, accepted_facts}
use Rattle.confinement.proofs.Rounds.{rounds_blind}
use Rattle.confinement.proofs.Verdicts.{accepted_is, accepted}

pub weak_passes : WeakPasses
unfolding WeakPasses passes
weak_passes list c e = or_left (eqb c.rights 4) _ (eq-eqb c.rights 4 e)

each_listed : (list : List Capability) (c : Capability) → ((b : Right) → has (bit_at b) c.rights ≡ true → listed list b c.target ≡ true) → all_listed list c ≡ true
unfolding all_listed
each_listed list c f =
    let one : (b : Right) → right_listed list c b ≡ true = λ b. imply_intro (has (bit_at b) c.rights) (listed list b c.target) (f b) in
    and_intro _ _ (and_intro _ _ (and_intro _ _ (one rd) (one wr)) (one wk)) (one tx)

listed_passes : (list : List Capability) (c : Capability) → all_listed list c ≡ true → passes list c ≡ true
unfolding passes
listed_passes list c e = or_right (eqb c.rights 4) _ e

pub others_listed : OthersListed
unfolding OthersListed
others_listed list c n = (
  λ e b h. listed_each list c b (passed_listed list c e n) h,
  λ f. listed_passes list c (each_listed list c f),
)

-- an empty slot and exactly wk pass, whatever is listed
empty_or_weak_passes : (list : List Capability) (c : Capability) → empty_or_weak c ≡ true → passes list c ≡ true
unfolding WeakPasses
empty_or_weak_passes list c e = or_cases (is_empty c) (eqb c.rights 4) e
    (λ q. let z = eqb-true c.rights 0 (and_true (eqb c.target 0) (eqb c.rights 0) q).1 in
    listed_passes list c (each_listed list c (λ b h. clash h (ap (has (bit_at b)) z ∙ has_zero (bit_at b)))))
    (λ q. weak_passes list c (eqb-true c.rights 4 q))

module _ (t u : Table) (members : ℕ) (list : List Capability) (like : AlikeButWeak members t u) where
  same_members : bad_members t members ≡ bad_members u members
  unfolding bad_members
  same_members = ap (λ (b : Bool). not (any_below 64 (λ n. has n members)) || b)
      (any_ext 64 _ _ (λ n h. ap (λ (r : Record). has n members && not (is_alive r)) (like.records n h)))

  same_list : bad_list t members list ≡ bad_list u members list
  unfolding bad_list bad_entry
  same_list = ap (λ (b : Bool). ltb 8 (length list) || b)
      (any_ext (length list) _ _ (λ k h. let e = entry_at list k in
      ap (λ (b : Bool). eqb e.rights 0 || ltb 15 e.rights || not b || has e.target members) (part_same t u e.target (like.records e.target))))

  -- a member's slot that differs offends in neither
  fine : (c : Capability) → empty_or_weak c ≡ true → (not (has c.target members) && not (passes list c)) ≡ false
  fine c e = ap (λ (b : Bool). not (has c.target members) && not b) (empty_or_weak_passes list c e) ∙ and_false (not (has c.target members))

  same_held : bad_held t members list ≡ bad_held u members list
  unfolding bad_held
  same_held = any_ext 64 _ _ (λ n hn. by_cases (has n members)
      (λ i. ap (λ (b : Bool). has n members && b) (any_ext 8 _ _ (λ j hj. ⊎_elim
      (λ q. ap (λ (c : Capability). not (has c.target members) && not (passes list c)) q)
      (λ q. fine (slot_at t n j) q.0 ∙ sym (fine (slot_at u n j) q.1))
      (like.own n j hn hj i))))
      (λ i. rw i refl))

  same_outside : member_held t members ≡ member_held u members
  unfolding member_held
  same_outside = any_ext 64 _ _ (λ n hn. by_cases (has n members)
      (λ i. rw i refl)
      (λ i. ap (λ (b : Bool). not (has n members) && b) (any_ext 8 _ _ (λ j hj.
      ap (λ (c : Capability). not (is_empty c) && has c.target members) (like.others n j hn hj i)))))

  same_verdict : sound t ≡ sound u → verdict_of t members list ≡ verdict_of u members list
  unfolding verdict_of
  same_verdict e = cc (e, same_members, same_list, same_held, same_outside)

  agree : AgreeOutside members t u
  agree = record { records = λ n h o. like.records n h; slots = like.others }

  same_bound : bound_of t members list ≡ bound_of u members list
  unfolding BoundBlind
  same_bound = bound_blind members t u agree list

  same_rounds : rounds_of t members list ≡ rounds_of u members list
  unfolding RoundsBlind
  same_rounds = rounds_blind members t u agree list

pub weak_no_matter : WeakNoMatter
unfolding WeakNoMatter test_of
weak_no_matter t u members list e like = (λ i.
    result_and (same_verdict t u members list like e i) (Ok (record { bound = same_bound t u members list like i; rounds = same_rounds t u members list like i })))

pub weak_legal : WeakLegal
unfolding WeakLegal bad_entry
weak_legal t members e q p o = rw (q, p, o) refl

-- a longer list lets pass what passed
still_passes : {list longer : List Capability} → WithWeak list longer → (c : Capability) → passes list c ≡ true → passes longer c ≡ true
unfolding WeakPasses
still_passes {list} {longer} w c e = by_eq c.rights 4
    (λ q. weak_passes longer c q)
    (λ q. listed_passes longer c (each_listed longer c (λ b h. listed_still w b c.target (listed_each list c b (passed_listed list c e q) h))))

module _ (t : Table) (members : ℕ) (list longer : List Capability) (w : WithWeak list longer) where
  still_held : bad_held t members list ≡ false → bad_held t members longer ≡ false
  unfolding bad_held
  still_held e = missing 64 _ (λ n hn. by_cases (has n members)
      (λ i. ap₂ (λ (x y : Bool). x && y) i (missing 8 _ (λ j hj. by_cases (has (slot_at t n j).target members)
      (λ o. rw o refl)
      (λ o. rw o (ap not (still_passes w (slot_at t n j) (slot_passes t members list e n j hn hj i o)))))))
      (λ i. rw i refl))

  still_accepted : verdict_number (verdict_of t members list) ≡ 0 → bad_list t members longer ≡ false → verdict_of t members longer ≡ Accepted
  unfolding verdict_of
  still_accepted e f = let r = no_row t members list e in rw (r.row1, r.row10, f, still_held r.row12, r.row13) refl

  -- and has the same links to objects: a wk link of an entry leads to the stand-in, which is a member
  module _ (lowest : has (stand_in members) members ≡ true) where
    weak_link : (e : Capability) (u v : ℕ) → e.rights ≡ 4 → has v members ≡ false → capability_link (stand_in members) e u v ≡ false
    unfolding capability_link
    weak_link e u v q o = rw (q, ne_eqb v (stand_in members) (λ p. clash lowest (rw p at o))) (and_false (eqb u e.target))

    same_listed : (u v : ℕ) → has v members ≡ false → list_link members longer u v ≡ list_link members list u v
    unfolding list_link
    same_listed u v o = some_same (λ e. capability_link (stand_in members) e u v) (λ e q. weak_link e u v q o) w

    same_link : (u v : ℕ) → object_link t members longer u v ≡ object_link t members list u v
    unfolding object_link linked
    same_link u v = by_cases (has v members)
        (λ o. rw o refl)
        (λ o. ap (λ (b : Bool). not (has v members) && (slots_link t members u u v || slots_link t members v u v || b)) (same_listed u v o))

    still_rounds : rounds_of t members longer ≡ rounds_of t members list
    unfolding rounds_of
    still_rounds = ap (λ (edge : ℕ → ℕ → Bool). rounds_from edge (stand_in members)) (fun_ext (λ u. fun_ext (λ v. same_link u v)))

pub weak_changes_nothing : WeakChangesNothing
unfolding WeakChangesNothing WeakEntriesFree
weak_changes_nothing t members list longer e w f =
    let lowest = (accepted_facts t members list e).lowest in
    sym (accepted t members longer (still_accepted t members list longer w e f))
    ∙ (λ i. Ok (record { bound = weak_entries_free t members list longer w i; rounds = still_rounds t members list longer w lowest i }))
    ∙ accepted t members list (accepted_is (verdict_of t members list) (eq-eqb (verdict_number (verdict_of t members list)) 0 e))
