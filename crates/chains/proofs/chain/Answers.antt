-- `chain` is the definition: each way out is a law of Ways over what the checks found. Assumes nothing.
use mathlib.Core.Path.{sym, ◌∙◌, ap}
use mathlib.Core.Bool.{true}
use Prim.Native.Nat.{ℕ}
use native.Mathlib.Omega.{arith}
use Rattle.table.proofs.Value.{value_sized}
use Rattle.bounds.specs.StandIn.{entries_of}
use Rattle.walks.specs.Chains.{least_chain}
use Rattle.confinement.specs.Links.{object_link}
use Rattle.chains.proofs.Words.{accepted_ok, accepted_sound, accepted_low, least_words, least_in_range}
use Rattle.chains.proofs.Ways.{refused_test, verdict_accepted, out_18, inside, out_19, out_0}
use Rattle.chains.proofs.chain.Goals as goal

pub returns-in_err-tested : goal.returns-in_err-tested
returns-in_err-tested c = refused_test c.args.t c.args.members (entries_of c.args.list) c.args.object _ (sym c.in_err-tested.was ∙ c.test.ensures) _ c.from_residual.ensures.1

pub returns-then-not-has : goal.returns-then-not-has
returns-then-not-has c = let a = c.args in
    out_18 a.t a.members (entries_of a.list) a.object _ (sym c.in_ok-tested.was ∙ c.test.ensures) (value_sized a.t _ c.well_formed.0) _ c.born_outside-outside.ensures _ c.has.ensures c.if-not-has.true

pub returns-then-not-has-2 : goal.returns-then-not-has-2
returns-then-not-has-2 c = let a = c.args in
    out_19 a.t a.members (entries_of a.list) a.object _ (sym c.in_ok-tested.was ∙ c.test.ensures) (value_sized a.t _ c.well_formed.0) _ c.born_outside-outside.ensures _ c.has.ensures c.if-not-has.false _ c.has-2.ensures c.if-not-has-2.true

pub overflow_cast-x : goal.overflow_cast-x
overflow_cast-x c = let a = c.args in
    let k = verdict_accepted a.t a.members (entries_of a.list) a.object _ (sym c.in_ok-tested.was ∙ c.test.ensures) in
    let h = accepted_low a.t a.members a.list (value_sized a.t _ c.well_formed.0) k _ c.lowest-x.ensures in
    omega (arith, h)

pub chain_links-words-requires : goal.chain_links-words-requires
chain_links-words-requires c = let a = c.args in
    (verdict_accepted a.t a.members (entries_of a.list) a.object _ (sym c.in_ok-tested.was ∙ c.test.ensures), c.born_outside-outside.ensures, c.lowest-x.ensures)

pub least-requires : goal.least-requires
least-requires c = let a = c.args in
    let s = sym c.in_ok-tested.was ∙ c.test.ensures in
    let k = verdict_accepted a.t a.members (entries_of a.list) a.object _ s in
    let z = value_sized a.t _ c.well_formed.0 in
    let b = inside a.t a.members (entries_of a.list) a.object _ s z _ c.born_outside-outside.ensures _ c.has.ensures c.if-not-has.false _ c.has-2.ensures true c.if-not-has-2.false in
    (accepted_low a.t a.members a.list z k _ c.lowest-x.ensures, least_in_range a.t a.members (entries_of a.list) (accepted_sound a.t a.members a.list z k) (accepted_ok a.t a.members a.list z k) _ _ a.object c.chain_links-words.ensures c.lowest-x.ensures b)

pub returns : goal.returns
returns c = let a = c.args in
    let s = sym c.in_ok-tested.was ∙ c.test.ensures in
    let k = verdict_accepted a.t a.members (entries_of a.list) a.object _ s in
    let z = value_sized a.t _ c.well_formed.0 in
    let w = least_words a.t a.members (entries_of a.list) (accepted_sound a.t a.members a.list z k) (accepted_ok a.t a.members a.list z k) _ c.lowest-x.result a.object c.chain_links-words.ensures in
    out_0 a.t a.members (entries_of a.list) a.object _ s z _ c.born_outside-outside.ensures _ c.has.ensures c.if-not-has.false _ c.has-2.ensures c.if-not-has-2.false _ _ c.least.ensures
    (w ∙ ap (λ (u : ℕ). least_chain (object_link a.t a.members (entries_of a.list)) u a.object) c.lowest-x.ensures)
