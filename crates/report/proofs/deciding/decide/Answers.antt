-- `decide` meets its contract, by the checks in their order; the parts of the input lie within it, since it has the right length. Assumes nothing.
use mathlib.Core.Path.{sym, ◌∙◌, ap}
use native.Mathlib.Omega.{arith}
use lib.ListN.{length-take}
use Rattle.std.proofs.lemmas.Result.{err_from_is_err_and}
use Rattle.entries.specs.Entries.{held_entries}
use Rattle.report.proofs.Inputs.{length_right, list_part}
use Rattle.report.proofs.Answers.{decided_refused, decided_version, decided_unread, decided_tested}
use Rattle.report.proofs.deciding.decide.Goals as goal

pub returns-then-wrong_length : goal.returns-then-wrong_length
returns-then-wrong_length c = decided_refused c.args.input.now (sym c.wrong_length.ensures ∙ c.if-wrong_length.true)

pub bounds-input-2 : goal.bounds-input-2
bounds-input-2 c = omega (arith, length_right c.args.input.now (sym c.wrong_length.ensures ∙ c.if-wrong_length.false))

pub returns-then-input : goal.returns-then-input
returns-then-input c = decided_version c.args.input.now (sym c.wrong_length.ensures ∙ c.if-wrong_length.false) c.if-input.true

pub slice_bounds-read-end : goal.slice_bounds-read-end
slice_bounds-read-end c = let e = length_right c.args.input.now (sym c.wrong_length.ensures ∙ c.if-wrong_length.false) in simp length-take (omega arith)

pub returns-in_err-t : goal.returns-in_err-t
returns-in_err-t c =
    let p = err_from_is_err_and c.from_residual.result c.from_residual.ensures.1 in
    rw (p.1, p.2) (decided_unread c.args.input.now (sym c.wrong_length.ensures ∙ c.if-wrong_length.false) c.if-input.false c.in_err-t.field-0.0 c.in_err-t.ensures)

pub slice_bounds-number_of-end : goal.slice_bounds-number_of-end
slice_bounds-number_of-end c = let e = length_right c.args.input.now (sym c.wrong_length.ensures ∙ c.if-wrong_length.false) in (omega arith)

pub slice_bounds-list_of-count : goal.slice_bounds-list_of-count
slice_bounds-list_of-count c = omega (arith, length_right c.args.input.now (sym c.wrong_length.ensures ∙ c.if-wrong_length.false))

pub slice_bounds-list_of-start : goal.slice_bounds-list_of-start
slice_bounds-list_of-start c = let e = length_right c.args.input.now (sym c.wrong_length.ensures ∙ c.if-wrong_length.false) in (omega arith)

pub returns : goal.returns
returns c =
    c.of_test.ensures
    ∙ decided_tested c.args.input.now (sym c.wrong_length.ensures ∙ c.if-wrong_length.false) c.if-input.false c.in_ok-t.t c.in_ok-t.ensures
    _ c.number_of-members.ensures _ (c.list_of-list.ensures ∙ ap held_entries (list_part c.args.input.now)) c.test.result c.test.ensures
