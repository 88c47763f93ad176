-- `take_grant::import` meets its contract: the first check of the head that fails decides, and then the walk. Assumes nothing.
use mathlib.Core.Path.{sym, ◌∙◌, ap}
use native.Mathlib.Omega.{arith}
use lib.ListN.{length-take}
use Rattle.take_grant.specs.Imports.{imported, import_of}
use Rattle.take_grant.proofs.Heads.{walk_short, walk_length, walk_version, walk_count, walk_entities}
use Rattle.take_grant.proofs.import.Goals as goal

pub returns-then-bytes-lt-HEAD_LENGTH : goal.returns-then-bytes-lt-HEAD_LENGTH
unfolding import_of
returns-then-bytes-lt-HEAD_LENGTH c = sym (ap imported (walk_short c.args.bytes.now (omega arith)))

pub number_of-said-requires : goal.number_of-said-requires
number_of-said-requires c = simp length-take (omega arith)

pub returns-then-said-bytes : goal.returns-then-said-bytes
unfolding import_of
returns-then-said-bytes c = sym (ap imported (walk_length c.args.bytes.now (omega arith) (λ e. c.if-said-bytes.true (c.number_of-said.ensures ∙ e))))

pub returns-then-bytes-ne1 : goal.returns-then-bytes-ne1
unfolding import_of
returns-then-bytes-ne1 c = sym (ap imported (walk_version c.args.bytes.now (omega arith) (sym c.number_of-said.ensures ∙ c.if-said-bytes.false) c.if-bytes-ne1.true))

pub returns-then-count-gt64 : goal.returns-then-count-gt64
unfolding import_of
returns-then-count-gt64 c = sym (ap imported (walk_count c.args.bytes.now (omega arith) (sym c.number_of-said.ensures ∙ c.if-said-bytes.false) c.if-bytes-ne1.false c.if-count-gt64.true))

pub returns : goal.returns
unfolding import_of
returns c = c.entities.ensures ∙ sym (ap imported (walk_entities c.args.bytes.now (omega arith) (sym c.number_of-said.ensures ∙ c.if-said-bytes.false) c.if-bytes-ne1.false (omega arith)))
