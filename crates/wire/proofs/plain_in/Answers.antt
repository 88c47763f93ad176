-- `plain_in` meets its contract, by the code and the length: each field is the byte at its place, and no others fit. Assumes nothing.
use Rattle.std.proofs.Common.{arith}
use Rattle.wire.proofs.Parsed.{read_plain, write_plain, fetch_plain, store_plain, revoke_plain, destroy_plain, reclaim_plain, none_plain}
use Rattle.wire.proofs.plain_in.Goals as goal

pub returns-in-1 : goal.returns-in-1
returns-in-1 c = read_plain c.args.bytes.now (omega arith) (omega arith)

pub returns-in-2 : goal.returns-in-2
returns-in-2 c = write_plain c.args.bytes.now (omega arith) (omega arith) _ c.from_be_bytes.ensures

pub returns-in-3 : goal.returns-in-3
returns-in-3 c = fetch_plain c.args.bytes.now (omega arith) (omega arith)

pub returns-in-4 : goal.returns-in-4
returns-in-4 c = store_plain c.args.bytes.now (omega arith) (omega arith)

pub returns-in-5 : goal.returns-in-5
returns-in-5 c = revoke_plain c.args.bytes.now (omega arith) (omega arith)

pub returns-in-8 : goal.returns-in-8
returns-in-8 c = destroy_plain c.args.bytes.now (omega arith) (omega arith)

pub returns-in-9 : goal.returns-in-9
returns-in-9 c = reclaim_plain c.args.bytes.now (omega arith) (omega arith)

pub returns-in_default : goal.returns-in_default
returns-in_default c = none_plain c.args.bytes.now c.requires.0 c.requires.1
    (λ e l. omega arith) (λ e l. omega arith) (λ e l. omega arith) (λ e l. omega arith) (λ e l. omega arith) (λ e l. omega arith) (λ e l. omega arith)

pub returns-in_default-2 : goal.returns-in_default-2
returns-in_default-2 c = none_plain c.args.bytes.now c.requires.0 c.requires.1
    (λ e l. omega arith) (λ e l. omega arith) (λ e l. omega arith) (λ e l. omega arith) (λ e l. omega arith) (λ e l. omega arith) (λ e l. omega arith)

pub returns-in_default-3 : goal.returns-in_default-3
returns-in_default-3 c = none_plain c.args.bytes.now c.requires.0 c.requires.1
    (λ e l. omega arith) (λ e l. omega arith) (λ e l. omega arith) (λ e l. omega arith) (λ e l. omega arith) (λ e l. omega arith) (λ e l. omega arith)

pub returns-in_default-4 : goal.returns-in_default-4
returns-in_default-4 c = none_plain c.args.bytes.now c.requires.0 c.requires.1
    (λ e l. omega arith) (λ e l. omega arith) (λ e l. omega arith) (λ e l. omega arith) (λ e l. omega arith) (λ e l. omega arith) (λ e l. omega arith)

pub returns-in_default-5 : goal.returns-in_default-5
returns-in_default-5 c = none_plain c.args.bytes.now c.requires.0 c.requires.1
    (λ e l. omega arith) (λ e l. omega arith) (λ e l. omega arith) (λ e l. omega arith) (λ e l. omega arith) (λ e l. omega arith) (λ e l. omega arith)

pub returns-in_default-6 : goal.returns-in_default-6
returns-in_default-6 c = none_plain c.args.bytes.now c.requires.0 c.requires.1
    (λ e l. omega arith) (λ e l. omega arith) (λ e l. omega arith) (λ e l. omega arith) (λ e l. omega arith) (λ e l. omega arith) (λ e l. omega arith)

pub returns-in_default-7 : goal.returns-in_default-7
returns-in_default-7 c = none_plain c.args.bytes.now c.requires.0 c.requires.1
    (λ e l. omega arith) (λ e l. omega arith) (λ e l. omega arith) (λ e l. omega arith) (λ e l. omega arith) (λ e l. omega arith) (λ e l. omega arith)
