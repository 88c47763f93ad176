-- `head_reply` meets its contract: each check that fails gives its refusal. Assumes nothing.
use mathlib.Core.Path.{sym, ◌∙◌}
use native.Mathlib.Omega.{arith}
use Rattle.std.proofs.lemmas.Result.{err_from_is_err_and}
use Rattle.octets.specs.BigEndian.{byte_at}
use Rattle.image.proofs.Places.{starts_right, starts_wrong}
use Rattle.image.proofs.Replies.{says_none, says_some, byte_is, head_short, head_unknown, head_length, head_field, head_fits}
use Rattle.image.proofs.head_reply.Goals as goal
use Rattle.image.proofs.head_reply.Goals.{then-image-image_length-via-then-image-image_length, then-image-image_length-via-else-image-image_length+then-not-starts_with}

pub returns-then-image-lt3 : goal.returns-then-image-lt3
returns-then-image-lt3 c = sym (head_short c.args.image.now c.if-image-lt3.true)

pub returns-in_err-v : goal.returns-in_err-v
returns-in_err-v c =
    let b = c.args.image.now in
    let p = err_from_is_err_and c.from_residual.result c.from_residual.ensures.1 in
    let s = says_none (byte_at b 2) c.in_err-v.field-0.0 c.in_err-v.ensures in
    rw (p.1, p.2, s.1) (sym (head_unknown b (omega arith) s.0))

pub returns-then-image-image_length : goal.returns-then-image-image_length
returns-then-image-image_length c =
    let b = c.args.image.now in
    let v = c.in_ok-v.v in
    let s = says_some (byte_at b 2) v c.in_ok-v.ensures in
    elim c.then-image-image_length.branch [
      | then-image-image_length-via-then-image-image_length w ↦ sym (head_length b (omega arith) v s (λ e. w.if-image-image_length.true (e ∙ sym c.image_length.ensures)))
      | then-image-image_length-via-else-image-image_length+then-not-starts_with w ↦
          sym (head_field b (omega arith) v s (starts_wrong v b w.head.result w.head.ensures (λ i. (c.type_inv.image i).fits) (omega arith) (byte_is (byte_at b 2) v s)
          (sym w.starts_with.ensures.value ∙ w.if-not-starts_with.true)))
    ]

pub returns : goal.returns
returns c =
    let b = c.args.image.now in
    let v = c.in_ok-v.v in
    sym (head_fits b (omega arith) v (says_some (byte_at b 2) v c.in_ok-v.ensures) (c.if-image-image_length.false ∙ c.image_length.ensures)
    (starts_right v b c.head.result c.head.ensures (sym c.starts_with.ensures.value ∙ c.if-not-starts_with.false)))
