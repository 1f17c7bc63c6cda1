use Rattle.std.proofs.Common.{◌∙◌, sym, rules}
use Rattle.message_fields.proofs.First.{digits_some}
use Rattle.message_fields.proofs.length.length_digits.Goals as goal

pub returns-then-is_length : goal.returns-then-is_length
returns-then-is_length c =
    let is = digits_some c.args.lines.now c.in_ok-first_length.field-0.now
    c.first_part-first.result.now (sym c.in_ok-first_length.ensures) c.first_part-first.ensures in
    let yes = sym c.is_length.ensures ∙ c.if-is_length.true in
    rw (is, yes) (search rules)

pub returns-else-is_length : goal.returns-else-is_length
returns-else-is_length c =
    let is = digits_some c.args.lines.now c.in_ok-first_length.field-0.now
    c.first_part-first.result.now (sym c.in_ok-first_length.ensures) c.first_part-first.ensures in
    let no = sym c.is_length.ensures ∙ c.if-is_length.false in
    rw (is, no) (search rules)
