use Rattle.std.proofs.Common.{◌∙◌, sym, ne_eqb}
use Rattle.message_parts.proofs.SameName.{same_name-test, other_length}
use Rattle.message_parts.proofs.names.is_same_name.Goals as goal

pub returns-then-one-other : goal.returns-then-one-other
returns-then-one-other c =
    same_name-test c.eq_ignore_ascii_case.result c.args.one.now c.args.other.now
    c.eq_ignore_ascii_case.ensures.test

pub returns-else-one-other : goal.returns-else-one-other
returns-else-one-other c =
    ne_eqb _ _ c.if-one-other.false
    ∙ sym (other_length c.args.one.now c.args.other.now c.if-one-other.false)
