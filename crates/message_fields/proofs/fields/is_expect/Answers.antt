use Rattle.message_parts.specs.declared.field.Field.TheVariants as field
use Rattle.message_fields.proofs.FieldNames.{has_name, has_other_name}
use Rattle.message_fields.proofs.fields.is_expect.Goals as goal

pub returns-in-Expect : goal.returns-in-Expect
returns-in-Expect c =
    has_name field.Expect c.field.result c.args.line.now.name (λ e. cc) c.field.ensures
    c.in-Expect.is

pub returns-in_default : goal.returns-in_default
returns-in_default c =
    has_other_name field.Expect c.field.result c.args.line.now.name (λ e. cc) c.field.ensures
    c.in_default.not-Expect
