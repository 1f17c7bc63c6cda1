use Rattle.message_parts.specs.declared.field.Field.TheVariants as field
use Rattle.message_fields.proofs.FieldNames.{has_name, has_other_name}
use Rattle.message_fields.proofs.fields.is_connection.Goals as goal

pub returns-in-Connection : goal.returns-in-Connection
returns-in-Connection c =
    has_name field.Connection c.field.result c.args.line.now.name (λ e. cc) c.field.ensures
    c.in-Connection.is

pub returns-in_default : goal.returns-in_default
returns-in_default c =
    has_other_name field.Connection c.field.result c.args.line.now.name (λ e. cc) c.field.ensures
    c.in_default.not-Connection
