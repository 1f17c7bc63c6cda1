use Rattle.message_fields.proofs.FieldNames.{own_is, own_is_not}
use Rattle.message_fields.proofs.fields.is_own.Goals as goal

pub returns-in-Host : goal.returns-in-Host
returns-in-Host c =
    own_is_not c.field.result c.args.line.now.name c.field.ensures c.in-Host.is

pub returns-in_default : goal.returns-in_default
returns-in_default c =
    own_is c.field.result c.args.line.now.name c.field.ensures
    c.in_default.not-Host
    c.in_default.not-Expect c.in_default.not-Other
