use Rattle.std.proofs.Common.{rules}
use Rattle.std.specs.Prelude.{codes}
use Rattle.message_fields.specs.Lines.{is_named}
use Rattle.message_fields.proofs.PartLengths.{longer_names_none}
use Rattle.message_fields.proofs.passed.names_field.Goals as goal

pub returns-then-value-name : goal.returns-then-value-name
returns-then-value-name c =
    longer_names_none (is_named (codes "connection") c.args.line.now) c.args.line.now.value
    c.args.name.now (search rules)
