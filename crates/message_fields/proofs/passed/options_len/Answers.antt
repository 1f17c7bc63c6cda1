use Rattle.std.proofs.Common.{rules, sym}
use Rattle.std.specs.Prelude.{codes}
use Rattle.message_fields.specs.Lines.{is_named}
use Rattle.message_fields.proofs.PartLengths.{longer_names_none}
use Rattle.message_fields.proofs.passed.options_len.Goals as goal

pub returns-then-is_connection : goal.returns-then-is_connection
returns-then-is_connection c = λ name longer.
    sym (longer_names_none (is_named (codes "connection") c.args.line.now) c.args.line.now.value
    name (search rules))
