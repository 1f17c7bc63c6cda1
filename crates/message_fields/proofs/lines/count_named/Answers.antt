use Rattle.std.proofs.Common.{rules}
use Rattle.message_fields.proofs.lines.count_named.Goals as goal

pub returns : goal.returns
returns c = search rules
