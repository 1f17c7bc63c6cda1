use Rattle.std.proofs.Common.{rules}
use Rattle.message_fields.proofs.lines.asks_continue.Goals as goal

pub returns : goal.returns
returns c = search rules
