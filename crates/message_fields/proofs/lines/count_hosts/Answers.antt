use Rattle.std.proofs.Common.{rules}
use Rattle.message_fields.proofs.lines.count_hosts.Goals as goal

pub returns : goal.returns
returns c = search rules
