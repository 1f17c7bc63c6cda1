use Rattle.std.proofs.Common.{rules}
use Rattle.message_parts.proofs.headers.Headers.len.Goals as goal

pub returns : goal.returns
returns c = search rules
