use Rattle.std.proofs.Common.{rules}
use Rattle.message_parts.proofs.headers.Headers.new.Goals as goal

pub returns : goal.returns
returns c = search rules
