use Rattle.std.proofs.Common.{rules}
use Rattle.message_parts.proofs.headers.Headers.as_slice.Goals as goal

pub returns : goal.returns
returns c = search rules
