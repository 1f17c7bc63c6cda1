use Rattle.std.proofs.Common.{rules}
use Rattle.message_parts.proofs.bytes.Bytes.new.Goals as goal

pub returns : goal.returns
returns c = search rules
