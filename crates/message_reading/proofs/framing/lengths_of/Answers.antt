use Rattle.std.proofs.Common.{rules}
use Rattle.message_reading.proofs.framing.lengths_of.Goals as goal

pub returns-then-codings-gt0-2 : goal.returns-then-codings-gt0-2
returns-then-codings-gt0-2 c = search rules
