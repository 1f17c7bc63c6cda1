use Rattle.std.proofs.Common.{rules}
use Rattle.wire.proofs.request_reading.request_of.Goals as goal

pub returns : goal.returns
returns c = search rules
