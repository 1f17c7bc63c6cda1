use Rattle.std.proofs.Common.{rules}
use Rattle.message_reading.proofs.body.read_body.Goals as goal

pub returns : goal.returns
returns g c = search rules
