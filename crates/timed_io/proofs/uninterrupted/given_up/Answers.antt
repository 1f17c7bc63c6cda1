use Rattle.std.proofs.Common.{rules}
use Rattle.timed_io.proofs.uninterrupted.given_up.Goals as goal

pub returns : goal.returns
returns c = search rules
