use Rattle.std.proofs.Common.{rules}
use Rattle.timed_io.proofs.countdown.Countdown.until.Goals as goal

pub returns-clause-most : goal.returns-clause-most
returns-clause-most g c = search rules

pub returns-clause-deadline : goal.returns-clause-deadline
returns-clause-deadline g c = search rules
