use Rattle.std.proofs.Common.{rules}
use Rattle.audit.proofs.judge.first_cause.Goals as goal

pub returns-in-Some : goal.returns-in-Some
returns-in-Some g c = search rules
