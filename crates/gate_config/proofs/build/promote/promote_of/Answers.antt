use Rattle.std.proofs.Common.{rules}
use Rattle.gate_config.proofs.build.promote.promote_of.Goals as goal

pub returns-in-Newest : goal.returns-in-Newest
returns-in-Newest c = search rules

pub returns-in-All : goal.returns-in-All
returns-in-All c = search rules
