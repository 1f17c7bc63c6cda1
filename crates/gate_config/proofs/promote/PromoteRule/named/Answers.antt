use Rattle.std.proofs.Common.{rules}
use Rattle.gate_config.proofs.promote.PromoteRule.named.Goals as goal

pub returns-in-newest : goal.returns-in-newest
returns-in-newest c = search rules

pub returns-in-all : goal.returns-in-all
returns-in-all c = search rules

pub returns-in_default : goal.returns-in_default
returns-in_default c = search rules
