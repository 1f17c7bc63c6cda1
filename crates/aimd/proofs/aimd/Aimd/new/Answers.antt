use Rattle.std.proofs.Common.{rules}
use Rattle.aimd.proofs.aimd.Aimd.new.Goals as goal

pub returns-clause-made : goal.returns-clause-made
returns-clause-made c = search rules

pub returns-clause-value : goal.returns-clause-value
returns-clause-value c = search rules

pub returns-clause-range : goal.returns-clause-range
returns-clause-range c = search rules

pub returns-clause-ratio : goal.returns-clause-ratio
returns-clause-ratio c = search rules
