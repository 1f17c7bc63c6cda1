use Rattle.std.proofs.Common.{rules}
use Rattle.vegas.proofs.vegas.Vegas.new.Goals as goal

pub returns-clause-made : goal.returns-clause-made
returns-clause-made c = search rules

pub returns-clause-value : goal.returns-clause-value
returns-clause-value c = search rules

pub returns-clause-range : goal.returns-clause-range
returns-clause-range c = search rules

pub returns-clause-alpha : goal.returns-clause-alpha
returns-clause-alpha c = search rules
