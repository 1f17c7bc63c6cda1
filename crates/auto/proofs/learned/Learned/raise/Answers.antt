use Rattle.std.proofs.Common.{rules}
use Rattle.auto.proofs.learned.Learned.raise.Goals as goal

pub returns-clause-value : goal.returns-clause-value
returns-clause-value c = search rules

pub returns-clause-kept : goal.returns-clause-kept
returns-clause-kept c = search rules

pub returns-clause-window : goal.returns-clause-window
returns-clause-window c = search rules
