use Rattle.std.proofs.Common.{rules}
use Rattle.auto.proofs.learned.Learned.ends_early.Goals as goal

pub returns-then-needed-window-clause-some : goal.returns-then-needed-window-clause-some
returns-then-needed-window-clause-some c = search rules

pub returns-else-needed-window-clause-some : goal.returns-else-needed-window-clause-some
returns-else-needed-window-clause-some c = search rules
