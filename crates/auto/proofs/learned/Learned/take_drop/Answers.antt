use Rattle.std.proofs.Common.{rules}
use Rattle.auto.proofs.learned.Learned.take_drop.Goals as goal

pub returns-then-self-clause-value : goal.returns-then-self-clause-value
returns-then-self-clause-value c = search rules

pub returns-then-self-clause-kept : goal.returns-then-self-clause-kept
returns-then-self-clause-kept c = search rules

pub returns-then-self-clause-room : goal.returns-then-self-clause-room
returns-then-self-clause-room c = search rules

pub returns-then-ends_early-clause-value : goal.returns-then-ends_early-clause-value
returns-then-ends_early-clause-value c = search rules

pub returns-then-ends_early-clause-kept : goal.returns-then-ends_early-clause-kept
returns-then-ends_early-clause-kept c = search rules

pub returns-then-ends_early-clause-room : goal.returns-then-ends_early-clause-room
returns-then-ends_early-clause-room c = search rules

pub returns-else-ends_early-clause-value : goal.returns-else-ends_early-clause-value
returns-else-ends_early-clause-value c = search rules

pub returns-else-ends_early-clause-kept : goal.returns-else-ends_early-clause-kept
returns-else-ends_early-clause-kept c = search rules

pub returns-else-ends_early-clause-room : goal.returns-else-ends_early-clause-room
returns-else-ends_early-clause-room c = search rules
