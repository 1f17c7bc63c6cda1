use Rattle.std.proofs.Common.{rules}
use Rattle.auto.proofs.learned.Learned.take_answer.Goals as goal

pub returns-then-self-ne0-clause-value : goal.returns-then-self-ne0-clause-value
returns-then-self-ne0-clause-value c = search rules

pub returns-then-self-ne0-clause-kept : goal.returns-then-self-ne0-clause-kept
returns-then-self-ne0-clause-kept c = search rules

pub returns-then-self-ne0-clause-room : goal.returns-then-self-ne0-clause-room
returns-then-self-ne0-clause-room c = search rules

pub returns-then-needed-self-clause-value : goal.returns-then-needed-self-clause-value
returns-then-needed-self-clause-value c = search rules

pub returns-then-needed-self-clause-kept : goal.returns-then-needed-self-clause-kept
returns-then-needed-self-clause-kept c = search rules

pub returns-then-needed-self-clause-room : goal.returns-then-needed-self-clause-room
returns-then-needed-self-clause-room c = search rules

pub returns-else-needed-self-clause-value : goal.returns-else-needed-self-clause-value
returns-else-needed-self-clause-value c = search rules

pub returns-else-needed-self-clause-kept : goal.returns-else-needed-self-clause-kept
returns-else-needed-self-clause-kept c = search rules

pub returns-else-needed-self-clause-room : goal.returns-else-needed-self-clause-room
returns-else-needed-self-clause-room c = search rules
