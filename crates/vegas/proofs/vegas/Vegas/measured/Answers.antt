use Rattle.std.proofs.Common.{rules}
use Rattle.vegas.proofs.vegas.Vegas.measured.Goals as goal

pub returns-then-dropped : goal.returns-then-dropped
returns-then-dropped c = search rules

pub returns-then-from : goal.returns-then-from
returns-then-from c = search rules

pub returns-then-queue-from : goal.returns-then-queue-from
returns-then-queue-from c = search rules

pub returns-then-from-queue : goal.returns-then-from-queue
returns-then-from-queue c = search rules

pub returns-else-from-queue : goal.returns-else-from-queue
returns-else-from-queue c = search rules
