use Rattle.std.proofs.Common.{arith, rules}
use Rattle.std.proofs.lemmas.Grind.{common_steps}
use Rattle.script.proofs.settings.push_row.Goals as goal

pub returns-in_err-push-clause-table : goal.returns-in_err-push-clause-table
returns-in_err-push-clause-table c = search rules

pub returns-in_err-push-clause-taken : goal.returns-in_err-push-clause-taken
returns-in_err-push-clause-taken c = search rules

pub returns-in_err-push-clause-left : goal.returns-in_err-push-clause-left
returns-in_err-push-clause-left c = search rules

pub returns-in_err-push-clause-memory : goal.returns-in_err-push-clause-memory
returns-in_err-push-clause-memory c = search rules

pub returns-then-not-matches-clause-table : goal.returns-then-not-matches-clause-table
returns-then-not-matches-clause-table c = grind (arith, common_steps)

pub returns-then-not-matches-clause-taken : goal.returns-then-not-matches-clause-taken
returns-then-not-matches-clause-taken c = search rules

pub returns-then-not-matches-clause-left : goal.returns-then-not-matches-clause-left
returns-then-not-matches-clause-left c = grind (arith, common_steps)

pub returns-then-not-matches-clause-memory : goal.returns-then-not-matches-clause-memory
returns-then-not-matches-clause-memory c = grind (arith, common_steps)

pub returns-else-not-matches-clause-table : goal.returns-else-not-matches-clause-table
returns-else-not-matches-clause-table c = grind (arith, common_steps)

pub returns-else-not-matches-clause-taken : goal.returns-else-not-matches-clause-taken
returns-else-not-matches-clause-taken c = search rules

pub returns-else-not-matches-clause-left : goal.returns-else-not-matches-clause-left
returns-else-not-matches-clause-left c = search rules

pub returns-else-not-matches-clause-memory : goal.returns-else-not-matches-clause-memory
returns-else-not-matches-clause-memory c = search rules
