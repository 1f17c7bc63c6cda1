use Rattle.std.proofs.Common.{rules}
use Rattle.message_fields.proofs.passing.Passing.is_passed.Goals as goal

pub returns-then-is_host : goal.returns-then-is_host
returns-then-is_host c = search rules

pub returns-then-not-is_own : goal.returns-then-not-is_own
returns-then-not-is_own c = search rules

pub returns-else-not-is_own : goal.returns-else-not-is_own
returns-else-not-is_own c = search rules
