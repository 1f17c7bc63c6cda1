use Rattle.std.proofs.Common.{rules}
use Rattle.message_fields.proofs.target.is_target.Goals as goal

pub returns-then-eq-2 : goal.returns-then-eq-2
returns-then-eq-2 c = search rules

pub returns-else-eq-2 : goal.returns-else-eq-2
returns-else-eq-2 c = search rules
