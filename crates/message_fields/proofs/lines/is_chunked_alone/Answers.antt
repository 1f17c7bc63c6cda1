use Rattle.std.proofs.Common.{rules}
use Rattle.message_fields.proofs.lines.is_chunked_alone.Goals as goal

pub returns-then-count_named-eq1 : goal.returns-then-count_named-eq1
returns-then-count_named-eq1 c = search rules

pub returns-else-count_named-eq1 : goal.returns-else-count_named-eq1
returns-else-count_named-eq1 c = search rules
