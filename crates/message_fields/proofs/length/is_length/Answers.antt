use Rattle.std.proofs.Common.{rules}
use Rattle.message_fields.proofs.length.is_length.Goals as goal

pub returns-then-is_digits : goal.returns-then-is_digits
returns-then-is_digits c = search rules

pub returns-else-is_digits : goal.returns-else-is_digits
returns-else-is_digits c = search rules
