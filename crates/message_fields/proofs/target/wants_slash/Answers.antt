use Rattle.std.proofs.Common.{rules}
use Rattle.message_fields.proofs.target.wants_slash.Goals as goal

pub returns-then-is_absolute : goal.returns-then-is_absolute
returns-then-is_absolute c = search rules

pub returns-else-is_absolute : goal.returns-else-is_absolute
returns-else-is_absolute c = search rules
