use Rattle.std.proofs.Common.{rules}
use Rattle.message_fields.proofs.passing.Passing.is_passed_in_request.Goals as goal

pub returns-then-is_passed : goal.returns-then-is_passed
returns-then-is_passed c = search rules
