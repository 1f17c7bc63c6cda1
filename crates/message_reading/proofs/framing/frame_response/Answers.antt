use Rattle.std.proofs.Common.{rules}
use Rattle.message_reading.proofs.framing.frame_response.Goals as goal

pub returns-then-is_head : goal.returns-then-is_head
returns-then-is_head c = search rules
