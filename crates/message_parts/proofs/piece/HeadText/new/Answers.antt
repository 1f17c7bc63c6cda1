use Rattle.std.proofs.Common.{rules}
use Rattle.message_parts.proofs.piece.HeadText.new.Goals as goal

pub returns : goal.returns
returns c = search rules
