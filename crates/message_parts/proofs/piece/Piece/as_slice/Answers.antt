use Rattle.std.proofs.Common.{rules}
use Rattle.message_parts.proofs.piece.Piece.as_slice.Goals as goal

pub returns : goal.returns
returns c = search rules
