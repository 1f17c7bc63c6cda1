use Rattle.std.proofs.Common.{rules}
use Rattle.message_reading.proofs.chunks.read_piece.Goals as goal

pub returns-clause-piece : goal.returns-clause-piece
returns-clause-piece c = search rules
