use Rattle.std.proofs.Common.{arith}
use Rattle.gate_word.proofs.Moves.{hands}
use Rattle.gate_word.proofs.steps.hand.Goals as goal

pub split_seat-requires : goal.split_seat-requires
split_seat-requires g c =
    (c.requires.table, omega (arith, c.requires.word), hands _ _)
