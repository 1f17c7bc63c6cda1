use Rattle.gate_word.proofs.Moves.{begins}
use Rattle.gate_word.proofs.word.LogLength.new.Goals as goal

pub of_words-requires : goal.of_words-requires
of_words-requires g c = begins
