use Rattle.body_memory.proofs.Moves.{begins}
use Rattle.body_memory.proofs.shared.SharedBodies.new.Goals as goal

pub of_words-requires : goal.of_words-requires
of_words-requires c = begins _
