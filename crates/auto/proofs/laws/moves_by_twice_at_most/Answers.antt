use Rattle.auto.proofs.Steps.{moves_by_twice}
use Rattle.auto.proofs.laws.moves_by_twice_at_most.Goals as goal

pub returns : goal.returns
returns c = moves_by_twice
