use Rattle.auto.proofs.Rises.{roofs_end}
use Rattle.auto.proofs.laws.roofs_end.Goals as goal

pub returns : goal.returns
returns c = roofs_end
