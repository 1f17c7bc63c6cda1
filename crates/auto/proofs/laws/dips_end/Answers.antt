use Rattle.auto.proofs.Rises.{dips_end}
use Rattle.auto.proofs.laws.dips_end.Goals as goal

pub returns : goal.returns
returns c = dips_end
