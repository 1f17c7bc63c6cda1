use Rattle.auto.proofs.Rises.{rises_at_the_base}
use Rattle.auto.proofs.laws.rises_at_the_base.Goals as goal

pub returns : goal.returns
returns c = rises_at_the_base
