use Rattle.aimd.proofs.Decrease.{decrease_is}
use Rattle.aimd.proofs.laws.decreases_to_the_greatest.Goals as goal

pub returns : goal.returns
returns c = decrease_is
