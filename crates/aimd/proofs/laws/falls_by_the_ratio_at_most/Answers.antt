use Rattle.aimd.proofs.Decrease.{next_least}
use Rattle.aimd.proofs.laws.falls_by_the_ratio_at_most.Goals as goal

pub returns : goal.returns
returns c = next_least
