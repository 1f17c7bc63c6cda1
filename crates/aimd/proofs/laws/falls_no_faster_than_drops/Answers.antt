use Rattle.aimd.proofs.Decrease.{run_least}
use Rattle.aimd.proofs.laws.falls_no_faster_than_drops.Goals as goal

pub returns : goal.returns
returns c = run_least
