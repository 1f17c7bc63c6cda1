use Rattle.aimd.proofs.Increase.{run_raised}
use Rattle.aimd.proofs.laws.rises_by_one_a_sample.Goals as goal

pub returns : goal.returns
returns c = run_raised
