use Rattle.windowed.proofs.InnerRuns.{inner_runs}
use Rattle.windowed.proofs.laws.inner_runs_over_windows.Goals as goal

pub returns : goal.returns
returns g c = inner_runs g.L.Limit.rules
