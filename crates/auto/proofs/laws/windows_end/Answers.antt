use Rattle.auto.proofs.Windows.{windows_end}
use Rattle.auto.proofs.laws.windows_end.Goals as goal

pub returns : goal.returns
returns c = windows_end
