use Rattle.windowed.proofs.Cuttings.{cuts}
use Rattle.windowed.proofs.laws.cuts_into_windows.Goals as goal

pub returns : goal.returns
returns c = cuts
