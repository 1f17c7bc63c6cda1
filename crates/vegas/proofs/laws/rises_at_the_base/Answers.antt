use Rattle.vegas.proofs.Rises.{run_raised}
use Rattle.vegas.proofs.laws.rises_at_the_base.Goals as goal

pub returns : goal.returns
returns c = run_raised
