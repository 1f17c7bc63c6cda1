use Rattle.auto.proofs.Steps.{rises_where_met}
use Rattle.auto.proofs.laws.rises_only_where_met.Goals as goal

pub returns : goal.returns
returns c = rises_where_met
