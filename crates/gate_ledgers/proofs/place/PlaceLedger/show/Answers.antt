use Rattle.std.proofs.Common.{rules}
use Rattle.gate_ledgers.proofs.place.PlaceLedger.show.Goals as goal

pub returns-clause-same : goal.returns-clause-same
returns-clause-same c = search rules

pub returns-clause-more : goal.returns-clause-more
returns-clause-more c = search rules
