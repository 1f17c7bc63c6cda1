use Rattle.std.proofs.Common.{rules}
use Rattle.trace.proofs.reading.read_trace.Goals as goal

pub returns-clause-settings : goal.returns-clause-settings
returns-clause-settings c = search rules

pub returns-clause-arrivals : goal.returns-clause-arrivals
returns-clause-arrivals c = search rules

pub returns-clause-fault : goal.returns-clause-fault
returns-clause-fault c = search rules
