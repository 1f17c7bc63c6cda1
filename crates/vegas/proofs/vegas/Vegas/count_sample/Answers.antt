use Rattle.std.proofs.Common.{rules}
use Rattle.vegas.proofs.vegas.Vegas.count_sample.Goals as goal

pub returns-then-self-eq0-clause-probes : goal.returns-then-self-eq0-clause-probes
returns-then-self-eq0-clause-probes c = search rules

pub returns-then-self-eq0-clause-counted : goal.returns-then-self-eq0-clause-counted
returns-then-self-eq0-clause-counted c = search rules

pub returns-then-self-clause-probes : goal.returns-then-self-clause-probes
returns-then-self-clause-probes c = search rules

pub returns-then-self-clause-counted : goal.returns-then-self-clause-counted
returns-then-self-clause-counted c = search rules

pub returns-clause-probes : goal.returns-clause-probes
returns-clause-probes c = search rules

pub returns-clause-counted : goal.returns-clause-counted
returns-clause-counted c = search rules
