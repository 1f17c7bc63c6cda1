use Rattle.std.proofs.Common.{rules}
use Rattle.ports.proofs.shared.Port.ask_until.Goals as goal

pub returns-clause-told : goal.returns-clause-told
returns-clause-told g c = search rules

pub returns-clause-answered : goal.returns-clause-answered
returns-clause-answered g c = search rules

pub returns-clause-late : goal.returns-clause-late
returns-clause-late g c = search rules

pub returns-clause-over : goal.returns-clause-over
returns-clause-over g c = search rules
