use Rattle.std.proofs.Common.{rules}
use Rattle.commands.proofs.interface.both.Goals as goal

pub returns-in_err-one-clause-one : goal.returns-in_err-one-clause-one
returns-in_err-one-clause-one g c = search rules

pub returns-in_err-one-clause-other : goal.returns-in_err-one-clause-other
returns-in_err-one-clause-other g c = search rules

pub returns-in_err-other-clause-one : goal.returns-in_err-other-clause-one
returns-in_err-other-clause-one g c = search rules

pub returns-in_err-other-clause-other : goal.returns-in_err-other-clause-other
returns-in_err-other-clause-other g c = search rules

pub returns-clause-one : goal.returns-clause-one
returns-clause-one g c = search rules

pub returns-clause-other : goal.returns-clause-other
returns-clause-other g c = search rules
