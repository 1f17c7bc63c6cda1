use Rattle.std.proofs.Common.{rules}
use Rattle.script.proofs.fault_kind.FaultKind.text.Goals as goal

pub returns-in-Words : goal.returns-in-Words
returns-in-Words c = search rules

pub returns-in-Late : goal.returns-in-Late
returns-in-Late c = search rules

pub returns-in-Twice : goal.returns-in-Twice
returns-in-Twice c = search rules

pub returns-in-Value : goal.returns-in-Value
returns-in-Value c = search rules

pub returns-in-Class : goal.returns-in-Class
returns-in-Class c = search rules
